-- What a call of the hub tells its pass and its dice.
use Rattle.std.specs.Prelude.{ℕ, ◌≡◌, ◌+◌, ◌<◌, ◌≤◌, ◌^◌, List, [], ◌∷◌, ◌++◌, length, Option, MatchOption, Result, MatchResult}
use Rattle.network_model.specs.Network.{Shape}
use Rattle.network_model.specs.History.{IsLegal}
use Rattle.network_model.specs.declared.Call.{Call}
use Rattle.network_model.specs.declared.CoreReply.{CoreReply}
use Rattle.network_model.specs.declared.Entry.{Entry}
use Rattle.network_model.specs.declared.JournalFull.{JournalFull}
use Rattle.factored_core.specs.Ready.{IsAllowedCall}
use Rattle.commit_journal.specs.Keeping.{own_count}
use Rattle.commit_journal.specs.Views.{Worker}

-- the call is its pass's and may be made, and there are words for it
pub record MayCall (shape : Shape) (call : Call) (pass : Worker) (taken : ℕ) : Type 0 where
  pub seat : call.seat ≡ pass.seat
  pub allowed : IsAllowedCall shape call
  pub words : taken < 2 ^ 63

-- the pass has seen its old list, then entries of other seats, and then the call's entry with this word and reply; the whole is legal; and the pass made one entry more, as the history has of its seat
pub record HasCalled (shape : Shape) (call : Call) (word : Option ℕ) (reply : CoreReply) (old new : Worker) : Type 0 where
  pub between : List Entry
  pub others : own_count old.seat between ≡ 0
  pub seen : new.seen ≡ (old.seen ++ between) ++ record { call = call; word = word; reply = reply } ∷ []
  pub made : new.made ≡ old.made + 1
  pub own : own_count new.seat new.seen ≡ new.made
  pub seat : new.seat ≡ old.seat
  pub legal : IsLegal shape new.seen

-- the pass has seen its old list, and then entries of other seats
pub record HasWaited (old new : Worker) : Type 0 where
  pub between : List Entry
  pub others : own_count old.seat between ≡ 0
  pub seen : new.seen ≡ old.seen ++ between
  pub made : new.made ≡ old.made
  pub seat : new.seat ≡ old.seat

-- no word was taken, or the next one and no other
abbrev pub IsDrawn : Option ℕ → ℕ → ℕ → ℕ → Type 0
IsDrawn word next before now = MatchOption word (now ≡ before) (λ w. (w ≡ next) × (now ≡ before + 1))

-- the call is an entry, whose word, where it has one, is the dice's next
pub record IsExecuted (shape : Shape) (call : Call) (reply : CoreReply) (next before now : ℕ) (old new : Worker) : Type 0 where
  pub word : Option ℕ
  pub drawn : IsDrawn word next before now
  pub called : HasCalled shape call word reply old new

-- the journal has no room: the pass has seen all of it and made no entry, and no more than one word was taken
pub record FoundFull (capacity : ℕ) (full : JournalFull) (before now : ℕ) (old new : Worker) : Type 0 where
  pub waited : HasWaited old new
  pub told : full.entries ≡ capacity
  pub all : length new.seen ≡ capacity
  pub words : now ≤ before + 1

-- what a call answers: its reply, or that the journal is full
abbrev pub IsAnswer : Shape → ℕ → Call → ℕ → ℕ → ℕ → Worker → Worker → Result CoreReply JournalFull → Type 0
IsAnswer shape capacity call next before now old new answer =
    MatchResult answer (λ reply. IsExecuted shape call reply next before now old new) (λ full. FoundFull capacity full before now old new)
