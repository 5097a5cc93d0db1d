-- A session over a core that threads share: what its calls keep of its pass, its dice and its patience.
use Rattle.std.specs.Prelude.{◌≡◌, ℕ, ◌+◌, ◌<◌, ◌≤◌, ◌^◌, ◌-◌, List, ◌++◌, Bool, true, false, count_by}
use mathlib.Core.List.{IsPrefix}
use Rattle.cqc_model.specs.declared.Fault.TheVariants.{Timeout}
use Rattle.network_model.specs.History.{seat_entries}
use Rattle.network_model.specs.declared.CoreReply.{CoreReply}
use Rattle.network_model.specs.declared.CoreReply.TheVariants.{Error}
use Rattle.network_model.specs.declared.Entry.{Entry}
use Rattle.session_model.specs.Turns.{words_taken}
use Rattle.session_model.specs.Worded.{AreWorded}
use Rattle.commit_journal.specs.Views.{Worker}

-- a worker's pass; of its dice the key, the connection begun last, and how many of its words were taken; how often its
-- patience gave up; and whether it found the journal full
pub record AtWork : Type 0 where
  pub pass : Worker
  pub key : List ℕ
  pub seat : ℕ
  pub serial : ℕ
  pub taken : ℕ
  pub gave_up : ℕ
  pub full : Bool

-- the entries of a pass's seat that it has seen
abbrev pub own : Worker → List Entry
own pass = seat_entries pass.seat pass.seen

-- an entry was answered TIMEOUT
abbrev pub is_timeout : CoreReply → Bool
is_timeout (Error Timeout) = true
is_timeout _ = false

-- how many entries were answered TIMEOUT
abbrev pub timeouts : List Entry → ℕ
timeouts entries = count_by (λ e. is_timeout e.reply) entries

-- behind these entries of the seat come entries with the next words of a connection; unless the journal was full, so many were taken
pub record WordedBehind (words : ℕ → ℕ) (first : List Entry) (x : AtWork) : Type 0 where
  pub entries : List Entry
  pub added : own x.pass ≡ first ++ entries
  pub worded : AreWorded words entries
  pub count : x.full ≡ false → x.taken ≡ words_taken entries

-- of the entries that a seat has gained, no more were answered TIMEOUT than patience gave up, whose count stands still at its type's end
abbrev pub GaveUpEnough : List Entry → List Entry → ℕ → ℕ → Type 0
GaveUpEnough old new before now = now < 2 ^ 64 - 1 → timeouts new + before ≤ timeouts old + now

-- calls of the connection were executed
pub record HasWorked (word : List ℕ → ℕ → ℕ → ℕ → ℕ) (old new : AtWork) : Type 0 where
  pub seen : IsPrefix old.pass.seen new.pass.seen
  pub place : new.pass.seat ≡ old.pass.seat
  pub key : new.key ≡ old.key
  pub seat : new.seat ≡ old.seat
  pub serial : new.serial ≡ old.serial
  pub worded : (first : List Entry) → WordedBehind (word old.key old.seat old.serial) first old → WordedBehind (word old.key old.seat old.serial) first new
  pub more : old.gave_up ≤ new.gave_up
  pub waited : GaveUpEnough (own old.pass) (own new.pass) old.gave_up new.gave_up

-- the entries that a seat has gained have the first words of a connection
pub record AreNextWorded (words : ℕ → ℕ) (old new : List Entry) : Type 0 where
  pub entries : List Entry
  pub added : new ≡ old ++ entries
  pub worded : AreWorded words entries
