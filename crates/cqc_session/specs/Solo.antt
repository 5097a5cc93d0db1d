-- A core with a journal and the dice of a connection: what calls keep of both.
use Rattle.std.specs.Prelude.{◌≡◌, ℕ, List}
use Rattle.network_model.specs.declared.Entry.{Entry}
use Rattle.factored_core.specs.Core.{Journal}
use Rattle.cqc_session.specs.Serving.{WordedAfter}

-- the journal, and of the dice the key, the connection begun last, and how many of its words were taken
pub record CoreAndDice : Type 0 where
  pub journal : Journal
  pub key : List ℕ
  pub seat : ℕ
  pub serial : ℕ
  pub taken : ℕ

-- calls of the connection were executed: entries that have its next words were added, and all else stayed
pub record HasServed (word : List ℕ → ℕ → ℕ → ℕ → ℕ) (old new : CoreAndDice) : Type 0 where
  pub journal : new.journal ≡ record old.journal { entries = new.journal.entries }
  pub key : new.key ≡ old.key
  pub seat : new.seat ≡ old.seat
  pub serial : new.serial ≡ old.serial
  pub worded : (first : List Entry) → WordedAfter (word old.key old.seat old.serial) first old.journal.entries old.taken
      → WordedAfter (word old.key old.seat old.serial) first new.journal.entries new.taken
