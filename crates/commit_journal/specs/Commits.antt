-- What `glance`, `commit` and `close` answer.
use Rattle.std.specs.Prelude.{ℕ, ◌≡◌, ◌≢◌, ◌⊎◌, ◌+◌, List, Some, length, take, slice_get}
use Rattle.network_model.specs.Network.{Shape}
use Rattle.network_model.specs.declared.Entry.{Entry}
use Rattle.register_locks.specs.declared.slot.Slot.{Slot}
use Rattle.register_locks.specs.Slots.{slot_value}
use Rattle.commit_journal.specs.Keeping.{LastTouch, own_count}
use Rattle.commit_journal.specs.Views.{Stamp, Worker, IsCounted, AreCounted}
use Rattle.commit_journal.specs.Holding.{AreFresh}
use Rattle.commit_journal.specs.declared.fault.Stale.{Stale}

-- each held cell's stamp, and the pass's number of entries, is the number that the journal keeps
pub record AreCurrent {C : Type 0} (shape : Shape) (slots : List (Slot (Stamp C))) (pass : Worker) (h : List Entry) : Type 0 where
  pub cells : AreFresh shape slots h
  pub counted : IsCounted pass h

-- the first held cell whose stamp isn't the number that the journal keeps
pub record IsStaleCell {C : Type 0} (shape : Shape) (slots : List (Slot (Stamp C))) (h : List Entry) (s : Stale) : Type 0 where
  pub place : ℕ
  pub slot : Slot (Stamp C)
  pub cell : Stamp C
  pub there : slice_get slots place ≡ Some slot
  pub held : slot_value slot ≡ Some cell
  pub before : AreFresh shape (take place slots) h
  pub number : s.number ≡ cell.number
  pub found : s.found ≡ length cell.seen
  pub kept : LastTouch shape cell.number h s.kept
  pub differ : s.kept ≢ s.found

-- a pass's number of entries isn't the number that the journal keeps for its seat
pub record IsStalePass (cells : ℕ) (pass : Worker) (h : List Entry) (s : Stale) : Type 0 where
  pub number : s.number ≡ cells + pass.seat
  pub found : s.found ≡ pass.made
  pub kept : s.kept ≡ own_count pass.seat h
  pub differ : s.kept ≢ s.found

-- the first number that differs, cells in the order of the hold before the pass
abbrev pub IsFirstStale : {C : Type 0} → Shape → ℕ → List (Slot (Stamp C)) → Worker → List Entry → Stale → Type 0
IsFirstStale shape cells slots pass h s = IsStaleCell shape slots h s ⊎ (AreFresh shape slots h × IsStalePass cells pass h s)

-- the first of several passes whose number differs
pub record IsFirstStalePass (cells : ℕ) (passes : List Worker) (h : List Entry) (s : Stale) : Type 0 where
  pub place : ℕ
  pub pass : Worker
  pub there : slice_get passes place ≡ Some pass
  pub before : AreCounted (take place passes) h
  pub stale : IsStalePass cells pass h s
