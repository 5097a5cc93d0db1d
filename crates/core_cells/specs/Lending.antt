-- What owned cells end as, where their slots are lent.
use Rattle.std.specs.Prelude.{ℕ, List, length, slice_set}
use Rattle.std.specs.Borrow.{Lends, LendsBoth, Array, MutBor, Fml}
use Rattle.std.specs.List.{refill}
use Rattle.core_cells.specs.Owned.{Owned}
use Rattle.core_cells.specs.declared.cells.SlotCell.{SlotCell}
use Rattle.core_cells.specs.contracts.owned.OwnedCells.{the_row}
use Rattle.core_cells.specs.contracts.cells.SlotCell.{the_row as slot_row}

-- the cells with the slots of a list of the same length
abbrev pub with_slots : Owned → List SlotCell → Owned
with_slots o ws = record o { slots = refill (length o.slots) o.slots ws }

-- all slots are lent
abbrev pub LendsSlots : MutBor Owned → MutBor (List SlotCell) → Fml
LendsSlots s r = Lends the_row (Array slot_row 0) s r (with_slots s.now)

-- two slots of a list are lent
abbrev pub LendsPair : MutBor (List SlotCell) → ℕ → ℕ → MutBor SlotCell × MutBor SlotCell → Fml
LendsPair s i j r = LendsBoth (Array slot_row 0) slot_row slot_row s r (λ x y. slice_set (slice_set s.now i x) j y)
