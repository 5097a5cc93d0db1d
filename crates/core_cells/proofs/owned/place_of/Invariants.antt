use Rattle.std.proofs.Common.{◌≡◌, ℕ, ◌<◌, false, Some, slice_get}
use Rattle.state_model.specs.Row.{is_listed}
use Rattle.core_cells.specs.declared.cells.SlotCell.{SlotCell}
use Rattle.core_cells.proofs.owned.place_of.Given as goal

-- no slot so far lists the number
abbrev pub invariant-loop-t : goal.invariant-loop-t
invariant-loop-t l = (j : ℕ) (w : SlotCell) → j < l.t → slice_get l.slots j ≡ Some w → is_listed w.register.value.qubits l.number ≡ false
