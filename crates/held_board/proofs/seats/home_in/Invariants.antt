use Rattle.std.proofs.Common.{◌≡◌, ℕ, ◌<◌, false, Some, slice_get}
use Rattle.core_cells.specs.declared.cells.SlotCell.{SlotCell}
use Rattle.held_board.specs.declared.seat.Seat.{Seat}
use Rattle.held_board.specs.Seats.{cell_of, lists}
use Rattle.held_board.proofs.seats.home_in.Given as goal

-- no slot of a seat so far lists the qubit number
abbrev pub invariant-loop-seat : goal.invariant-loop-seat
invariant-loop-seat l = (j : ℕ) (u : Seat SlotCell) → j < l.seat-index → slice_get l.seats j ≡ Some u → lists (cell_of l.seats u.number) l.qubit ≡ false
