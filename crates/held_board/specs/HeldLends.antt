-- What held cells end as, where the seats of slots are lent.
use Rattle.std.specs.Prelude.{ℕ, List, length, slice_set}
use Rattle.std.specs.Borrow.{Lends, LendsBoth, Array, MutBor, Fml, RattleType}
use Rattle.std.specs.List.{refill}
use Rattle.cell_box.specs.contracts.cell_box.CellBox.{the_row as box_row}
use Rattle.core_cells.specs.declared.cells.SlotCell.{SlotCell}
use Rattle.core_cells.specs.contracts.cells.SlotCell.{the_row as slot_row}
use Rattle.held_board.specs.declared.seat.Seat.{Seat}
use Rattle.held_board.specs.contracts.seat.Seat.{the_row as seat_row}
use Rattle.held_board.specs.contracts.board.HeldBoard.{the_row}
use Rattle.held_board.specs.SeatLends.{seat_with}
use Rattle.held_board.specs.Seats.{with_cell}
use Rattle.held_board.specs.Held.{Held}

-- a slot's seat
abbrev pub slot_seat_row : RattleType
slot_seat_row = seat_row (box_row slot_row)

-- the cells with the slots' seats of a list of the same length
abbrev pub with_slot_seats : Held → List (Seat SlotCell) → Held
with_slot_seats h ws = record h { slots = refill (length h.slots) h.slots ws }

-- the slot in a seat is lent
abbrev pub LendsSlot : MutBor (Seat SlotCell) → MutBor SlotCell → Fml
LendsSlot s r = Lends slot_seat_row slot_row s r (seat_with s.now)

-- all slots' seats are lent
abbrev pub LendsSlotSeats : MutBor Held → MutBor (List (Seat SlotCell)) → Fml
LendsSlotSeats s r = Lends the_row (Array slot_seat_row 0) s r (with_slot_seats s.now)

-- two slots' seats are lent, and their cells
abbrev pub LendsTwoSeats : MutBor (List (Seat SlotCell)) → ℕ → ℕ → MutBor (Seat SlotCell) × MutBor (Seat SlotCell) → Fml
LendsTwoSeats s i j r = LendsBoth (Array slot_seat_row 0) slot_seat_row slot_seat_row s r (λ x y. slice_set (slice_set s.now i x) j y)

abbrev pub LendsTwoCells : MutBor (List (Seat SlotCell)) → ℕ → ℕ → MutBor SlotCell × MutBor SlotCell → Fml
LendsTwoCells s i j r = LendsBoth (Array slot_seat_row 0) slot_row slot_row s r (λ x y. with_cell (with_cell s.now i x) j y)
