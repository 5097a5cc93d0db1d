-- What seats end as, where one of their cells is lent, and where all of them are.
use Rattle.std.specs.Prelude.{ℕ, List, Option, length, slice_set}
use Rattle.std.specs.Borrow.{Lends, LendsIf, Array, MutBor, Fml, RattleType}
use Rattle.std.specs.List.{refill}
use Rattle.held_board.specs.declared.seat.Seat.{Seat}
use Rattle.held_board.specs.contracts.seat.Seat.{the_row as seat_row}
use Rattle.held_board.specs.contracts.seats.Seats.{the_row}
use Rattle.held_board.specs.Seats.{with_cell}

-- the seat at a place is lent, if there is one
abbrev pub LendsSeatIf : (R : RattleType) → MutBor (List (Seat R.Denot)) → ℕ → Option (MutBor (Seat R.Denot)) → Fml
LendsSeatIf R s k r = LendsIf (the_row R) (seat_row R) s r (slice_set s.now k) s.now

abbrev pub LendsSeat : (R : RattleType) → MutBor (List (Seat R.Denot)) → ℕ → MutBor (Seat R.Denot) → Fml
LendsSeat R s k r = Lends (the_row R) (seat_row R) s r (slice_set s.now k)

-- the cell of a number is lent
abbrev pub LendsNumber : (R : RattleType) → MutBor (List (Seat R.Denot)) → ℕ → MutBor R.Denot → Fml
LendsNumber R s n r = Lends (the_row R) R s r (with_cell s.now n)

-- all seats are lent
abbrev pub LendsAll : (R : RattleType) → MutBor (List (Seat R.Denot)) → MutBor (List (Seat R.Denot)) → Fml
LendsAll R s r = Lends (the_row R) (Array (seat_row R) 0) s r (refill (length s.now) s.now)
