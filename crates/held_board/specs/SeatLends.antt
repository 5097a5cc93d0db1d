-- What a seat ends as, where its cell is lent.
use Rattle.std.specs.Prelude.{Some}
use Rattle.std.specs.Borrow.{Lends, MutBor, Fml, RattleType}
use Rattle.held_board.specs.declared.seat.Seat.{Seat}
use Rattle.held_board.specs.contracts.seat.Seat.{the_row}

-- a seat with another cell
abbrev pub seat_with : {T : Type 0} → Seat T → T → Seat T
seat_with s w = record s { cell = Some w }

-- its cell is lent
abbrev pub LendsCell : (R : RattleType) → MutBor (Seat R.Denot) → MutBor R.Denot → Fml
LendsCell R s r = Lends (the_row R) R s r (seat_with s.now)
