use Rattle.std.proofs.Common.{List, refl, arith}
use Rattle.std.proofs.lemmas.Option.{slice_get_read}
use Rattle.held_board.specs.declared.seat.Seat.{Seat}
use Rattle.held_board.proofs.SeatLemmas.{before_more, found_at, nowhere}
use Rattle.held_board.proofs.seats.place_of.Goals as goal

pub returns-then-seat-number : goal.returns-then-seat-number
returns-then-seat-number g c =
    let ss : List (Seat g.row.T.Denot) = c.args.seats.now in
    found_at ss c.args.number c.loop-place.place c.index-seats-place.result c.loop-place.invariant (slice_get_read ss _ c.loop-place.place _ refl c.loop-place-test.true c.index-seats-place.is) c.if-seat-number.true

pub loop-place-preserved : goal.loop-place-preserved
loop-place-preserved g c j u less =
    let ss : List (Seat g.row.T.Denot) = c.args.seats.now in
    before_more ss c.args.number c.loop-place.place c.index-seats-place.result c.loop-place.invariant (slice_get_read ss _ c.loop-place.place _ refl c.loop-place-test.true c.index-seats-place.is) c.if-seat-number.false j u (omega (arith, less))

pub returns : goal.returns
returns g c =
    let ss : List (Seat g.row.T.Denot) = c.args.seats.now in
    nowhere ss c.args.number (λ j u less at. c.loop-place.invariant j u (omega (arith, less, c.loop-place-test.false)) at)
