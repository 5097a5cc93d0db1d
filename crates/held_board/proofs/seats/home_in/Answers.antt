use Rattle.std.proofs.Common.{arith}
use Rattle.held_board.proofs.SeatLemmas.{none_lists}
use Rattle.held_board.proofs.seats.home_in.Goals as goal

pub returns : goal.returns
returns c = none_lists c.args.seats.now c.args.qubit (λ j u less at. c.loop-seat.invariant j u (omega (arith, less, c.loop-seat-test.false)) at)
