use Rattle.held_board.proofs.SeatLemmas.{IsBefore}
use Rattle.held_board.proofs.seats.place_of.Given as goal

-- no seat so far has the number
abbrev pub invariant-loop-place : goal.invariant-loop-place
invariant-loop-place g l = IsBefore l.seats l.number l.place
