use Rattle.omega_ring.specs.LaneSteps.{HasOddBetween}
use Rattle.omega_ring.proofs.lanes.any_odd_rest.Given as goal

abbrev pub invariant-loop-i : goal.invariant-loop-i
invariant-loop-i l = ¬ HasOddBetween l.start l.i l.a l.b l.c l.d
