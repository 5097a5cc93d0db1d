use Rattle.omega_ring.specs.LaneSteps.{AreAddedBetween}
use Rattle.omega_ring.proofs.lanes.add_rest.Given as goal

abbrev pub invariant-loop-i : goal.invariant-loop-i
invariant-loop-i l = AreAddedBetween l.minus l.start l.i l.initial.out l.from l.out
