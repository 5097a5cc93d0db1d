use Rattle.std.proofs.Common.{◌*◌}
use Rattle.omega_ring.specs.LaneSteps.{AreAddedBetween}
use Rattle.omega_ring.proofs.lanes.add_chunks.Given as goal

abbrev pub invariant-loop-k : goal.invariant-loop-k
invariant-loop-k l = AreAddedBetween l.minus 0 (8 * l.k) l.initial.out l.from l.out
