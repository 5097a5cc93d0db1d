use Rattle.std.proofs.Common.{◌*◌}
use Rattle.omega_ring.specs.LaneSteps.{HasOddBetween}
use Rattle.omega_ring.proofs.lanes.any_odd_chunks.Given as goal

abbrev pub invariant-loop-k : goal.invariant-loop-k
invariant-loop-k l = ¬ HasOddBetween 0 (8 * l.k) l.a l.b l.c l.d
