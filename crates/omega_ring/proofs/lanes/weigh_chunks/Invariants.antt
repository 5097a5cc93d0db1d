use Rattle.std.proofs.Common.{◌*◌, take}
use Rattle.state_model.specs.CoefficientList.{total_weight}
use Rattle.omega_ring.specs.Lanes.{lane_values}
use Rattle.omega_ring.specs.LaneSteps.{AreSums}
use Rattle.omega_ring.proofs.lanes.weigh_chunks.Given as goal

abbrev pub invariant-loop-k : goal.invariant-loop-k
invariant-loop-k l = AreSums (total_weight (take (8 * l.k) (lane_values l.a l.b l.c l.d))) l.sums
