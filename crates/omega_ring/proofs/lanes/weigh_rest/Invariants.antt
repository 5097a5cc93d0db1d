use Rattle.std.proofs.Common.{◌≡◌, ◌-◌, take, drop}
use Rattle.state_model.specs.CoefficientList.{total_weight}
use Rattle.omega_ring.specs.Views.{weight_value}
use Rattle.omega_ring.specs.Lanes.{lane_values}
use Rattle.omega_ring.proofs.lanes.weigh_rest.Given as goal

abbrev pub invariant-loop-i : goal.invariant-loop-i
invariant-loop-i l = weight_value l.sum ≡ total_weight (take (l.i - l.start) (drop l.start (lane_values l.a l.b l.c l.d)))
