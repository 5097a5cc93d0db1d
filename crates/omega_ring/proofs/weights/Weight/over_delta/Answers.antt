use Rattle.omega_ring.specs.Views.{weight_value}
use Rattle.omega_ring.proofs.WeightSteps.{over_delta_is}
use Rattle.omega_ring.proofs.weights.Weight.over_delta.Goals as goal

pub returns : goal.returns
returns c = over_delta_is (weight_value c.args.self) c.half_of_wide.result c.requires.small c.half_of_wide.ensures
