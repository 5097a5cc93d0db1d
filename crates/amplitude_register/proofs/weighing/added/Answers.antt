use Rattle.std.proofs.Common.{arith, ap, ◌∙◌}
use Rattle.state_model.specs.Coefficient.{weight}
use Rattle.omega_ring.specs.Views.{omega_value, weight_value}
use Rattle.amplitude_register.proofs.Weighed.{weight_small, coordinates_small}
use Rattle.amplitude_register.proofs.weighing.added.Goals as goal

pub weight-requires : goal.weight-requires
weight-requires c = coordinates_small (omega_value c.args.z) c.requires.small

pub plus-requires-clause-right : goal.plus-requires-clause-right
plus-requires-clause-right c = let s = weight_small (omega_value c.args.z) (weight_value c.weight.result) c.requires.small c.weight.ensures in record { x = omega (arith, s.x); y = omega (arith, s.y) }
