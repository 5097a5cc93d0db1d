use Rattle.std.proofs.Common.{◌∙◌, sym, arith}
use Rattle.std.proofs.lemmas.Int.{ints}
use Rattle.omega_ring.specs.Views.{weight_value}
use Rattle.state_model.proofs.Expressions.{same_weight}
use Rattle.omega_ring.proofs.WeightSteps.{product-unit_up}
use Rattle.omega_ring.proofs.weights.Weight.raised.Goals as goal

pub returns : goal.returns
returns c = let r = c.requires in same_weight _ _ (omega (arith, ints, r.x, r.y)) (omega (arith, ints, r.x, r.y)) ∙ sym (product-unit_up (weight_value c.args.self))
