use Rattle.std.proofs.Common.{rules, FitsSigned, ◌∙◌, ap}
use mir.Syntax.{w128}
use Rattle.state_model.specs.Coefficient.{weight}
use Rattle.omega_ring.specs.Views.{wide_value}
use Rattle.state_model.proofs.Expressions.{same_weight}
use Rattle.omega_ring.proofs.Stored.{stored_is, stored_total}
use Rattle.omega_ring.proofs.coefficients.Wide.weight.Goals as goal

pub returns : goal.returns
returns c =
    let e : FitsSigned w128 c.total.result = search rules in
    let f : FitsSigned w128 c.total-2.result = search rules in
    same_weight _ _
    (stored_total _ _ _ _ _ _ _ _ _ e c.total.ensures.value (c.times.ensures.value, c.times.ensures.small) (c.times-2.ensures.value, c.times-2.ensures.small) (c.times-3.ensures.value, c.times-3.ensures.small) (c.times-4.ensures.value, c.times-4.ensures.small))
    (stored_total _ _ _ _ _ _ _ _ _ f c.total-2.ensures.value (c.times-5.ensures.value, c.times-5.ensures.small) (c.times-6.ensures.value, c.times-6.ensures.small) (c.times-7.ensures.value, c.times-7.ensures.small) (c.minus.ensures.value, c.minus.ensures.small))
    ∙ ap weight (stored_is (wide_value c.args.self) c.requires)
