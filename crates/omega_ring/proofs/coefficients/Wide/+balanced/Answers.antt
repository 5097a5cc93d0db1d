use Rattle.std.proofs.Common.{arith, refl, subst, ◌∙◌}
use Rattle.state_model.specs.Divisors.{IsBalanced}
use Rattle.omega_ring.specs.Views.{wide_value, weight_value}
use Rattle.state_model.proofs.Euclid.{divides_refl}
use Rattle.state_model.proofs.Units.{associate_trans}
use Rattle.omega_ring.proofs.UnitSizes.{high_step, low_step, neither_step, shrunk, small_weight, within}
use Rattle.omega_ring.proofs.coefficients.Wide.+balanced.Goals as goal

pub weight-weight-requires : goal.weight-weight-requires
weight-weight-requires t c = within (wide_value c.args.self) c.requires

pub is_high-requires : goal.is_high-requires
is_high-requires t c = small_weight (wide_value c.args.self) (weight_value c.weight-weight.result) c.weight-weight.ensures c.requires

pub times_unit-requires : goal.times_unit-requires
times_unit-requires t c = within (wide_value c.args.self) c.requires

pub balanced-requires : goal.balanced-requires
balanced-requires t c =
    let k = high_step (wide_value c.args.self) (wide_value c.times_unit.result) (weight_value c.weight-weight.result) c.weight-weight.ensures (c.is_high.ensures.0 c.if-is_high.true) (c.times_unit.ensures.down refl) in
    (omega (arith, k.falls), shrunk _ _ k c.requires)

pub is_low-requires : goal.is_low-requires
is_low-requires t c = small_weight (wide_value c.args.self) (weight_value c.weight-weight.result) c.weight-weight.ensures c.requires

pub times_unit-requires-then-is_low : goal.times_unit-requires-then-is_low
times_unit-requires-then-is_low t c = within (wide_value c.args.self) c.requires

pub balanced-requires-then-is_low : goal.balanced-requires-then-is_low
balanced-requires-then-is_low t c =
    let k = low_step (wide_value c.args.self) (wide_value c.times_unit-then-is_low.result) (weight_value c.weight-weight.result) c.weight-weight.ensures (c.is_low.ensures.0 c.if-is_low.true) (c.times_unit-then-is_low.ensures.up refl) in
    (omega (arith, k.falls), shrunk _ _ k c.requires)

pub returns-then-is_high-clause-associate : goal.returns-then-is_high-clause-associate
returns-then-is_high-clause-associate t c =
    let k = high_step (wide_value c.args.self) (wide_value c.times_unit.result) (weight_value c.weight-weight.result) c.weight-weight.ensures (c.is_high.ensures.0 c.if-is_high.true) (c.times_unit.ensures.down refl) in
    associate_trans (wide_value c.balanced.result) (wide_value c.times_unit.result) (wide_value c.args.self) c.balanced.ensures.associate k.associate

pub returns-then-is_high-clause-norm : goal.returns-then-is_high-clause-norm
returns-then-is_high-clause-norm t c =
    let k = high_step (wide_value c.args.self) (wide_value c.times_unit.result) (weight_value c.weight-weight.result) c.weight-weight.ensures (c.is_high.ensures.0 c.if-is_high.true) (c.times_unit.ensures.down refl) in
    c.balanced.ensures.norm ∙ k.same_norm

pub returns-then-is_low-clause-associate : goal.returns-then-is_low-clause-associate
returns-then-is_low-clause-associate t c =
    let k = low_step (wide_value c.args.self) (wide_value c.times_unit-then-is_low.result) (weight_value c.weight-weight.result) c.weight-weight.ensures (c.is_low.ensures.0 c.if-is_low.true) (c.times_unit-then-is_low.ensures.up refl) in
    associate_trans (wide_value c.balanced-then-is_low.result) (wide_value c.times_unit-then-is_low.result) (wide_value c.args.self) c.balanced-then-is_low.ensures.associate k.associate

pub returns-then-is_low-clause-norm : goal.returns-then-is_low-clause-norm
returns-then-is_low-clause-norm t c =
    let k = low_step (wide_value c.args.self) (wide_value c.times_unit-then-is_low.result) (weight_value c.weight-weight.result) c.weight-weight.ensures (c.is_low.ensures.0 c.if-is_low.true) (c.times_unit-then-is_low.ensures.up refl) in
    c.balanced-then-is_low.ensures.norm ∙ k.same_norm

pub returns-else-is_low-clause-balanced : goal.returns-else-is_low-clause-balanced
returns-else-is_low-clause-balanced t c = subst IsBalanced c.weight-weight.ensures (neither_step (weight_value c.weight-weight.result) c.is_high.result c.is_low.result c.is_high.ensures c.is_low.ensures c.if-is_high.false c.if-is_low.false)

pub returns-else-is_low-clause-associate : goal.returns-else-is_low-clause-associate
returns-else-is_low-clause-associate t c = (divides_refl (wide_value c.args.self), divides_refl (wide_value c.args.self))
