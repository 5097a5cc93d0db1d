use Rattle.std.proofs.Common.{◌^◌, sym, ap, subst, ◌∙◌, arith}
use Rattle.state_model.specs.Coefficient.{Coefficient, ◌⊗◌}
use Rattle.omega_ring.specs.Range.{CoordinatesBelow}
use Rattle.omega_ring.specs.Views.{omega_value, wide_value}
use Rattle.omega_ring.proofs.Rounding.{within_up}
use Rattle.omega_ring.proofs.Sizes.{product_within}
use Rattle.omega_ring.proofs.coefficients.Omega.times.Goals as goal

pub short-requires : goal.short-requires
short-requires c =
    let e = c.mul.ensures ∙ ap (λ (t : Coefficient). t ⊗ wide_value c.wide-2.result) c.wide.ensures ∙ ap (λ (t : Coefficient). omega_value c.args.self ⊗ t) c.wide-2.ensures in
    within_up (2 ^ 62) (2 ^ 63) (wide_value c.mul.result) (subst (CoordinatesBelow (2 ^ 62)) (sym e) (product_within (omega_value c.args.self) (omega_value c.args.other) c.requires.left c.requires.right)) (omega arith)

pub returns-clause-small : goal.returns-clause-small
returns-clause-small c =
    let e = c.mul.ensures ∙ ap (λ (t : Coefficient). t ⊗ wide_value c.wide-2.result) c.wide.ensures ∙ ap (λ (t : Coefficient). omega_value c.args.self ⊗ t) c.wide-2.ensures in
    subst (CoordinatesBelow (2 ^ 62)) (sym (c.short.ensures ∙ e)) (product_within (omega_value c.args.self) (omega_value c.args.other) c.requires.left c.requires.right)
