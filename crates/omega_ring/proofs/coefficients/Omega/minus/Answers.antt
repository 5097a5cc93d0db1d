use Rattle.std.proofs.Common.{◌^◌, sym, ap, subst, ◌∙◌}
use Rattle.state_model.specs.Coefficient.{Coefficient, ◌⊖◌}
use Rattle.omega_ring.specs.Range.{CoordinatesBelow}
use Rattle.omega_ring.specs.Views.{omega_value, wide_value}
use Rattle.omega_ring.proofs.Sizes.{difference_within}
use Rattle.omega_ring.proofs.coefficients.Omega.minus.Goals as goal

pub short-requires : goal.short-requires
short-requires c =
    let e = c.sub.ensures ∙ ap (λ (t : Coefficient). t ⊖ wide_value c.wide-2.result) c.wide.ensures ∙ ap (λ (t : Coefficient). omega_value c.args.self ⊖ t) c.wide-2.ensures in
    subst (CoordinatesBelow (2 ^ 63)) (sym e) (difference_within (omega_value c.args.self) (omega_value c.args.other) c.requires.left c.requires.right)
