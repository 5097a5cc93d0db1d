use Rattle.std.proofs.Common.{rules, ◌≡◌, ◌^◌, sym, ap, subst, ◌∙◌, arith, to_z, of_z}
use mir.Syntax.{w128}
use Rattle.state_model.specs.Coefficient.{weight}
use Rattle.state_model.specs.Divisors.{norm}
use Rattle.omega_ring.specs.Range.{CoordinatesBelow}
use Rattle.omega_ring.specs.Views.{omega_value, weight_value}
use Rattle.omega_ring.proofs.DeltaPowers.{norm_of_size}
use Rattle.omega_ring.proofs.Rounding.{norm_of, weight_parts, within_up}
use Rattle.omega_ring.proofs.UnitSizes.{coordinates_below}
use Rattle.omega_ring.proofs.coefficients.Omega.norm.Goals as goal

pub weight-requires : goal.weight-requires
weight-requires c = subst (CoordinatesBelow (2 ^ 61)) (sym c.wide.ensures) (within_up (2 ^ 31) (2 ^ 61) (omega_value c.args.self) (coordinates_below (2 ^ 31) (omega_value c.args.self) c.requires) (omega arith))

pub norm-requires : goal.norm-requires
norm-requires c = weight_parts (omega_value c.args.self) (weight_value c.weight.result) (c.weight.ensures ∙ ap weight c.wide.ensures) c.requires

pub returns : goal.returns
returns c =
    let n : to_z w128 (of_z w128 c.norm.result) ≡ norm (omega_value c.args.self) = norm_of c.norm.result (omega_value c.args.self) (weight_value c.weight.result) (search rules) c.norm.ensures (c.weight.ensures ∙ ap weight c.wide.ensures) in
    norm_of_size (omega_value c.args.self) _ _ n c.unsigned_abs.ensures.value
