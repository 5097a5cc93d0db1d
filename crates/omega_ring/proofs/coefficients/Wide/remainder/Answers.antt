use Rattle.std.proofs.Common.{arith, sym, ap, subst, ◌∙◌, ◌≡◌, ◌^◌}
use Rattle.state_model.specs.Coefficient.{Coefficient, ◌⊖◌, ◌⊗◌}
use Rattle.omega_ring.specs.Range.{CoordinatesUpTo}
use Rattle.omega_ring.specs.Views.{wide_value}
use Rattle.state_model.proofs.Norms.{norm_positive}
use Rattle.omega_ring.proofs.Rounding.{is_remainder, remainder_small, quotient_product_size, up_to, within_up}
use Rattle.omega_ring.proofs.Sizes.{IsSmall, ready_small}
use Rattle.omega_ring.proofs.coefficients.Wide.remainder.Goals as goal

pub mul-requires-clause-right : goal.mul-requires-clause-right
mul-requires-clause-right c =
    let s : IsSmall (wide_value c.args.u) = ready_small (wide_value c.args.u) c.requires.right in
    within_up (2 ^ 31) (2 ^ 61) (wide_value c.args.u) s.coordinates (omega arith)

pub sub-requires-clause-left : goal.sub-requires-clause-left
sub-requires-clause-left c =
    let s : IsSmall (wide_value c.args.self) = ready_small (wide_value c.args.self) c.requires.left in
    up_to (2 ^ 31) (2 ^ 125) (wide_value c.args.self) s.coordinates (omega arith)

pub sub-requires-clause-right : goal.sub-requires-clause-right
sub-requires-clause-right c =
    let s : IsSmall (wide_value c.args.u) = ready_small (wide_value c.args.u) c.requires.right in
    subst (CoordinatesUpTo (2 ^ 125)) (sym c.mul.ensures) (quotient_product_size (wide_value c.quotient.result) (wide_value c.args.u) c.quotient.ensures.small s.coordinates)

pub returns-clause-remainder : goal.returns-clause-remainder
returns-clause-remainder c =
    let e : wide_value c.sub.result ≡ wide_value c.args.self ⊖ wide_value c.quotient.result ⊗ wide_value c.args.u = c.sub.ensures ∙ ap (λ (t : Coefficient). wide_value c.args.self ⊖ t) c.mul.ensures in
    is_remainder (wide_value c.args.self) (wide_value c.args.u) (wide_value c.quotient.result) (wide_value c.sub.result) (norm_positive (wide_value c.args.u) c.requires.nonzero) c.quotient.ensures.nearest e

pub returns-clause-small : goal.returns-clause-small
returns-clause-small c =
    let e : wide_value c.sub.result ≡ wide_value c.args.self ⊖ wide_value c.quotient.result ⊗ wide_value c.args.u = c.sub.ensures ∙ ap (λ (t : Coefficient). wide_value c.args.self ⊖ t) c.mul.ensures in
    remainder_small (wide_value c.args.self) (wide_value c.args.u) (wide_value c.quotient.result) (wide_value c.sub.result) c.requires.right (norm_positive (wide_value c.args.u) c.requires.nonzero) c.quotient.ensures.nearest e

pub quotient-requires-clause-left : goal.quotient-requires-clause-left
quotient-requires-clause-left c = let s : IsSmall (wide_value c.args.self) = ready_small (wide_value c.args.self) c.requires.left in s.coordinates
