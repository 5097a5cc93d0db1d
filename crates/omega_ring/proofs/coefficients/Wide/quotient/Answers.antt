use Rattle.std.proofs.Common.{rules, arith, sym, ap, subst, ◌∙◌, ◌≡◌, ◌^◌, to_z, of_z}
use mir.Syntax.{w128}
use Rattle.state_model.specs.Coefficient.{Coefficient, ◌⊗◌}
use Rattle.state_model.specs.Divisors.{norm}
use Rattle.omega_ring.specs.Range.{CoordinatesBelow, CoordinatesUpTo}
use Rattle.omega_ring.specs.Views.{wide_value, weight_value}
use Rattle.state_model.proofs.Division.{companion}
use Rattle.state_model.proofs.Norms.{norm_positive}
use Rattle.omega_ring.proofs.Rounding.{companion_of, norm_of, nearest_along, numerator_size, weight_fields, within_conjugate, up_to, within_up, within_weight}
use Rattle.omega_ring.proofs.Sizes.{IsSmall, companion_small, ready_small}
use Rattle.omega_ring.proofs.coefficients.Wide.quotient.Goals as goal

pub weight-w-requires : goal.weight-w-requires
weight-w-requires c =
    let s : IsSmall (wide_value c.args.u) = ready_small (wide_value c.args.u) c.requires.right in
    within_up (2 ^ 31) (2 ^ 61) (wide_value c.args.u) s.coordinates (omega arith)

pub conj-requires : goal.conj-requires
conj-requires c =
    let s : IsSmall (wide_value c.args.u) = ready_small (wide_value c.args.u) c.requires.right in
    up_to (2 ^ 31) (2 ^ 125) (wide_value c.args.u) s.coordinates (omega arith)

pub conjugate-requires : goal.conjugate-requires
conjugate-requires c = weight_fields (wide_value c.args.u) (weight_value c.weight-w.result) c.weight-w.ensures (ready_small (wide_value c.args.u) c.requires.right)

pub product-requires-clause-left : goal.product-requires-clause-left
product-requires-clause-left c =
    let s : IsSmall (wide_value c.args.u) = ready_small (wide_value c.args.u) c.requires.right in
    subst (CoordinatesBelow (2 ^ 31)) (sym c.conj.ensures) (within_conjugate (2 ^ 31) (wide_value c.args.u) s.coordinates)

pub product-requires-clause-right : goal.product-requires-clause-right
product-requires-clause-right c = subst (CoordinatesUpTo (2 ^ 94)) (sym c.conjugate.ensures) (within_weight (weight_value c.weight-w.result) (weight_fields (wide_value c.args.u) (weight_value c.weight-w.result) c.weight-w.ensures (ready_small (wide_value c.args.u) c.requires.right)))

pub product-numerator-requires-clause-left : goal.product-numerator-requires-clause-left
product-numerator-requires-clause-left c = c.requires.left

pub product-numerator-requires-clause-right : goal.product-numerator-requires-clause-right
product-numerator-requires-clause-right c =
    let s : IsSmall (wide_value c.args.u) = ready_small (wide_value c.args.u) c.requires.right in
    let e = companion_of (wide_value c.args.u) (wide_value c.product.result) (wide_value c.conj.result) (wide_value c.conjugate.result) (weight_value c.weight-w.result) c.product.ensures c.conj.ensures c.conjugate.ensures c.weight-w.ensures in
    subst (CoordinatesUpTo (2 ^ 94)) (sym e) (companion_small (wide_value c.args.u) c.requires.right.balanced s)

pub norm-requires : goal.norm-requires
norm-requires c = weight_fields (wide_value c.args.u) (weight_value c.weight-w.result) c.weight-w.ensures (ready_small (wide_value c.args.u) c.requires.right)

pub rounded-requires-clause-positive : goal.rounded-requires-clause-positive
rounded-requires-clause-positive c =
    let n = norm_of c.norm.result (wide_value c.args.u) (weight_value c.weight-w.result) (search rules) c.norm.ensures c.weight-w.ensures in
    rw n (norm_positive (wide_value c.args.u) c.requires.nonzero)

pub rounded-requires-clause-size : goal.rounded-requires-clause-size
rounded-requires-clause-size c =
    let n = norm_of c.norm.result (wide_value c.args.u) (weight_value c.weight-w.result) (search rules) c.norm.ensures c.weight-w.ensures in
    let e = companion_of (wide_value c.args.u) (wide_value c.product.result) (wide_value c.conj.result) (wide_value c.conjugate.result) (weight_value c.weight-w.result) c.product.ensures c.conj.ensures c.conjugate.ensures c.weight-w.ensures in
    let t : wide_value c.product-numerator.result ≡ wide_value c.args.self ⊗ companion (wide_value c.args.u) = c.product-numerator.ensures ∙ ap (λ (t : Coefficient). wide_value c.args.self ⊗ t) e in
    numerator_size (wide_value c.args.self) (wide_value c.args.u) (wide_value c.product-numerator.result) (to_z w128 (of_z w128 c.norm.result)) c.requires.left c.requires.right (norm_positive (wide_value c.args.u) c.requires.nonzero) n t

pub returns-clause-nearest : goal.returns-clause-nearest
returns-clause-nearest c =
    let n = norm_of c.norm.result (wide_value c.args.u) (weight_value c.weight-w.result) (search rules) c.norm.ensures c.weight-w.ensures in
    let e = companion_of (wide_value c.args.u) (wide_value c.product.result) (wide_value c.conj.result) (wide_value c.conjugate.result) (weight_value c.weight-w.result) c.product.ensures c.conj.ensures c.conjugate.ensures c.weight-w.ensures in
    let t : wide_value c.product-numerator.result ≡ wide_value c.args.self ⊗ companion (wide_value c.args.u) = c.product-numerator.ensures ∙ ap (λ (t : Coefficient). wide_value c.args.self ⊗ t) e in
    nearest_along (norm (wide_value c.args.u)) (to_z w128 (of_z w128 c.norm.result)) (wide_value c.args.self ⊗ companion (wide_value c.args.u)) (wide_value c.product-numerator.result) (wide_value c.rounded.result) n t c.rounded.ensures.nearest

pub rounded-requires-clause-small : goal.rounded-requires-clause-small
rounded-requires-clause-small c =
    let n = norm_of c.norm.result (wide_value c.args.u) (weight_value c.weight-w.result) (search rules) c.norm.ensures c.weight-w.ensures in
    rw n c.requires.right.small
