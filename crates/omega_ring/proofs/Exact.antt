-- A rounded quotient is exact where the divisor divides.
use Rattle.std.proofs.Common.{◌≡◌, ◌≢◌, ℤ, pos, ◌*ℤ◌, ◌≤ℤ◌, ◌<ℤ◌, refl, sym, ap, subst, ◌∙◌, arith, [], ◌∷◌}
use Rattle.state_model.specs.Coefficient.{Coefficient, zero_coefficient, ◌⊖◌, ◌⊗◌}
use Rattle.state_model.specs.Divisors.{Divides, norm}
use Rattle.state_model.specs.Quotients.{IsRemainder}
use Rattle.omega_ring.specs.Steps.{IsNearest, numerator}
use Rattle.state_model.proofs.Euclid.{zero_of_norm}
use Rattle.state_model.proofs.Expressions.{coordinates, equal_quads, mul_quad, quad, sub_quad}
use Rattle.state_model.proofs.Inequalities.{order, below_of_product}
use Rattle.state_model.proofs.Integers.{mul_comm_ℤ}
use Rattle.state_model.proofs.Norms.{norm-⊗, norm_positive}
use Rattle.state_model.proofs.Polynomial.{var, number, times, equal}
use Rattle.state_model.proofs.Ring.{same_coordinates}
use Rattle.omega_ring.proofs.Rounding.{is_remainder}

difference : (p q u : Coefficient) → p ⊗ u ⊖ q ⊗ u ≡ (p ⊖ q) ⊗ u
difference p q u =
    let a = quad 0 in let b = quad 4 in let c = quad 8 in
    equal_quads (coordinates p (coordinates q (coordinates u []))) (sub_quad (mul_quad a c) (mul_quad b c)) (mul_quad (sub_quad a b) c) refl refl refl refl

-- less than one times a positive number
not_one : (k n : ℤ) → pos 0 <ℤ n → (k *ℤ n) <ℤ n → k ≤ℤ pos 0
not_one k n h l =
    let b : k <ℤ pos 1 = below_of_product n k (pos 1) (omega (arith, order)) (subst (λ (t : ℤ). (n *ℤ k) <ℤ t) (sym (one n)) (subst (λ (t : ℤ). t <ℤ n) (mul_comm_ℤ k n) l)) in
    omega (arith, order)
  where
    one : (n : ℤ) → n *ℤ pos 1 ≡ n
    one n = equal (n ∷ []) (times (var 0) (number (pos 1))) (var 0) refl

same_of_difference : (p q : Coefficient) → p ⊖ q ≡ zero_coefficient → p ≡ q
same_of_difference p q e =
    let a = ap (λ (t : Coefficient). t.a) e in let b = ap (λ (t : Coefficient). t.b) e in let c = ap (λ (t : Coefficient). t.c) e in let d = ap (λ (t : Coefficient). t.d) e in
    same_coordinates p q (omega (arith, order)) (omega (arith, order)) (omega (arith, order)) (omega (arith, order))

pub exact_quotient : (z u q : Coefficient) → u ≢ zero_coefficient → IsNearest (norm u) (numerator z u) q → Divides u z → z ≡ q ⊗ u
exact_quotient z u q some near d =
    let r : IsRemainder z u (z ⊖ q ⊗ u) = is_remainder z u q (z ⊖ q ⊗ u) (norm_positive u some) near refl in
    let e : z ⊖ q ⊗ u ≡ (d.0 ⊖ q) ⊗ u = ap (λ (t : Coefficient). t ⊖ q ⊗ u) (d.1) ∙ difference (d.0) q u in
    let l : (norm (d.0 ⊖ q) *ℤ norm u) <ℤ norm u = subst (λ (t : ℤ). t <ℤ norm u) (ap norm e ∙ norm-⊗ (d.0 ⊖ q) u) r.smaller in
    d.1 ∙ ap (λ (t : Coefficient). t ⊗ u) (same_of_difference (d.0) q (zero_of_norm (d.0 ⊖ q) (not_one (norm (d.0 ⊖ q)) (norm u) (norm_positive u some) l)))
