-- One of Euclid's steps keeps the common divisors.
use Rattle.std.proofs.Common.{◌≡◌, ◌<◌, ℤ, pos, ◌≤ℤ◌, ◌<ℤ◌, unsigned_abs, refl, sym, ap, ◌∙◌, arith, []}
use Rattle.std.proofs.lemmas.Int.{ints}
use Rattle.state_model.specs.Coefficient.{Coefficient, one_coefficient, weight, zero_coefficient, ◌⊕◌, ◌⊖◌, ◌⊗◌}
use Rattle.state_model.specs.Divisors.{Divides, IsBalanced, norm}
use Rattle.state_model.specs.Quotients.{IsAssociate, IsGreatest, IsRemainder}
use Rattle.omega_ring.specs.Steps.{IsReady}
use Rattle.state_model.proofs.Euclid.{divides_both, divides_refl, divides_trans, divides_zero}
use Rattle.state_model.proofs.Expressions.{Quad, add_quad, coordinates, equal_quads, mul_quad, quad, sub_quad}
use Rattle.state_model.proofs.Inequalities.{order}
use Rattle.state_model.proofs.Norms.{norm_not_negative}
use Rattle.state_model.proofs.Polynomial.{number}

pub greatest_at_zero : (z u : Coefficient) → u ≡ zero_coefficient → IsGreatest z u z
greatest_at_zero z u e = record { left = divides_refl z; right = rw e (divides_zero z); greatest = λ h p q. p }

abbrev one_quad : Quad
one_quad = record { a = number (pos 1); b = number (pos 0); c = number (pos 0); d = number (pos 0) }

-- r + q * u is z, and z - q * u is r
joined : (z u q : Coefficient) → z ≡ one_coefficient ⊗ (z ⊖ q ⊗ u) ⊕ q ⊗ u
joined z u q =
    let a = quad 0 in let b = quad 4 in let c = quad 8 in
    equal_quads (coordinates z (coordinates u (coordinates q []))) a (add_quad (mul_quad one_quad (sub_quad a (mul_quad c b))) (mul_quad c b)) refl refl refl refl

parted : (z u q : Coefficient) → z ⊖ q ⊗ u ≡ one_coefficient ⊗ z ⊕ (zero_coefficient ⊖ q) ⊗ u
parted z u q =
    let a = quad 0 in let b = quad 4 in let c = quad 8 in
    let o : Quad = record { a = number (pos 0); b = number (pos 0); c = number (pos 0); d = number (pos 0) } in
    equal_quads (coordinates z (coordinates u (coordinates q []))) (sub_quad a (mul_quad c b)) (add_quad (mul_quad one_quad a) (mul_quad (sub_quad o c) b)) refl refl refl refl

pub greatest_step : (z u r b g : Coefficient) → IsRemainder z u r → IsAssociate b r → IsGreatest u b g → IsGreatest z u g
greatest_step z u r b g m a k = record { left = to_z'; right = k.left; greatest = λ h p q. k.greatest h q (divides_trans h r b (to_r h p q) (a.1)) }
  where
    to_z' : Divides g z
    to_z' =
        let e : z ≡ one_coefficient ⊗ r ⊕ m.quotient ⊗ u = joined z u m.quotient ∙ ap (λ (t : Coefficient). one_coefficient ⊗ t ⊕ m.quotient ⊗ u) (sym m.value) in
        let d = divides_both g r u one_coefficient m.quotient (divides_trans g b r k.right (a.0)) k.left in
        (d.0, e ∙ d.1)

    to_r : (h : Coefficient) → Divides h z → Divides h u → Divides h r
    to_r h p q =
        let d = divides_both h z u one_coefficient (zero_coefficient ⊖ m.quotient) p q in
        (d.0, m.value ∙ parted z u m.quotient ∙ d.1)

pub ready_step : (u r b : Coefficient) → IsReady u → norm r <ℤ norm u → IsBalanced (weight b) → norm b ≡ norm r → IsReady b
ready_step u r b h l k e = let s = h.small in record { balanced = k; small = omega (arith, order) }

pub norm_falls : (u r b : Coefficient) → norm r <ℤ norm u → norm b ≡ norm r → unsigned_abs (norm b) < unsigned_abs (norm u)
norm_falls u r b l e = fall (norm b) (norm u) (norm_not_negative b) (omega (arith, order))
  where
    fall : (x y : ℤ) → pos 0 ≤ℤ x → x <ℤ y → unsigned_abs x < unsigned_abs y
    fall x y h k = omega (arith, ints)
