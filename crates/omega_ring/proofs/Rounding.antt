-- The facts on which the code of a division with a remainder rests.
use Rattle.std.proofs.Common.{◌≡◌, ℕ, ◌-◌, ◌*◌, ◌≤◌, ◌<◌, ◌^◌, ℤ, pos, ◌+ℤ◌, ◌-ℤ◌, ◌*ℤ◌, neg_ℤ, ◌≤ℤ◌, ◌<ℤ◌, unsigned_abs, FitsSigned, to_z, of_z, refl, sym, ap, subst, ◌∙◌, arith, [], ◌∷◌}
use Rattle.std.proofs.lemmas.Int.{ints, to_z-of_z}
use Rattle.std.proofs.lemmas.Nat.{mul-le}
use mir.Syntax.{w128}
use Rattle.state_model.specs.Coefficient.{Coefficient, Weight, conjugate, weight, ◌⊖◌, ◌⊗◌}
use Rattle.state_model.specs.Divisors.{norm, weight_norm}
use Rattle.state_model.specs.Quotients.{IsHalf, IsRemainder}
use Rattle.omega_ring.specs.Range.{CoordinatesBelow, CoordinatesUpTo, PartsBelow}
use Rattle.omega_ring.specs.Steps.{IsNearest, IsReady, conjugate_weight}
use Rattle.state_model.proofs.Division.{companion, nearest_quotient, remainder_product, scale}
use Rattle.state_model.proofs.Inequalities.{order}
use Rattle.state_model.proofs.Polynomial.{equal, less, number, plus, times, var}
use Rattle.state_model.proofs.Units.{x_not_negative, y_at_most}
use Rattle.omega_ring.proofs.Sizes.{IsSmall, product_by_norm, ready_small, remainder_weight, ⊗-bound}
use Rattle.omega_ring.proofs.Stored.{back_of}

-- ---- the three ways to round
shift_up : (t q r n : ℤ) → q *ℤ n +ℤ r ≡ t → t -ℤ (q +ℤ pos 1) *ℤ n ≡ r -ℤ n
shift_up t q r n e = sym (ap (λ (x : ℤ). x -ℤ (q +ℤ pos 1) *ℤ n) e) ∙ (let x = var 0 in let y = var 1 in let z = var 2 in equal (q ∷ r ∷ n ∷ []) (less (plus (times x z) y) (times (plus x (number (pos 1))) z)) (less y z) refl)

shift_down : (t q r n : ℤ) → q *ℤ n +ℤ r ≡ t → t -ℤ (q -ℤ pos 1) *ℤ n ≡ r +ℤ n
shift_down t q r n e = sym (ap (λ (x : ℤ). x -ℤ (q -ℤ pos 1) *ℤ n) e) ∙ (let x = var 0 in let y = var 1 in let z = var 2 in equal (q ∷ r ∷ n ∷ []) (less (plus (times x z) y) (times (less x (number (pos 1))) z)) (plus y z) refl)

no_shift : (t q r n : ℤ) → q *ℤ n +ℤ r ≡ t → t -ℤ q *ℤ n ≡ r
no_shift t q r n e = sym (ap (λ (x : ℤ). x -ℤ q *ℤ n) e) ∙ (let x = var 0 in let y = var 1 in let z = var 2 in equal (q ∷ r ∷ n ∷ []) (less (plus (times x z) y) (times x z)) y refl)

pub half_up : (t q r n p : ℤ) → pos 0 <ℤ n → q *ℤ n +ℤ r ≡ t → unsigned_abs r < unsigned_abs n → (n -ℤ r) <ℤ r → p ≡ q +ℤ pos 1 → IsHalf n (t -ℤ p *ℤ n)
half_up t q r n p h e k l f = rw (f, shift_up t q r n e) record { low = omega (arith, ints); high = omega (arith, ints) }

pub half_down : (t q r n p : ℤ) → pos 0 <ℤ n → q *ℤ n +ℤ r ≡ t → unsigned_abs r < unsigned_abs n → r <ℤ (neg_ℤ n -ℤ r) → p ≡ q -ℤ pos 1 → IsHalf n (t -ℤ p *ℤ n)
half_down t q r n p h e k l f = rw (f, shift_down t q r n e) record { low = omega (arith, ints); high = omega (arith, ints) }

pub half_here : (t q r n p : ℤ) → q *ℤ n +ℤ r ≡ t → r ≤ℤ (n -ℤ r) → (neg_ℤ n -ℤ r) ≤ℤ r → p ≡ q → IsHalf n (t -ℤ p *ℤ n)
half_here t q r n p e k l f = rw (f, no_shift t q r n e) record { low = omega (arith, ints); high = omega (arith, ints) }

pub half_stored : (n t q : ℤ) → FitsSigned w128 n → FitsSigned w128 t → FitsSigned w128 q → IsHalf (to_z w128 (of_z w128 n)) (to_z w128 (of_z w128 t) -ℤ q *ℤ to_z w128 (of_z w128 n)) → IsHalf n (t -ℤ to_z w128 (of_z w128 q) *ℤ n)
half_stored n t q f g h k = rw (to_z-of_z w128 q h) (rw (to_z-of_z w128 n f, to_z-of_z w128 t g) at k)

-- the quotient and what is left of it, where the code divided
pub stored_parts : (t n q r : ℤ) → FitsSigned w128 t → FitsSigned w128 n → q *ℤ to_z w128 (of_z w128 n) +ℤ r ≡ to_z w128 (of_z w128 t) → unsigned_abs r < unsigned_abs (to_z w128 (of_z w128 n)) → (q *ℤ n +ℤ r ≡ t) × (unsigned_abs r < unsigned_abs n)
stored_parts t n q r f g e h = (rw (to_z-of_z w128 n g, to_z-of_z w128 t f) at e, rw (to_z-of_z w128 n g) at h)

-- ---- sizes
pub far_size : (p q r : ℤ) → unsigned_abs p < 2 ^ 31 → unsigned_abs q ≤ 2 ^ 94 → unsigned_abs r ≡ unsigned_abs (to_z w128 (of_z w128 p)) * unsigned_abs (to_z w128 (of_z w128 q)) → unsigned_abs (to_z w128 (of_z w128 r)) < 2 ^ 125
far_size p q r h k e =
    let f : unsigned_abs r ≡ unsigned_abs p * unsigned_abs q = rw (back_of p (omega (arith, h)), back_of q (omega (arith, k))) at e in
    let l : unsigned_abs p * unsigned_abs q ≤ (2 ^ 31 - 1) * 2 ^ 94 = mul-le (unsigned_abs p) (unsigned_abs q) (2 ^ 31 - 1) (2 ^ 94) (omega (arith, h)) (omega (arith, k)) in
    let m : unsigned_abs r < 2 ^ 125 = omega arith in
    rw (back_of r (omega (arith, m))) m

pub within_up : (n m : ℕ) (z : Coefficient) → CoordinatesBelow n z → n ≤ m → CoordinatesBelow m z
within_up n m z h k = record { a = omega (arith, h.a); b = omega (arith, h.b); c = omega (arith, h.c); d = omega (arith, h.d) }

pub up_to : (n m : ℕ) (z : Coefficient) → CoordinatesBelow n z → n ≤ m → CoordinatesUpTo m z
up_to n m z h k = record { a = omega (arith, h.a); b = omega (arith, h.b); c = omega (arith, h.c); d = omega (arith, h.d) }

pub up_more : (n m : ℕ) (z : Coefficient) → CoordinatesUpTo n z → n ≤ m → CoordinatesUpTo m z
up_more n m z h k = record { a = omega (arith, h.a); b = omega (arith, h.b); c = omega (arith, h.c); d = omega (arith, h.d) }

pub most_within : (n : ℕ) (z : Coefficient) → CoordinatesBelow n z → CoordinatesUpTo n z
most_within n z h = record { a = omega (arith, h.a); b = omega (arith, h.b); c = omega (arith, h.c); d = omega (arith, h.d) }

abs_neg : (z : ℤ) → unsigned_abs (neg_ℤ z) ≡ unsigned_abs z
abs_neg z = omega (arith, ints)

pub within_conjugate : (n : ℕ) (z : Coefficient) → CoordinatesBelow n z → CoordinatesBelow n (conjugate z)
within_conjugate n z h = record { a = h.a; b = omega (arith, h.d, abs_neg z.d); c = omega (arith, h.c, abs_neg z.c); d = omega (arith, h.b, abs_neg z.b) }

pub weight_parts : (u : Coefficient) (w : Weight) → w ≡ weight u → (weight u).x <ℤ pos (2 ^ 62) → PartsBelow (2 ^ 62) w
weight_parts u w e s = subst (PartsBelow (2 ^ 62)) (sym e) (fields (weight u) s (x_not_negative u) (l.0) (l.1))
  where
    l : ((weight u).y ≤ℤ (weight u).x) × (neg_ℤ (weight u).y ≤ℤ (weight u).x)
    l = y_at_most u

    fields : (v : Weight) → v.x <ℤ pos (2 ^ 62) → pos 0 ≤ℤ v.x → v.y ≤ℤ v.x → neg_ℤ v.y ≤ℤ v.x → PartsBelow (2 ^ 62) v
    fields v h k l m = record { x = omega (arith, ints); y = omega (arith, ints) }

pub weight_fields : (u : Coefficient) (w : Weight) → w ≡ weight u → IsSmall u → PartsBelow (2 ^ 62) w
weight_fields u w e s = weight_parts u w e s.x

pub within_weight : (w : Weight) → PartsBelow (2 ^ 62) w → CoordinatesUpTo (2 ^ 94) (conjugate_weight w)
within_weight w h = record { a = omega (arith, h.x); b = omega (arith, h.y, abs_neg w.y); c = omega arith; d = omega (arith, h.y) }

-- what a coefficient's conjugate gives with that of its weight
pub companion_of : (u p q r : Coefficient) (w : Weight) → p ≡ q ⊗ r → q ≡ conjugate u → r ≡ conjugate_weight w → w ≡ weight u → p ≡ companion u
companion_of u p q r w e f g h = e ∙ ap (λ (t : Coefficient). t ⊗ r) f ∙ ap (λ (t : Coefficient). conjugate u ⊗ t) (g ∙ ap conjugate_weight h)

-- the norm that the code computed
pub norm_of : (n : ℤ) (u : Coefficient) (w : Weight) → FitsSigned w128 n → n ≡ weight_norm w → w ≡ weight u → to_z w128 (of_z w128 n) ≡ norm u
norm_of n u w f e g = to_z-of_z w128 n f ∙ e ∙ ap weight_norm g

pub nearest_along : (n m : ℤ) (t s q : Coefficient) → m ≡ n → s ≡ t → IsNearest m s q → IsNearest n t q
nearest_along n m t s q e f k = subst (λ (x : ℤ). IsNearest x t q) e (subst (λ (x : Coefficient). IsNearest m x q) f k)

pub numerator_size : (z u t : Coefficient) (n : ℤ) → CoordinatesBelow (2 ^ 31) z → IsReady u → pos 0 <ℤ norm u → n ≡ norm u → t ≡ z ⊗ companion u → CoordinatesUpTo (2 ^ 35 * unsigned_abs n) t
numerator_size z u t n hz hu h e f =
    let k = product_by_norm z u hz hu.balanced (weak (norm u) h) in
    subst (λ (x : ℤ). CoordinatesUpTo (2 ^ 35 * unsigned_abs x) t) (sym e) (subst (CoordinatesUpTo (2 ^ 35 * unsigned_abs (norm u))) (sym f) k)
  where
    weak : (x : ℤ) → pos 0 <ℤ x → pos 0 ≤ℤ x
    weak x h = omega (arith, order)

pub quotient_product_size : (q u : Coefficient) → CoordinatesBelow (2 ^ 36) q → CoordinatesBelow (2 ^ 31) u → CoordinatesUpTo (2 ^ 125) (q ⊗ u)
quotient_product_size q u h k = up_more (2 ^ 36 * 2 ^ 33) (2 ^ 125) (q ⊗ u) (⊗-bound q u (2 ^ 36) (2 ^ 33) (most_within (2 ^ 36) q h) (omega (arith, k.a, k.b, k.c, k.d))) (omega arith)

pub is_remainder : (z u q r : Coefficient) → pos 0 <ℤ norm u → IsNearest (norm u) (z ⊗ companion u) q → r ≡ z ⊖ q ⊗ u → IsRemainder z u r
is_remainder z u q r h k e = record { quotient = q; value = e; smaller = rw e (nearest_quotient z u q h k.a k.b k.c k.d) }

pub remainder_small : (z u q r : Coefficient) → IsReady u → pos 0 <ℤ norm u → IsNearest (norm u) (z ⊗ companion u) q → r ≡ z ⊖ q ⊗ u → (weight r).x <ℤ pos (2 ^ 64)
remainder_small z u q r hu h k e =
    let f : r ⊗ companion u ≡ z ⊗ companion u ⊖ scale (norm u) q = ap (λ (t : Coefficient). t ⊗ companion u) e ∙ remainder_product z u q in
    let l = remainder_weight u r (z ⊗ companion u ⊖ scale (norm u) q) h hu.balanced f k.a k.b k.c k.d in
    let s = ready_small u hu in
    final (weight r).x (weight u).x l s.x
  where
    final : (x y : ℤ) → x ≤ℤ (y +ℤ y) → y <ℤ pos (2 ^ 62) → x <ℤ pos (2 ^ 64)
    final x y h k = omega (arith, order)
