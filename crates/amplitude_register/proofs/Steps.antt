-- One step of a division by a common divisor or of a product with a unit.
use Rattle.std.proofs.Common.{◌≡◌, ◌≢◌, ℕ, ◌≤◌, ◌*◌, ◌<◌, ◌^◌, ℤ, pos, ◌+ℤ◌, ◌-ℤ◌, ◌*ℤ◌, neg_ℤ, ◌≤ℤ◌, ◌<ℤ◌, unsigned_abs, List, [], refl, sym, ap, subst, ◌∙◌, arith}
use Rattle.std.proofs.lemmas.Int.{ints, unsigned_abs-mul}
use native.Mathlib.Nat.{mul-le-mul}
use Rattle.state_model.proofs.Delta.{product-both, product-conjugate, product-delta}
use Rattle.omega_ring.proofs.WeightSteps.{product-unit_down, product-unit_up}
use Rattle.amplitude_register.proofs.Sums.{IsReal, real_sum, entry_below}
use Rattle.state_model.specs.Coefficient.{Coefficient, zero_coefficient, ◌⊗◌, Weight, weight}
use Rattle.state_model.specs.Divisors.{weight_product, weight_norm, delta, delta_conjugate, both_deltas, unit_up, unit_down, IsBalanced}
use Rattle.state_model.specs.CoefficientList.{at, DividesAll, IsScaled, IsNonzero, IsNormal, HasDeltaDivisors, total_weight}
use Rattle.state_model.specs.Quotients.{IsEven}
use Rattle.state_model.proofs.Polynomial.{number, minus}
use Rattle.state_model.proofs.Expressions.{quad, mul_quad, equal_quads, coordinates, same_weight}
use Rattle.state_model.proofs.Ring.{⊗_comm, ⊗_assoc}
use Rattle.state_model.proofs.Domain.{zero_coefficient-⊗}
use Rattle.state_model.proofs.Norms.{weight_norm-product, weight_below, weight_above, weight_norm_zero}
use Rattle.state_model.proofs.Inequalities.{order}
use Rattle.state_model.proofs.Least.{multiple_weight}
use Rattle.state_model.proofs.Reduction.{delta_free_reduced}
use Rattle.state_model.proofs.RegisterSizes.{scaled_trans}
use Rattle.amplitude_register.specs.Multiples.{AreTimes}

-- ---- multiples
pub delta_nonzero : delta ≢ zero_coefficient
delta_nonzero e = let f : pos 1 ≡ pos 0 = ap (λ (z : Coefficient). z.a) e in cc f

pub conjugate_nonzero : delta_conjugate ≢ zero_coefficient
conjugate_nonzero e = let f : pos 1 ≡ pos 0 = ap (λ (z : Coefficient). z.a) e in cc f

pub both_nonzero : both_deltas ≢ zero_coefficient
both_nonzero e = let f : pos 1 ≡ pos 0 = ap (λ (z : Coefficient). z.a) e in cc f

pub up_nonzero : unit_up ≢ zero_coefficient
up_nonzero e = let f : pos 1 ≡ pos 0 = ap (λ (z : Coefficient). z.a) e in cc f

pub down_nonzero : unit_down ≢ zero_coefficient
down_nonzero e = let f : pos 1 ≡ pos 0 = ap (λ (z : Coefficient). z.b) e in cc f

-- where vs is us times u, vs is a multiple of us
pub scaled_times : (vs us : List Coefficient) (u : Coefficient) → u ≢ zero_coefficient → AreTimes vs us u → IsScaled us vs
scaled_times vs us u n h = record { factor = u; nonzero = n; value = λ i. h.value i ∙ ⊗_comm (at us i) u }

-- ---- weights
pub times_weight : (vs us : List Coefficient) (u : Coefficient) → AreTimes vs us u → total_weight vs ≡ weight_product (total_weight us) (weight u)
times_weight vs us u h = multiple_weight u us vs h.rows (λ j. h.value j ∙ ⊗_comm (at us j) u)

pub x_positive : (vs : List Coefficient) → IsNonzero vs → pos 0 <ℤ (total_weight vs).x
x_positive vs h =
    let k = entry_below vs (h.0) in
    let a = weight_below (at vs (h.0)) (h.1) in
    let b = weight_above (at vs (h.0)) (h.1) in
    both (weight (at vs (h.0))) (total_weight vs).x k a b
  where
    both : (w : Weight) (x : ℤ) → w.x ≤ℤ x → w.y <ℤ w.x → neg_ℤ w.y <ℤ w.x → pos 0 <ℤ x
    both w x k a b = omega (arith, order)

pub times_nonzero : (vs us : List Coefficient) (u : Coefficient) → AreTimes vs us u → IsNonzero vs → IsNonzero us
times_nonzero vs us u h n = (n.0, λ e. n.1 (h.value (n.0) ∙ ap (λ (t : Coefficient). t ⊗ u) e ∙ zero_coefficient-⊗ u))

-- the norm falls, to its half or to a quarter
pub norm_falls : (w v u : Weight) (m : ℕ) → w ≡ weight_product v u → weight_norm u ≡ pos m → 2 ≤ m → pos 0 <ℤ v.x → unsigned_abs (weight_norm v) < unsigned_abs (weight_norm w)
norm_falls w v u m e f l h =
    let g : unsigned_abs (weight_norm w) ≡ unsigned_abs (weight_norm v) * m = ap (λ (t : Weight). unsigned_abs (weight_norm t)) e ∙ ap unsigned_abs (weight_norm-product v u ∙ ap (λ (t : ℤ). weight_norm v *ℤ t) f) ∙ unsigned_abs-mul (weight_norm v) (pos m) in
    let n : unsigned_abs (weight_norm v) ≢ 0 = λ z. no_zero (weight_norm_zero v (abs_zero (weight_norm v) z)) in
    below (unsigned_abs (weight_norm v)) m (unsigned_abs (weight_norm w)) g n l
  where
    below : (n m k : ℕ) → k ≡ n * m → n ≢ 0 → 2 ≤ m → n < k
    below n m k e h l = let r : n ≤ n = omega arith in let p : n * 2 ≤ n * m = mul-le-mul r l in omega (arith, e, h, p)

    abs_zero : (z : ℤ) → unsigned_abs z ≡ 0 → z ≡ pos 0
    abs_zero z e = omega (arith, ints)

    no_zero : v.x ≡ pos 0 → ⊥
    no_zero e = omega (arith, order)

abbrev lower_pair : Weight
lower_pair = record { x = pos 2; y = pos 1 }

abbrev upper_pair : Weight
upper_pair = record { x = pos 2; y = neg_ℤ (pos 1) }

-- what one division by 1 + w or 1 - w leaves, where r is the weight that the code computes
pub record IsDivided (vs us : List Coefficient) (w r : Weight) : Type 0 where
  pub weight : r ≡ total_weight us
  pub smaller : r.x ≤ℤ w.x
  pub nonzero : IsNonzero us
  pub falls : unsigned_abs (weight_norm r) < unsigned_abs (weight_norm w)
  pub scaled : IsScaled us vs

pub lower_even : (vs us : List Coefficient) (w : Weight) → w ≡ total_weight vs → AreTimes vs us delta_conjugate → IsEven w.x
lower_even vs us w e h =
    let v = total_weight us in
    (v.x +ℤ v.y, ap (λ (t : Weight). t.x) (e ∙ times_weight vs us delta_conjugate h ∙ product-conjugate v) ∙ split v)
  where
    split : (v : Weight) → v.x +ℤ v.x +ℤ v.y +ℤ v.y ≡ (v.x +ℤ v.y) +ℤ (v.x +ℤ v.y)
    split v = omega (arith, order)

pub upper_even : (vs us : List Coefficient) (w : Weight) → w ≡ total_weight vs → AreTimes vs us delta → IsEven w.x
upper_even vs us w e h =
    let v = total_weight us in
    (v.x -ℤ v.y, ap (λ (t : Weight). t.x) (e ∙ times_weight vs us delta h ∙ product-delta v) ∙ split v)
  where
    split : (v : Weight) → v.x +ℤ v.x -ℤ v.y -ℤ v.y ≡ (v.x -ℤ v.y) +ℤ (v.x -ℤ v.y)
    split v = omega (arith, order)

cancel_lower : (v u : Weight) → weight_product v lower_pair ≡ weight_product u lower_pair → v ≡ u
cancel_lower v u e =
    let f = sym (product-conjugate v) ∙ e ∙ product-conjugate u in
    let fx = ap (λ (t : Weight). t.x) f in let fy = ap (λ (t : Weight). t.y) f in
    same_weight v u (omega (arith, order)) (omega (arith, order))

cancel_upper : (v u : Weight) → weight_product v upper_pair ≡ weight_product u upper_pair → v ≡ u
cancel_upper v u e =
    let f = sym (product-delta v) ∙ e ∙ product-delta u in
    let fx = ap (λ (t : Weight). t.x) f in let fy = ap (λ (t : Weight). t.y) f in
    same_weight v u (omega (arith, order)) (omega (arith, order))

x_of : (r : Weight) (us : List Coefficient) → r ≡ total_weight us → IsNonzero us → pos 0 <ℤ r.x
x_of r us e n = subst (λ (t : Weight). pos 0 <ℤ t.x) (sym e) (x_positive us n)

divided_by : (d : Coefficient) (m : ℕ) (vs us : List Coefficient) (w r : Weight) → d ≢ zero_coefficient → ((v u : Weight) → weight_product v (weight d) ≡ weight_product u (weight d) → v ≡ u) → weight_norm (weight d) ≡ pos m → 2 ≤ m
    → w ≡ total_weight vs → IsNonzero vs → AreTimes vs us d → w ≡ weight_product r (weight d) → (pos 0 <ℤ r.x → r.x ≤ℤ w.x) → IsDivided vs us w r
divided_by d m vs us w r some cancel norm two e n h f less =
    let g : r ≡ total_weight us = cancel r (total_weight us) (sym f ∙ e ∙ times_weight vs us d h) in
    let k = times_nonzero vs us d h n in
    let x = x_of r us g k in
    record { weight = g; smaller = less x; nonzero = k; falls = norm_falls w r (weight d) m f norm two x; scaled = scaled_times vs us d some h }

pub lower_step : (vs us : List Coefficient) (w r : Weight) → w ≡ total_weight vs → pos 0 ≤ℤ w.y → IsNonzero vs → AreTimes vs us delta_conjugate → w ≡ weight_product r lower_pair → IsDivided vs us w r
lower_step vs us w r e s n h f = divided_by delta_conjugate 2 vs us w r conjugate_nonzero cancel_lower refl (omega arith) e n h f (λ p. not_more w r s (f ∙ product-conjugate r))
  where
    not_more : (w r : Weight) → pos 0 ≤ℤ w.y → w ≡ record { x = r.x +ℤ r.x +ℤ r.y +ℤ r.y; y = r.x +ℤ r.y +ℤ r.y } → r.x ≤ℤ w.x
    not_more w r s f =
        let fx = ap (λ (t : Weight). t.x) f in let fy = ap (λ (t : Weight). t.y) f in
        omega (arith, order)

pub upper_step : (vs us : List Coefficient) (w r : Weight) → w ≡ total_weight vs → w.y ≤ℤ pos 0 → IsNonzero vs → AreTimes vs us delta → w ≡ weight_product r upper_pair → IsDivided vs us w r
upper_step vs us w r e s n h f = divided_by delta 2 vs us w r delta_nonzero cancel_upper refl (omega arith) e n h f (λ p. not_more w r s (f ∙ product-delta r))
  where
    not_more : (w r : Weight) → w.y ≤ℤ pos 0 → w ≡ record { x = r.x +ℤ r.x -ℤ r.y -ℤ r.y; y = r.y +ℤ r.y -ℤ r.x } → r.x ≤ℤ w.x
    not_more w r s f =
        let fx = ap (λ (t : Weight). t.x) f in let fy = ap (λ (t : Weight). t.y) f in
        omega (arith, order)

-- ---- by 1 - w^2
abbrev both_pair : Weight
both_pair = record { x = pos 2; y = pos 0 }

pub both_weights_even : (vs us : List Coefficient) (w : Weight) → w ≡ total_weight vs → AreTimes vs us both_deltas → IsEven w.x × IsEven w.y
both_weights_even vs us w e h =
    let v = total_weight us in let f = e ∙ times_weight vs us both_deltas h ∙ product-both v in
    ((v.x, ap (λ (t : Weight). t.x) f), (v.y, ap (λ (t : Weight). t.y) f))

cancel_both : (v u : Weight) → weight_product v both_pair ≡ weight_product u both_pair → v ≡ u
cancel_both v u e =
    let f = sym (product-both v) ∙ e ∙ product-both u in
    let fx = ap (λ (t : Weight). t.x) f in let fy = ap (λ (t : Weight). t.y) f in
    same_weight v u (omega (arith, order)) (omega (arith, order))

pub both_step : (vs us : List Coefficient) (w r : Weight) → w ≡ total_weight vs → IsNonzero vs → AreTimes vs us both_deltas → w ≡ weight_product r both_pair → IsDivided vs us w r
both_step vs us w r e n h f = divided_by both_deltas 4 vs us w r both_nonzero cancel_both refl (omega arith) e n h f (λ p. not_more w r p (f ∙ product-both r))
  where
    not_more : (w r : Weight) → pos 0 <ℤ r.x → w ≡ record { x = r.x +ℤ r.x; y = r.y +ℤ r.y } → r.x ≤ℤ w.x
    not_more w r s f = let fx = ap (λ (t : Weight). t.x) f in omega (arith, order)

-- ---- units
times_down_up : (z : Coefficient) → z ≡ (z ⊗ unit_down) ⊗ unit_up
times_down_up z =
    let t = quad 0 in let one = number (pos 1) in let nought = number (pos 0) in
    equal_quads (coordinates z []) t (mul_quad (mul_quad t record { a = minus one; b = one; c = nought; d = minus one }) record { a = one; b = one; c = nought; d = minus one }) refl refl refl refl

times_up_down : (z : Coefficient) → z ≡ (z ⊗ unit_up) ⊗ unit_down
times_up_down z =
    let t = quad 0 in let one = number (pos 1) in let nought = number (pos 0) in
    equal_quads (coordinates z []) t (mul_quad (mul_quad t record { a = one; b = one; c = nought; d = minus one }) record { a = minus one; b = one; c = nought; d = minus one }) refl refl refl refl

pub record IsTurned (vs us : List Coefficient) (w r : Weight) : Type 0 where
  pub weight : r ≡ total_weight us
  pub small : r.x <ℤ pos (2 ^ 122)
  pub falls : unsigned_abs r.x < unsigned_abs w.x
  pub scaled : IsScaled us vs

turned_by : (d back : Coefficient) (vs us : List Coefficient) (w r : Weight) → back ≢ zero_coefficient → ((z : Coefficient) → z ≡ (z ⊗ d) ⊗ back)
    → w ≡ total_weight vs → w.x <ℤ pos (2 ^ 122) → AreTimes us vs d → r ≡ weight_product w (weight d) → (pos 0 ≤ℤ r.x → r.x <ℤ w.x) → IsTurned vs us w r
turned_by d back vs us w r some inverse e s h f less =
    let g : r ≡ total_weight us = f ∙ ap (λ (t : Weight). weight_product t (weight d)) e ∙ sym (times_weight us vs d h) in
    let p : IsReal r = subst IsReal (sym g) (real_sum us) in
    let b = less p.positive in
    record { weight = g; small = trans r.x w.x b s; falls = fall r.x w.x p.positive b; scaled = scaled_times vs us back some record { rows = sym h.rows; value = λ i. inverse (at vs i) ∙ ap (λ (t : Coefficient). t ⊗ back) (sym (h.value i)) } }
  where
    fall : (z x : ℤ) → pos 0 ≤ℤ z → z <ℤ x → unsigned_abs z < unsigned_abs x
    fall z x p k = omega (arith, ints)

    trans : (z x : ℤ) → z <ℤ x → x <ℤ pos (2 ^ 122) → z <ℤ pos (2 ^ 122)
    trans z x k s = omega (arith, order)

pub down_step : (vs us : List Coefficient) (w r : Weight) → w ≡ total_weight vs → w.x <ℤ pos (2 ^ 122) → w.x <ℤ (w.y +ℤ w.y) → AreTimes us vs unit_down → r ≡ weight_product w (weight unit_down) → IsTurned vs us w r
down_step vs us w r e s l h f = turned_by unit_down unit_up vs us w r up_nonzero times_down_up e s h f (λ p. below w.x w.y r.x p l (ap (λ (t : Weight). t.x) (f ∙ product-unit_down w)))
  where
    below : (x y z : ℤ) → pos 0 ≤ℤ z → x <ℤ (y +ℤ y) → z ≡ (x +ℤ x +ℤ x) -ℤ (y +ℤ y +ℤ y +ℤ y) → z <ℤ x
    below x y z p l f = omega (arith, order)

pub up_step : (vs us : List Coefficient) (w r : Weight) → w ≡ total_weight vs → w.x <ℤ pos (2 ^ 122) → (w.x +ℤ w.y +ℤ w.y) <ℤ pos 0 → AreTimes us vs unit_up → r ≡ weight_product w (weight unit_up) → IsTurned vs us w r
up_step vs us w r e s l h f = turned_by unit_up unit_down vs us w r down_nonzero times_up_down e s h f (λ p. below w.x w.y r.x p l (ap (λ (t : Weight). t.x) (f ∙ product-unit_up w)))
  where
    below : (x y z : ℤ) → pos 0 ≤ℤ z → (x +ℤ y +ℤ y) <ℤ pos 0 → z ≡ (x +ℤ x +ℤ x) +ℤ (y +ℤ y +ℤ y +ℤ y) → z <ℤ x
    below x y z p l f = omega (arith, order)

-- ---- the whole
pub divides_scaled_all : (us vs : List Coefficient) (u : Coefficient) → IsScaled us vs → DividesAll u us → DividesAll u vs
divides_scaled_all us vs u h d i = let e = d i in (h.factor ⊗ (e.0), h.value i ∙ ap (λ t. h.factor ⊗ t) (e.1) ∙ sym (⊗_assoc h.factor (e.0) u))

-- old: the vector at the start; rest: after the divisions; new: balanced
pub normal_end : (old rest new : List Coefficient) (w : Weight) → HasDeltaDivisors old → IsScaled rest old → (DividesAll delta rest → ⊥) → IsScaled new rest → w ≡ total_weight new → IsBalanced w → IsNormal new
normal_end old rest new w d h n k e b = record {
  reduced = delta_free_reduced new (λ u c. (d u (divides_scaled_all new old u (scaled_trans new rest old k h) c))) (λ c. n (divides_scaled_all new rest delta k c));
  balanced = subst IsBalanced e b;
}
