-- Lists over a common divisor: their sums of squares stay small, and over a greatest one they are reduced.
use Rattle.std.proofs.Common.{◌≡◌, ◌≢◌, ℕ, ◌*◌, ◌^◌, ℤ, pos, ◌+ℤ◌, ◌-ℤ◌, ◌*ℤ◌, neg_ℤ, ◌≤ℤ◌, ◌<ℤ◌, List, [], ◌∷◌, refl, ap, subst, ◌∙◌, arith}
use Rattle.std.proofs.lemmas.Int.{by_lt_z}
use Rattle.state_model.specs.Coefficient.{Coefficient, zero_coefficient, ◌⊗◌, Weight, weight, weight_sum}
use Rattle.state_model.specs.Divisors.{Divides, IsBalanced, weight_product}
use Rattle.state_model.specs.CoefficientList.{at, DividesAll, IsNonzero, total_weight}
use Rattle.state_model.proofs.Domain.{⊗-zero_coefficient}
use Rattle.state_model.proofs.Expressions.{pair, mul_pair}
use Rattle.state_model.proofs.Inequalities.{order, doubled, fourfold, square_not_negative, product_not_negative, product_positive}
use Rattle.state_model.proofs.Norms.{norm_not_negative, weight_below, weight_above}
use Rattle.state_model.proofs.Polynomial.{Term, var, number, plus, times, less, square, minus, equal}
use Rattle.state_model.proofs.Reduction.{quotients_reduced}
use Rattle.state_model.proofs.Units.{x_not_negative}
use Rattle.amplitude_register.specs.Multiples.{AllWithin, AreTimes, IsReducedFrom}
use Rattle.amplitude_register.proofs.Steps.{scaled_times, times_weight}
use Rattle.omega_ring.proofs.UnitSizes.{coordinates_below}
use Rattle.amplitude_register.proofs.Sums.{entry_below, real_sum}

-- ---- a common divisor
pub divisor_nonzero : (vs : List Coefficient) (g : Coefficient) → IsNonzero vs → DividesAll g vs → g ≢ zero_coefficient
divisor_nonzero vs g some d e = some.1 (let k = d (some.0) in k.1 ∙ ap (λ (t : Coefficient). k.0 ⊗ t) e ∙ ⊗-zero_coefficient (k.0))

entry_small : (vs : List Coefficient) (n : ℕ) (i : ℕ) → (total_weight vs).x <ℤ pos n → (weight (at vs i)).x <ℤ pos n
entry_small vs n i h = let k = entry_below vs i in along (weight (at vs i)).x (total_weight vs).x k h
  where
    along : (x y : ℤ) → x ≤ℤ y → y <ℤ pos n → x <ℤ pos n
    along x y k h = omega (arith, order)

-- ---- sizes of the entries
pub entries_small : (vs : List Coefficient) → (total_weight vs).x <ℤ pos (2 ^ 60) → (i : ℕ) → (weight (at vs i)).x <ℤ pos (2 ^ 61)
entries_small vs h i = wider (weight (at vs i)).x (entry_small vs (2 ^ 60) i h)
  where
    wider : (x : ℤ) → x <ℤ pos (2 ^ 60) → x <ℤ pos (2 ^ 61)
    wider x h = omega (arith, order)

pub entries_within : (vs : List Coefficient) → (total_weight vs).x <ℤ pos (2 ^ 60) → AllWithin (2 ^ 31) vs
entries_within vs h i = coordinates_below (2 ^ 31) (at vs i) (wider (weight (at vs i)).x (entry_small vs (2 ^ 60) i h))
  where
    wider : (x : ℤ) → x <ℤ pos (2 ^ 60) → x <ℤ pos (2 ^ 31 * 2 ^ 31)
    wider x h = omega (arith, order)

-- ---- the sum of squares of the quotients
-- four times the absolute value of y is at most three times x
record IsSteep (w : Weight) : Type 0 where
  high : (w.y +ℤ w.y +ℤ w.y +ℤ w.y) ≤ℤ (w.x +ℤ w.x +ℤ w.x)
  low : neg_ℤ (w.y +ℤ w.y +ℤ w.y +ℤ w.y) ≤ℤ (w.x +ℤ w.x +ℤ w.x)

steep_side : (x y : ℤ) → pos 0 ≤ℤ x → pos 0 ≤ℤ (x *ℤ x -ℤ pos 2 *ℤ (y *ℤ y)) → (y +ℤ y +ℤ y +ℤ y) ≤ℤ (x +ℤ x +ℤ x)
steep_side x y h n = by_lt_z (x +ℤ x +ℤ x) (y +ℤ y +ℤ y +ℤ y) (λ l. absurd (none l)) (λ p. p)
  where
    none : (x +ℤ x +ℤ x) <ℤ (y +ℤ y +ℤ y +ℤ y) → ⊥
    none l =
        let p = product_positive ((y +ℤ y +ℤ y +ℤ y) -ℤ (x +ℤ x +ℤ x)) ((y +ℤ y +ℤ y +ℤ y) +ℤ (x +ℤ x +ℤ x)) (omega (arith, order)) (omega (arith, order)) in
        let s = square_not_negative x in
        let four : Term → Term = λ t. plus (plus (plus t t) t) t in
        let three : Term → Term = λ t. plus (plus t t) t in
        let e : ((y +ℤ y +ℤ y +ℤ y) -ℤ (x +ℤ x +ℤ x)) *ℤ ((y +ℤ y +ℤ y +ℤ y) +ℤ (x +ℤ x +ℤ x)) ≡ neg_ℤ (pos 8 *ℤ (x *ℤ x -ℤ pos 2 *ℤ (y *ℤ y)) +ℤ x *ℤ x) =
        equal (x ∷ y ∷ []) (times (less (four (var 1)) (three (var 0))) (plus (four (var 1)) (three (var 0)))) (minus (plus (times (number (pos 8)) (less (square (var 0)) (times (number (pos 2)) (square (var 1))))) (square (var 0)))) refl in
        let m = product_not_negative (pos 8) (x *ℤ x -ℤ pos 2 *ℤ (y *ℤ y)) (omega (arith, order)) n in
        omega (arith, order)

steep_weight : (z : Coefficient) → IsSteep (weight z)
steep_weight z = record {
  high = steep_side (weight z).x (weight z).y (x_not_negative z) (norm_not_negative z);
  low = flip (weight z).x (weight z).y (steep_side (weight z).x (neg_ℤ (weight z).y) (x_not_negative z) (subst (λ (t : ℤ). pos 0 ≤ℤ t) (turned (weight z).x (weight z).y) (norm_not_negative z)));
}
  where
    turned : (x y : ℤ) → x *ℤ x -ℤ pos 2 *ℤ (y *ℤ y) ≡ x *ℤ x -ℤ pos 2 *ℤ (neg_ℤ y *ℤ neg_ℤ y)
    turned x y = equal (x ∷ y ∷ []) (less (square (var 0)) (times (number (pos 2)) (square (var 1)))) (less (square (var 0)) (times (number (pos 2)) (square (minus (var 1))))) refl

    flip : (x y : ℤ) → (neg_ℤ y +ℤ neg_ℤ y +ℤ neg_ℤ y +ℤ neg_ℤ y) ≤ℤ (x +ℤ x +ℤ x) → neg_ℤ (y +ℤ y +ℤ y +ℤ y) ≤ℤ (x +ℤ x +ℤ x)
    flip x y h = omega (arith, order)

steep_sum : (vs : List Coefficient) → IsSteep (total_weight vs)
steep_sum [] = record { high = omega (arith, order); low = omega (arith, order) }
steep_sum (v ∷ vs) = both (weight v) (total_weight vs) (steep_weight v) (steep_sum vs)
  where
    both : (v w : Weight) → IsSteep v → IsSteep w → IsSteep (weight_sum v w)
    both v w h k = record { high = omega (arith, order, h.high, k.high); low = omega (arith, order, h.low, k.low) }

quotient_below : (w v : Weight) → IsBalanced w → pos 0 <ℤ w.x → pos 0 ≤ℤ v.x → IsSteep v → v.x ≤ℤ (pos 4 *ℤ (weight_product v w).x)
quotient_below w v b h k s =
    let p = product_not_negative (w.x +ℤ (w.y +ℤ w.y)) (v.x +ℤ v.x +ℤ v.x +ℤ (v.y +ℤ v.y +ℤ v.y +ℤ v.y)) (omega (arith, order, b.low)) (omega (arith, order, s.low)) in
    let q = product_not_negative (w.x -ℤ (w.y +ℤ w.y)) (v.x +ℤ v.x +ℤ v.x -ℤ (v.y +ℤ v.y +ℤ v.y +ℤ v.y)) (omega (arith, order, b.high)) (omega (arith, order, s.high)) in
    let m = product_not_negative (w.x -ℤ pos 1) v.x (omega (arith, order)) k in
    let x = var 0 in let y = var 1 in let u = var 2 in let t = var 3 in
    let three : Term → Term = λ z. plus (plus z z) z in
    let four : Term → Term = λ z. plus (three z) z in
    let e : (w.x +ℤ (w.y +ℤ w.y)) *ℤ (v.x +ℤ v.x +ℤ v.x +ℤ (v.y +ℤ v.y +ℤ v.y +ℤ v.y)) +ℤ (w.x -ℤ (w.y +ℤ w.y)) *ℤ (v.x +ℤ v.x +ℤ v.x -ℤ (v.y +ℤ v.y +ℤ v.y +ℤ v.y)) +ℤ pos 2 *ℤ ((w.x -ℤ pos 1) *ℤ v.x) ≡ pos 2 *ℤ (pos 4 *ℤ (weight_product v w).x -ℤ v.x) =
    equal (w.x ∷ w.y ∷ v.x ∷ v.y ∷ [])
    (plus (plus (times (plus x (plus y y)) (plus (three u) (four t))) (times (less x (plus y y)) (less (three u) (four t)))) (times (number (pos 2)) (times (less x (number (pos 1))) u)))
    (times (number (pos 2)) (less (times (number (pos 4)) ((mul_pair (pair 2) (pair 0)).x)) u)) refl in
    let f = doubled (pos 4 *ℤ (weight_product v w).x -ℤ v.x) in
    let g = doubled ((w.x -ℤ pos 1) *ℤ v.x) in
    omega (arith, order)

pub quotients_small : (vs us : List Coefficient) (g : Coefficient) → (total_weight vs).x <ℤ pos (2 ^ 60) → AreTimes vs us g → g ≢ zero_coefficient → IsBalanced (weight g) → (total_weight us).x <ℤ pos (2 ^ 62)
quotients_small vs us g small t some b =
    let e = times_weight vs us g t in
    below (weight g) (total_weight us) (total_weight vs) e small (quotient_below (weight g) (total_weight us) b (some_x (weight g) (weight_below g some) (weight_above g some)) (let r = real_sum us in r.positive) (steep_sum us))
  where
    some_x : (w : Weight) → w.y <ℤ w.x → neg_ℤ w.y <ℤ w.x → pos 0 <ℤ w.x
    some_x w h k = omega (arith, order)

    below : (w v u : Weight) → u ≡ weight_product v w → u.x <ℤ pos (2 ^ 60) → v.x ≤ℤ (pos 4 *ℤ (weight_product v w).x) → v.x <ℤ pos (2 ^ 62)
    below w v u e h l =
        let f = ap (λ (t : Weight). t.x) e in
        let g = fourfold (weight_product v w).x in
        omega (arith, order)

-- ---- the whole
pub over_greatest : (vs us : List Coefficient) (g : Coefficient) → IsNonzero vs → DividesAll g vs → ((u : Coefficient) → DividesAll u vs → Divides u g) → AreTimes vs us g → IsReducedFrom vs us
over_greatest vs us g some d k t =
    let n = divisor_nonzero vs g some d in
    record { scaled = scaled_times vs us g n t; reduced = quotients_reduced vs us g n k t.value }
