-- Sums of weights: of joined lists, of parts of a list, and how large they are.
use Rattle.std.proofs.Common.{◌≡◌, ℕ, suc, zero, ◌+◌, ◌-◌, ◌<◌, ◌≤◌, ◌^◌, ℤ, pos, ◌+ℤ◌, ◌-ℤ◌, ◌*ℤ◌, neg_ℤ, ◌≤ℤ◌, ◌<ℤ◌, List, [], ◌∷◌, ◌++◌, length, take, drop, refl, sym, ap, ◌∙◌, arith}
use Rattle.std.proofs.lemmas.Int.{ints}
use Rattle.std.proofs.lemmas.List.{take_more, take_all, get_or-drop, length-drop}
use Rattle.std.proofs.Math.ListN.{take-append-drop}
use Rattle.std.proofs.Math.Seq.{take-add}
use Rattle.state_model.specs.Coefficient.{Coefficient, Weight, weight, no_weight, weight_sum, zero_coefficient}
use Rattle.state_model.specs.CoefficientList.{at, total_weight}
use Rattle.state_model.proofs.Inequalities.{order, square_not_negative}
use Rattle.state_model.proofs.Polynomial.{Term, equal, var, plus, times, less, square}
use Rattle.state_model.proofs.Expressions.{same_weight}
use Rattle.omega_ring.specs.Range.{CoordinatesBelow, PartsBelow}
use Rattle.omega_ring.proofs.UnitSizes.{within}

-- ---- joined
sum_nothing : (v : Weight) → weight_sum no_weight v ≡ v
sum_nothing v = same_weight (weight_sum no_weight v) v (omega (arith, order)) (omega (arith, order))

pub nothing_sum : (v : Weight) → weight_sum v no_weight ≡ v
nothing_sum v = same_weight (weight_sum v no_weight) v (omega (arith, order)) (omega (arith, order))

sum_assoc : (u v w : Weight) → weight_sum u (weight_sum v w) ≡ weight_sum (weight_sum u v) w
sum_assoc u v w = same_weight (weight_sum u (weight_sum v w)) (weight_sum (weight_sum u v) w) (omega (arith, order)) (omega (arith, order))

pub total_append : (us vs : List Coefficient) → total_weight (us ++ vs) ≡ weight_sum (total_weight us) (total_weight vs)
total_append [] vs = sym (sum_nothing (total_weight vs))
total_append (u ∷ us) vs = ap (weight_sum (weight u)) (total_append us vs) ∙ sum_assoc (weight u) (total_weight us) (total_weight vs)

pub total_split : (n : ℕ) (vs : List Coefficient) → weight_sum (total_weight (take n vs)) (total_weight (drop n vs)) ≡ total_weight vs
total_split n vs = sym (total_append (take n vs) (drop n vs)) ∙ ap total_weight (take-append-drop n vs)

pub total_more : (n : ℕ) (vs : List Coefficient) → n < length vs → total_weight (take (n + 1) vs) ≡ weight_sum (total_weight (take n vs)) (weight (at vs n))
total_more n vs h = ap total_weight (take_more vs n zero_coefficient h) ∙ total_append (take n vs) (at vs n ∷ []) ∙ ap (weight_sum (total_weight (take n vs))) (nothing_sum (weight (at vs n)))

-- ---- sizes
-- x is at least the absolute value of y
pub record IsReal (w : Weight) : Type 0 where
  pub high : w.y ≤ℤ w.x
  pub low : neg_ℤ w.y ≤ℤ w.x

real_weight : (z : Coefficient) → IsReal (weight z)
real_weight z =
    let a = z.a in let b = z.b in let c = z.c in let d = z.d in
    let p = square_not_negative (a -ℤ b) in
    let q = square_not_negative (b -ℤ c) in
    let r = square_not_negative (c -ℤ d) in
    let s = square_not_negative (d +ℤ a) in
    let p' = square_not_negative (a +ℤ b) in
    let q' = square_not_negative (b +ℤ c) in
    let r' = square_not_negative (c +ℤ d) in
    let s' = square_not_negative (d -ℤ a) in
    let v0 = var 0 in let v1 = var 1 in let v2 = var 2 in let v3 = var 3 in
    let wx : Term = plus (plus (plus (square v0) (square v1)) (square v2)) (square v3) in
    let wy : Term = less (plus (plus (times v0 v1) (times v1 v2)) (times v2 v3)) (times v3 v0) in
    let e : (weight z).x -ℤ (weight z).y +ℤ ((weight z).x -ℤ (weight z).y) ≡ (a -ℤ b) *ℤ (a -ℤ b) +ℤ (b -ℤ c) *ℤ (b -ℤ c) +ℤ (c -ℤ d) *ℤ (c -ℤ d) +ℤ (d +ℤ a) *ℤ (d +ℤ a) =
    equal (a ∷ b ∷ c ∷ d ∷ []) (plus (less wx wy) (less wx wy)) (plus (plus (plus (square (less v0 v1)) (square (less v1 v2))) (square (less v2 v3))) (square (plus v3 v0))) refl in
    let f : (weight z).x +ℤ (weight z).y +ℤ ((weight z).x +ℤ (weight z).y) ≡ (a +ℤ b) *ℤ (a +ℤ b) +ℤ (b +ℤ c) *ℤ (b +ℤ c) +ℤ (c +ℤ d) *ℤ (c +ℤ d) +ℤ (d -ℤ a) *ℤ (d -ℤ a) =
    equal (a ∷ b ∷ c ∷ d ∷ []) (plus (plus wx wy) (plus wx wy)) (plus (plus (plus (square (plus v0 v1)) (square (plus v1 v2))) (square (plus v2 v3))) (square (less v3 v0))) refl in
    record {
      high = halved (weight z).x (weight z).y ((a -ℤ b) *ℤ (a -ℤ b)) ((b -ℤ c) *ℤ (b -ℤ c)) ((c -ℤ d) *ℤ (c -ℤ d)) ((d +ℤ a) *ℤ (d +ℤ a)) p q r s e;
      low = lowered (weight z).x (weight z).y ((a +ℤ b) *ℤ (a +ℤ b)) ((b +ℤ c) *ℤ (b +ℤ c)) ((c +ℤ d) *ℤ (c +ℤ d)) ((d -ℤ a) *ℤ (d -ℤ a)) p' q' r' s' f;
    }
  where
    halved : (x y p q r s : ℤ) → pos 0 ≤ℤ p → pos 0 ≤ℤ q → pos 0 ≤ℤ r → pos 0 ≤ℤ s → x -ℤ y +ℤ (x -ℤ y) ≡ p +ℤ q +ℤ r +ℤ s → y ≤ℤ x
    halved x y p q r s h k l m e = omega (arith, order)

    lowered : (x y p q r s : ℤ) → pos 0 ≤ℤ p → pos 0 ≤ℤ q → pos 0 ≤ℤ r → pos 0 ≤ℤ s → x +ℤ y +ℤ (x +ℤ y) ≡ p +ℤ q +ℤ r +ℤ s → neg_ℤ y ≤ℤ x
    lowered x y p q r s h k l m e = omega (arith, order)

pub real_total : (vs : List Coefficient) → IsReal (total_weight vs)
real_total [] = record { high = omega (arith, order); low = omega (arith, order) }
real_total (v ∷ vs) = both (weight v) (total_weight vs) (real_weight v) (real_total vs)
  where
    both : (v w : Weight) → IsReal v → IsReal w → IsReal (weight_sum v w)
    both v w h k = record { high = omega (arith, order, h.high, k.high); low = omega (arith, order, h.low, k.low) }

part_left : (v w t : Weight) → IsReal w → weight_sum v w ≡ t → v.x ≤ℤ t.x
part_left v w t h e = let f : v.x +ℤ w.x ≡ t.x = ap (λ (u : Weight). u.x) e in omega (arith, order, h.high, h.low)

part_right : (v w t : Weight) → IsReal v → weight_sum v w ≡ t → w.x ≤ℤ t.x
part_right v w t h e = let f : v.x +ℤ w.x ≡ t.x = ap (λ (u : Weight). u.x) e in omega (arith, order, h.high, h.low)

pub take_lighter : (n : ℕ) (vs : List Coefficient) → (total_weight (take n vs)).x ≤ℤ (total_weight vs).x
take_lighter n vs = part_left (total_weight (take n vs)) (total_weight (drop n vs)) (total_weight vs) (real_total (drop n vs)) (total_split n vs)

pub drop_lighter : (n : ℕ) (vs : List Coefficient) → (total_weight (drop n vs)).x ≤ℤ (total_weight vs).x
drop_lighter n vs = part_right (total_weight (take n vs)) (total_weight (drop n vs)) (total_weight vs) (real_total (take n vs)) (total_split n vs)

-- a weight whose x is below n
pub real_below : (n : ℕ) (w : Weight) → IsReal w → w.x <ℤ pos n → PartsBelow n w
real_below n w r h = record { x = omega (arith, ints, r.high, r.low); y = omega (arith, ints, r.high, r.low) }

pub entry_lighter : (vs : List Coefficient) (i : ℕ) → (weight (at vs i)).x ≤ℤ (total_weight vs).x
entry_lighter [] i = omega (arith, order)
entry_lighter (v ∷ vs) zero = part_left (weight v) (total_weight vs) (total_weight (v ∷ vs)) (real_total vs) refl
entry_lighter (v ∷ vs) (suc i) = along (weight (at vs i)).x (total_weight vs).x (total_weight (v ∷ vs)).x (entry_lighter vs i) (part_right (weight v) (total_weight vs) (total_weight (v ∷ vs)) (real_weight v) refl)
  where
    along : (x y z : ℤ) → x ≤ℤ y → y ≤ℤ z → x ≤ℤ z
    along x y z h k = omega (arith, order)

-- n more rows from row i on
pub total_chunk : (i n : ℕ) (vs : List Coefficient) → total_weight (take (i + n) vs) ≡ weight_sum (total_weight (take i vs)) (total_weight (take n (drop i vs)))
total_chunk i n vs = ap total_weight (take-add i n vs) ∙ total_append (take i vs) (take n (drop i vs))

below_along : (x y : ℤ) → x ≤ℤ y → y <ℤ pos (2 ^ 60) → x <ℤ pos (2 ^ 60)
below_along x y h k = omega (arith, order)

-- parts of a list whose total is small
pub take_small : (n : ℕ) (vs : List Coefficient) → (total_weight vs).x <ℤ pos (2 ^ 60) → PartsBelow (2 ^ 60) (total_weight (take n vs))
take_small n vs h = real_below (2 ^ 60) (total_weight (take n vs)) (real_total (take n vs)) (below_along (total_weight (take n vs)).x (total_weight vs).x (take_lighter n vs) h)

pub drop_small : (n : ℕ) (vs : List Coefficient) → (total_weight vs).x <ℤ pos (2 ^ 60) → (total_weight (drop n vs)).x <ℤ pos (2 ^ 60)
drop_small n vs h = below_along (total_weight (drop n vs)).x (total_weight vs).x (drop_lighter n vs) h

pub entry_small : (vs : List Coefficient) (i : ℕ) → (total_weight vs).x <ℤ pos (2 ^ 60) → (weight (at vs i)).x <ℤ pos (2 ^ 60)
entry_small vs i h = below_along (weight (at vs i)).x (total_weight vs).x (entry_lighter vs i) h

pub entry_parts : (vs : List Coefficient) (i : ℕ) → (total_weight vs).x <ℤ pos (2 ^ 60) → PartsBelow (2 ^ 60) (weight (at vs i))
entry_parts vs i h = real_below (2 ^ 60) (weight (at vs i)) (real_weight (at vs i)) (entry_small vs i h)

pub wider : (w : Weight) → PartsBelow (2 ^ 60) w → PartsBelow (2 ^ 122) w
wider w h = record { x = omega (arith, h.x); y = omega (arith, h.y) }

pub drop_parts : (n : ℕ) (vs : List Coefficient) → (total_weight vs).x <ℤ pos (2 ^ 60) → PartsBelow (2 ^ 60) (total_weight (drop n vs))
drop_parts n vs h = real_below (2 ^ 60) (total_weight (drop n vs)) (real_total (drop n vs)) (drop_small n vs h)

-- one row more of those from row s on
pub rest_more : (s i : ℕ) (vs : List Coefficient) → s ≤ i → i < length vs → weight_sum (total_weight (take (i - s) (drop s vs))) (weight (at vs i)) ≡ total_weight (take (i + 1 - s) (drop s vs))
rest_more s i vs h l =
    let e : s + (i - s) ≡ i = omega arith in
    let f : i - s + 1 ≡ i + 1 - s = omega arith in
    ap (λ (v : Coefficient). weight_sum (total_weight (take (i - s) (drop s vs))) (weight v)) (ap (at vs) (sym e) ∙ sym (get_or-drop s vs (i - s) zero_coefficient))
    ∙ sym (total_more (i - s) (drop s vs) (omega (arith, length-drop s vs)))
    ∙ ap (λ (n : ℕ). total_weight (take n (drop s vs))) f

pub rest_whole : (s i : ℕ) (vs : List Coefficient) → length vs ≤ i → total_weight (take (i - s) (drop s vs)) ≡ total_weight (drop s vs)
rest_whole s i vs h = ap total_weight (take_all (i - s) (drop s vs) (omega (arith, length-drop s vs)))

pub entry_within : (vs : List Coefficient) (i : ℕ) → (total_weight vs).x <ℤ pos (2 ^ 60) → CoordinatesBelow (2 ^ 61) (at vs i)
entry_within vs i h = within (at vs i) (more (weight (at vs i)).x (entry_small vs i h))
  where
    more : (x : ℤ) → x <ℤ pos (2 ^ 60) → x <ℤ pos (2 ^ 64)
    more x h = omega (arith, order)
