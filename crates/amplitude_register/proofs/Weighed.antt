-- Sums of weights over the first rows of a register stay small.
use Prim.Native.Nat.{zero, suc}
use Rattle.std.proofs.Common.{◌≡◌, ℕ, ◌+◌, ◌*◌, ◌<◌, ◌≤◌, ◌^◌, Bool, true, false, cond, not, ℤ, pos, ◌+ℤ◌, neg_ℤ, ◌≤ℤ◌, ◌<ℤ◌, unsigned_abs, List, length, refl, sym, ap, subst, ◌∙◌, arith, ⊎_elim}
use Rattle.std.specs.Bool.{beq}
use Rattle.std.proofs.lemmas.Bool.{cases_lt}
use Rattle.std.proofs.lemmas.Int.{ints}
use Rattle.state_model.specs.Coefficient.{Coefficient, zero_coefficient, Weight, weight, no_weight, weight_sum}
use Rattle.state_model.specs.CoefficientList.{at, total_weight}
use Rattle.state_model.specs.Row.{is_set}
use Rattle.state_model.proofs.Inequalities.{order}
use Rattle.state_model.proofs.KeptLists.{counted}
use Rattle.state_model.proofs.RegisterSums.{weight_to, weight_to-total, weight_sum-none, weight_sum_comm}
use Rattle.state_model.proofs.Units.{x_not_negative}
use Rattle.omega_ring.specs.Range.{PartsBelow, CoordinatesBelow}
use Rattle.omega_ring.proofs.UnitSizes.{coordinates_below}
use Rattle.amplitude_register.specs.RowWeights.{row_weight, bit_weight, bit_weight_to}
use Rattle.amplitude_register.proofs.Sums.{IsReal, real_add, real_weight, entry_below}

-- the sum of the weights of the first n rows
abbrev whole_to : List Coefficient → ℕ → Weight
whole_to list n = weight_to (λ i. weight (at list i)) n

whole_real : (list : List Coefficient) (n : ℕ) → IsReal (whole_to list n)
unfolding weight_to
whole_real list zero = record { positive = omega (arith, order); above = omega (arith, order); below = omega (arith, order) }
whole_real list (suc n) = real_add (whole_to list n) (weight (at list n)) (whole_real list n) (real_weight (at list n))

none_real : IsReal no_weight
none_real = record { positive = omega (arith, order); above = omega (arith, order); below = omega (arith, order) }

-- the weight of a row, or none
kept_real : (b : Bool) (w : Weight) → IsReal w → IsReal (cond b w no_weight)
kept_real true w h = h
kept_real false w h = none_real

left_real : (b : Bool) (w : Weight) → IsReal w → IsReal (cond b no_weight w)
left_real true w h = none_real
left_real false w h = h

row_real : (j : ℕ) (bit : Bool) (list : List Coefficient) (n : ℕ) → IsReal (row_weight j bit list n)
row_real j true list n = kept_real (is_set j n) (weight (at list n)) (real_weight (at list n))
row_real j false list n = left_real (is_set j n) (weight (at list n)) (real_weight (at list n))

bit_real : (j : ℕ) (bit : Bool) (list : List Coefficient) (n : ℕ) → IsReal (bit_weight_to j bit list n)
bit_real j bit list zero = none_real
bit_real j bit list (suc n) = real_add (bit_weight_to j bit list n) (row_weight j bit list n) (bit_real j bit list n) (row_real j bit list n)

bit_more : (j : ℕ) (bit : Bool) (list : List Coefficient) (n : ℕ) → bit_weight_to j bit list (n + 1) ≡ weight_sum (bit_weight_to j bit list n) (row_weight j bit list n)
bit_more j bit list n = ap (bit_weight_to j bit list) (one n)
  where
    one : (n : ℕ) → n + 1 ≡ suc n
    one n = omega arith

add_x : (v w : Weight) → pos 0 ≤ℤ w.x → v.x ≤ℤ (weight_sum v w).x
add_x v w h = omega (arith, order)

whole_step : (list : List Coefficient) (m : ℕ) → (whole_to list m).x ≤ℤ (whole_to list (suc m)).x
unfolding weight_to
whole_step list m = add_x (whole_to list m) (weight (at list m)) (x_not_negative (at list m))

whole_grows : (list : List Coefficient) (n m : ℕ) → n ≤ m → (whole_to list n).x ≤ℤ (whole_to list m).x
whole_grows list n zero h = let e : n ≡ 0 = omega arith in subst (λ (k : ℕ). (whole_to list k).x ≤ℤ (whole_to list 0).x) (sym e) (self (whole_to list 0).x)
  where
    self : (x : ℤ) → x ≤ℤ x
    self x = omega (arith, order)
whole_grows list n (suc m) h = ⊎_elim
    (λ (p : n < suc m). chain (whole_to list n).x (whole_to list m).x (whole_to list (suc m)).x (whole_grows list n m (omega arith)) (whole_step list m))
    (λ (p : suc m ≤ n). let e : n ≡ suc m = omega arith in subst (λ (k : ℕ). (whole_to list k).x ≤ℤ (whole_to list (suc m)).x) (sym e) (self (whole_to list (suc m)).x))
    (cases_lt n (suc m))
  where
    self : (x : ℤ) → x ≤ℤ x
    self x = omega (arith, order)

    chain : (x y z : ℤ) → x ≤ℤ y → y ≤ℤ z → x ≤ℤ z
    chain x y z h k = omega (arith, order)

row_below : (j : ℕ) (bit : Bool) (list : List Coefficient) (n : ℕ) → (row_weight j bit list n).x ≤ℤ (weight (at list n)).x
row_below j true list n = kept (is_set j n) (at list n)
  where
    kept : (b : Bool) (z : Coefficient) → (cond b (weight z) no_weight).x ≤ℤ (weight z).x
    kept true z = self (weight z).x
      where
        self : (x : ℤ) → x ≤ℤ x
        self x = omega (arith, order)
    kept false z = x_not_negative z
row_below j false list n = left (is_set j n) (at list n)
  where
    left : (b : Bool) (z : Coefficient) → (cond b no_weight (weight z)).x ≤ℤ (weight z).x
    left true z = x_not_negative z
    left false z = self (weight z).x
      where
        self : (x : ℤ) → x ≤ℤ x
        self x = omega (arith, order)

bit_below : (j : ℕ) (bit : Bool) (list : List Coefficient) (n : ℕ) → (bit_weight_to j bit list n).x ≤ℤ (whole_to list n).x
unfolding weight_to
bit_below j bit list zero = omega (arith, order)
bit_below j bit list (suc n) = both _ _ _ _ (bit_below j bit list n) (row_below j bit list n)
  where
    both : (x y p q : ℤ) → x ≤ℤ y → p ≤ℤ q → (x +ℤ p) ≤ℤ (y +ℤ q)
    both x y p q h k = omega (arith, order)

small_real : (w : Weight) → IsReal w → w.x <ℤ pos (2 ^ 60) → PartsBelow (2 ^ 60) w
small_real w r h = record { x = abs_x w.x r.positive h; y = abs_y w.x w.y r.above r.below h }
  where
    abs_x : (x : ℤ) → pos 0 ≤ℤ x → x <ℤ pos (2 ^ 60) → unsigned_abs x < 2 ^ 60
    abs_x x h k = omega (arith, ints)

    abs_y : (x y : ℤ) → y ≤ℤ x → neg_ℤ y ≤ℤ x → x <ℤ pos (2 ^ 60) → unsigned_abs y < 2 ^ 60
    abs_y x y h k l = omega (arith, ints)

below : (x y : ℤ) → x ≤ℤ y → y <ℤ pos (2 ^ 60) → x <ℤ pos (2 ^ 60)
below x y h k = omega (arith, order)

whole_x : (list : List Coefficient) (n : ℕ) → n ≤ length list → (total_weight list).x <ℤ pos (2 ^ 60) → (whole_to list n).x <ℤ pos (2 ^ 60)
whole_x list n l h = below _ _ (whole_grows list n (length list) l) (subst (λ (w : Weight). w.x <ℤ pos (2 ^ 60)) (sym (weight_to-total list)) h)

pub whole_small : (list : List Coefficient) (w : Weight) → (total_weight list).x <ℤ pos (2 ^ 60) → w ≡ total_weight list → PartsBelow (2 ^ 60) w
whole_small list w h e = subst (PartsBelow (2 ^ 60)) (sym e) (small_real (total_weight list) (subst IsReal (weight_to-total list) (whole_real list (length list))) h)

pub bit_small : (j : ℕ) (bit : Bool) (list : List Coefficient) (n : ℕ) (w : Weight) → n ≤ length list → (total_weight list).x <ℤ pos (2 ^ 60) → w ≡ bit_weight_to j bit list n → PartsBelow (2 ^ 60) w
bit_small j bit list n w l h e = subst (PartsBelow (2 ^ 60)) (sym e) (small_real (bit_weight_to j bit list n) (bit_real j bit list n) (below _ _ (bit_below j bit list n) (whole_x list n l h)))

pub entry_small : (list : List Coefficient) (i : ℕ) (z : Coefficient) → (total_weight list).x <ℤ pos (2 ^ 60) → z ≡ at list i → (weight z).x <ℤ pos (2 ^ 60)
entry_small list i z h e = subst (λ (t : Coefficient). (weight t).x <ℤ pos (2 ^ 60)) (sym e) (below _ _ (entry_below list i) h)

pub weight_small : (z : Coefficient) (w : Weight) → (weight z).x <ℤ pos (2 ^ 60) → w ≡ weight z → PartsBelow (2 ^ 60) w
weight_small z w h e = subst (PartsBelow (2 ^ 60)) (sym e) (small_real (weight z) (real_weight z) h)

-- the coordinates of a small coefficient
pub coordinates_small : (z : Coefficient) → (weight z).x <ℤ pos (2 ^ 60) → CoordinatesBelow (2 ^ 30) z
coordinates_small z h = coordinates_below (2 ^ 30) z (square (weight z).x h)
  where
    square : (x : ℤ) → x <ℤ pos (2 ^ 60) → x <ℤ pos (2 ^ 30 * 2 ^ 30)
    square x h = omega (arith, order)

-- ---- one more row
-- what the code's comparison of bits tells
agreed : (x y b : Bool) → beq x b ≡ true → x ≡ y → y ≡ b
agreed true y true e f = sym f
agreed true y false e f = sym f ∙ sym e
agreed false y true e f = sym f ∙ e
agreed false y false e f = sym f

differed : (x y b : Bool) → beq x b ≡ false → x ≡ y → y ≡ not b
differed true y true e f = sym f ∙ e
differed true y false e f = sym f
differed false y true e f = sym f
differed false y false e f = sym f ∙ sym e

row_agrees : (j : ℕ) (bit : Bool) (list : List Coefficient) (n : ℕ) → is_set j n ≡ bit → row_weight j bit list n ≡ weight (at list n)
row_agrees j true list n e = ap (λ c. cond c (weight (at list n)) no_weight) e
row_agrees j false list n e = ap (λ c. cond c no_weight (weight (at list n))) e

row_differs : (j : ℕ) (bit : Bool) (list : List Coefficient) (n : ℕ) → is_set j n ≡ not bit → row_weight j bit list n ≡ no_weight
row_differs j true list n e = ap (λ c. cond c (weight (at list n)) no_weight) e
row_differs j false list n e = ap (λ c. cond c no_weight (weight (at list n))) e

pub bit_counts : (j : ℕ) (bit x : Bool) (list : List Coefficient) (n : ℕ) (z : Coefficient) (v w : Weight) → beq x bit ≡ true → x ≡ is_set j n → v ≡ bit_weight_to j bit list n → z ≡ at list n → w ≡ weight_sum v (weight z) → w ≡ bit_weight_to j bit list (n + 1)
bit_counts j bit x list n z v w b i h e f =
    f ∙ ap (λ (t : Weight). weight_sum t (weight z)) h ∙ ap (weight_sum (bit_weight_to j bit list n)) (ap weight e ∙ sym (row_agrees j bit list n (agreed x (is_set j n) bit b i))) ∙ sym (bit_more j bit list n)

pub bit_skips : (j : ℕ) (bit x : Bool) (list : List Coefficient) (n : ℕ) (v : Weight) → beq x bit ≡ false → x ≡ is_set j n → v ≡ bit_weight_to j bit list n → v ≡ bit_weight_to j bit list (n + 1)
bit_skips j bit x list n v b i h =
    h ∙ sym (bit_more j bit list n ∙ ap (weight_sum (bit_weight_to j bit list n)) (row_differs j bit list n (differed x (is_set j n) bit b i)) ∙ weight_sum_comm (bit_weight_to j bit list n) no_weight ∙ weight_sum-none (bit_weight_to j bit list n))

-- ---- the rows whose bit is 1
counted_weight : (b : Bool) (z : Coefficient) → weight (cond b z zero_coefficient) ≡ cond b (weight z) no_weight
counted_weight true z = refl
counted_weight false z = refl

ones_to : (j : ℕ) (list : List Coefficient) (n : ℕ) → weight_to (λ i. weight (counted j list i)) n ≡ bit_weight_to j true list n
unfolding weight_to
ones_to j list zero = refl
ones_to j list (suc n) = ap (λ (t : Weight). weight_sum t (weight (counted j list n))) (ones_to j list n) ∙ ap (weight_sum (bit_weight_to j true list n)) (counted_weight (is_set j n) (at list n))

pub ones_weight : (j : ℕ) (list : List Coefficient) → weight_to (λ i. weight (counted j list i)) (length list) ≡ bit_weight j true list
ones_weight j list = ones_to j list (length list)
