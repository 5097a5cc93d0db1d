-- The weight of the rows that are kept, summed up row by row.
use Prim.Native.Nat.{zero, suc}
use Rattle.std.proofs.Common.{◌≡◌, ℕ, ◌+◌, ◌*◌, ◌<◌, ◌≤◌, ◌^◌, Bool, ℤ, pos, ◌+ℤ◌, neg_ℤ, ◌≤ℤ◌, ◌<ℤ◌, unsigned_abs, List, length, refl, sym, ap, subst, ◌∙◌, arith}
use Rattle.std.proofs.lemmas.Int.{ints}
use Rattle.state_model.specs.Coefficient.{Coefficient, Weight, weight, no_weight, weight_sum}
use Rattle.state_model.specs.CoefficientList.{at, total_weight}
use Rattle.state_model.specs.Row.{inserted}
use Rattle.state_model.specs.Amplitudes.{IsKeptList}
use Rattle.state_model.proofs.Inequalities.{order}
use Rattle.state_model.proofs.RegisterSums.{weight_to, weight_to-total}
use Rattle.omega_ring.specs.Range.{PartsBelow}
use Rattle.amplitude_register.proofs.Sums.{IsReal, real_add, real_weight}
use Rattle.amplitude_register.proofs.Weighed.{entry_small}

-- the sum of the weights of the first n rows with the bit
abbrev pub kept_to : ℕ → Bool → List Coefficient → ℕ → Weight
kept_to place bit list n = weight_to (λ i. weight (at list (inserted place bit i))) n

pub kept_none : (place : ℕ) (bit : Bool) (list : List Coefficient) → no_weight ≡ kept_to place bit list 0
unfolding weight_to
kept_none place bit list = refl

pub kept_more : (place : ℕ) (bit : Bool) (list : List Coefficient) (n : ℕ) (z : Coefficient) (v w : Weight) → v ≡ kept_to place bit list n → z ≡ at list (inserted place bit n) → w ≡ weight_sum v (weight z) → w ≡ kept_to place bit list (n + 1)
unfolding weight_to
kept_more place bit list n z v w h e f = f ∙ ap (λ (t : Weight). weight_sum t (weight z)) h ∙ ap (λ (t : Coefficient). weight_sum (kept_to place bit list n) (weight t)) e ∙ ap (kept_to place bit list) (next n)
  where
    next : (n : ℕ) → suc n ≡ n + 1
    next n = omega arith

kept_real : (place : ℕ) (bit : Bool) (list : List Coefficient) (n : ℕ) → IsReal (kept_to place bit list n)
unfolding weight_to
kept_real place bit list zero = record { positive = omega (arith, order); above = omega (arith, order); below = omega (arith, order) }
kept_real place bit list (suc n) = let z = at list (inserted place bit n) in real_add (kept_to place bit list n) (weight z) (kept_real place bit list n) (real_weight z)

kept_below : (place : ℕ) (bit : Bool) (list : List Coefficient) (n : ℕ) → (total_weight list).x <ℤ pos (2 ^ 60) → (kept_to place bit list n).x ≤ℤ pos (n * 2 ^ 60)
unfolding weight_to
kept_below place bit list zero h = omega (arith, order)
kept_below place bit list (suc n) h = both (kept_to place bit list n).x (weight (at list (inserted place bit n))).x n (kept_below place bit list n h) (entry_small list (inserted place bit n) _ h refl)
  where
    both : (x y : ℤ) (n : ℕ) → x ≤ℤ pos (n * 2 ^ 60) → y <ℤ pos (2 ^ 60) → (x +ℤ y) ≤ℤ pos (suc n * 2 ^ 60)
    both x y n h k = omega (arith, ints)

-- such sums fit, of as many rows as there may be
pub kept_small : (place : ℕ) (bit : Bool) (list : List Coefficient) (n : ℕ) (w : Weight) → n ≤ 2 ^ 12 → (total_weight list).x <ℤ pos (2 ^ 60) → w ≡ kept_to place bit list n → PartsBelow (2 ^ 122) w
kept_small place bit list n w few h e = subst (PartsBelow (2 ^ 122)) (sym e) (small (kept_to place bit list n) (kept_real place bit list n) (bound (kept_to place bit list n).x n few (kept_below place bit list n h)))
  where
    bound : (x : ℤ) (n : ℕ) → n ≤ 2 ^ 12 → x ≤ℤ pos (n * 2 ^ 60) → x <ℤ pos (2 ^ 122)
    bound x n few h = omega (arith, ints)

    abs_x : (x : ℤ) → pos 0 ≤ℤ x → x <ℤ pos (2 ^ 122) → unsigned_abs x < 2 ^ 122
    abs_x x h k = omega (arith, ints)

    abs_y : (x y : ℤ) → y ≤ℤ x → neg_ℤ y ≤ℤ x → x <ℤ pos (2 ^ 122) → unsigned_abs y < 2 ^ 122
    abs_y x y h k l = omega (arith, ints)

    small : (w : Weight) → IsReal w → w.x <ℤ pos (2 ^ 122) → PartsBelow (2 ^ 122) w
    small w r h = record { x = abs_x w.x r.positive h; y = abs_y w.x w.y r.above r.below h }

same_to : (f h : ℕ → Coefficient) (n : ℕ) → ((i : ℕ) → i < n → f i ≡ h i) → weight_to (λ i. weight (f i)) n ≡ weight_to (λ i. weight (h i)) n
unfolding weight_to
same_to f h zero same = refl
same_to f h (suc n) same = ap (λ (t : Weight). weight_sum t (weight (f n))) (same_to f h n (λ i l. same i (omega arith))) ∙ ap (λ (t : Coefficient). weight_sum (weight_to (λ i. weight (h i)) n) (weight t)) (same n (omega arith))

-- the weight of all that is kept
pub kept_total : (place : ℕ) (bit : Bool) (old new : List Coefficient) (n : ℕ) (w : Weight) → IsKeptList place bit old new → n ≡ length new → w ≡ kept_to place bit old n → w ≡ total_weight new
kept_total place bit old new n w h e f =
    f ∙ ap (kept_to place bit old) e ∙ same_to (λ i. at old (inserted place bit i)) (at new) (length new) (λ i l. sym (h.list i l)) ∙ weight_to-total new
