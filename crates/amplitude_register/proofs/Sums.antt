-- The sum of the weights of the first entries of a list.
use Rattle.std.proofs.Common.{◌≡◌, ℕ, zero, suc, ◌+◌, ◌<◌, ◌≤◌, ◌^◌, ℤ, pos, ◌+ℤ◌, neg_ℤ, ◌≤ℤ◌, ◌<ℤ◌, unsigned_abs, FitsSigned, map, length, get_or, List, [], ◌∷◌, refl, sym, ap, subst, ◌∙◌, arith, add-one}
use Rattle.std.proofs.lemmas.Int.{ints, fits_signed_from_abs}
use mir.Syntax.{w128}
use Rattle.omega_ring.proofs.Stored.{long, back_of}
use Rattle.state_model.specs.Coefficient.{Coefficient, Weight, weight, weight_sum}
use Rattle.state_model.specs.CoefficientList.{total_weight, at}
use Rattle.omega_ring.specs.Views.{omega_value}
use Rattle.omega_ring.specs.Range.{CoordinatesBelow, PartsBelow}
use Rattle.omega_ring.specs.declared.coefficients.Omega.{Omega}
use Rattle.state_model.proofs.Expressions.{same_weight}
use Rattle.state_model.proofs.Inequalities.{order}
use Rattle.state_model.proofs.Units.{x_not_negative, y_at_most}
use Rattle.omega_ring.proofs.Entries.{zero_omega, at_map}
use Rattle.omega_ring.proofs.UnitSizes.{coordinates_below}

abbrev no_weight : Weight
no_weight = record { x = pos 0; y = pos 0 }

abbrev pub weight_until : List Omega → ℕ → Weight
weight_until xs zero = no_weight
weight_until [] (suc n) = no_weight
weight_until (z ∷ xs) (suc n) = weight_sum (weight (omega_value z)) (weight_until xs n)

regroup : (u v w : Weight) → weight_sum u (weight_sum v w) ≡ weight_sum (weight_sum u v) w
regroup u v w = same_weight _ _ (omega (arith, order)) (omega (arith, order))

swap_zero : (u : Weight) → weight_sum u no_weight ≡ weight_sum no_weight u
swap_zero u = same_weight _ _ (omega (arith, order)) (omega (arith, order))

until_suc : (xs : List Omega) (n : ℕ) → n < length xs → weight_until xs (suc n) ≡ weight_sum (weight_until xs n) (weight (omega_value (get_or xs n zero_omega)))
until_suc [] n h = absurd (omega arith)
until_suc (z ∷ xs) zero h = swap_zero (weight (omega_value z))
until_suc (z ∷ xs) (suc n) h = ap (weight_sum (weight (omega_value z))) (until_suc xs n (omega arith)) ∙ regroup (weight (omega_value z)) (weight_until xs n) (weight (omega_value (get_or xs n zero_omega)))

pub until_more : (xs : List Omega) (n : ℕ) → n < length xs → weight_until xs (n + 1) ≡ weight_sum (weight_until xs n) (weight (omega_value (get_or xs n zero_omega)))
until_more xs n h = rw add-one (until_suc xs n h)

pub until_whole : (xs : List Omega) (n : ℕ) → length xs ≤ n → weight_until xs n ≡ total_weight (map omega_value xs)
until_whole [] zero h = refl
until_whole [] (suc n) h = refl
until_whole (z ∷ xs) zero h = absurd (omega arith)
until_whole (z ∷ xs) (suc n) h = ap (weight_sum (weight (omega_value z))) (until_whole xs n (omega arith))

-- the x of a sum of weights is not negative and at least the absolute value of its y
pub record IsReal (w : Weight) : Type 0 where
  pub positive : pos 0 ≤ℤ w.x
  pub above : w.y ≤ℤ w.x
  pub below : neg_ℤ w.y ≤ℤ w.x

real_zero : IsReal no_weight
real_zero = record { positive = omega (arith, order); above = omega (arith, order); below = omega (arith, order) }

pub real_add : (v w : Weight) → IsReal v → IsReal w → IsReal (weight_sum v w)
real_add v w h k = record { positive = omega (arith, order, h.positive, k.positive); above = omega (arith, order, h.above, k.above); below = omega (arith, order, h.below, k.below) }

pub real_weight : (z : Coefficient) → IsReal (weight z)
real_weight z = let y = y_at_most z in record { positive = x_not_negative z; above = y.0; below = y.1 }

pub real_sum : (vs : List Coefficient) → IsReal (total_weight vs)
real_sum [] = real_zero
real_sum (v ∷ vs) = real_add (weight v) (total_weight vs) (real_weight v) (real_sum vs)

pub real_until : (xs : List Omega) (n : ℕ) → IsReal (weight_until xs n)
real_until xs zero = real_zero
real_until [] (suc n) = real_zero
real_until (z ∷ xs) (suc n) = real_add (weight (omega_value z)) (weight_until xs n) (real_weight (omega_value z)) (real_until xs n)

add_below : (u v w : Weight) → v.x ≤ℤ w.x → (weight_sum u v).x ≤ℤ (weight_sum u w).x
add_below u v w h = omega (arith, order)

pub until_below : (xs : List Omega) (n : ℕ) → (weight_until xs n).x ≤ℤ (total_weight (map omega_value xs)).x
until_below xs zero = let h = real_sum (map omega_value xs) in h.positive
until_below [] (suc n) = omega (arith, order)
until_below (z ∷ xs) (suc n) = add_below (weight (omega_value z)) (weight_until xs n) (total_weight (map omega_value xs)) (until_below xs n)

-- an entry's weight is at most the sum's
pub entry_below : (vs : List Coefficient) (i : ℕ) → (weight (at vs i)).x ≤ℤ (total_weight vs).x
entry_below [] i = omega (arith, order)
entry_below (v ∷ vs) zero = let h = real_sum vs in first (weight v) (total_weight vs) h.positive
  where
    first : (u w : Weight) → pos 0 ≤ℤ w.x → u.x ≤ℤ (weight_sum u w).x
    first u w h = omega (arith, order)
entry_below (v ∷ vs) (suc i) = let h = real_weight v in later (weight v) (total_weight vs) (weight (at vs i)) h.positive (entry_below vs i)
  where
    later : (u w t : Weight) → pos 0 ≤ℤ u.x → t.x ≤ℤ w.x → t.x ≤ℤ (weight_sum u w).x
    later u w t h k = omega (arith, order)

-- ---- sizes
less_along : (x y : ℤ) → x ≤ℤ y → y <ℤ pos (2 ^ 122) → x <ℤ pos (2 ^ 122)
less_along x y k h = omega (arith, order)

-- the coordinates of entries whose squares sum up to less than 2^122
pub within_sum : (vs : List Coefficient) → (total_weight vs).x <ℤ pos (2 ^ 122) → (i : ℕ) → CoordinatesBelow (2 ^ 61) (at vs i)
within_sum vs h i = coordinates_below (2 ^ 61) (at vs i) (less_along (weight (at vs i)).x (total_weight vs).x (entry_below vs i) h)

pub real_small : (w : Weight) → IsReal w → w.x <ℤ pos (2 ^ 122) → PartsBelow (2 ^ 122) w
real_small w h s = at w.x w.y h.positive h.above h.below s
  where
    at : (x y : ℤ) → pos 0 ≤ℤ x → y ≤ℤ x → neg_ℤ y ≤ℤ x → x <ℤ pos (2 ^ 122) → PartsBelow (2 ^ 122) record { x = x; y = y }
    at x y p a b s = record { x = omega (arith, ints); y = omega (arith, ints) }

until_small : (xs : List Omega) (n : ℕ) → (total_weight (map omega_value xs)).x <ℤ pos (2 ^ 122) → PartsBelow (2 ^ 122) (weight_until xs n)
until_small xs n h = real_small (weight_until xs n) (real_until xs n) (less_along (weight_until xs n).x (total_weight (map omega_value xs)).x (until_below xs n) h)

abbrev entry_weight : List Omega → ℕ → Weight
entry_weight xs n = weight (omega_value (get_or xs n zero_omega))

entry_small : (xs : List Omega) (n : ℕ) → (total_weight (map omega_value xs)).x <ℤ pos (2 ^ 122) → PartsBelow (2 ^ 122) (entry_weight xs n)
entry_small xs n h = real_small (entry_weight xs n) (real_weight (omega_value (get_or xs n zero_omega)))
    (less_along (entry_weight xs n).x (total_weight (map omega_value xs)).x (subst (λ (t : Coefficient). (weight t).x ≤ℤ (total_weight (map omega_value xs)).x) (at_map xs n) (entry_below (map omega_value xs) n)) h)

-- the sum of two stored numbers
plain_sum : (x y n m : ℤ) → x ≡ n → y ≡ m → unsigned_abs n < 2 ^ 122 → unsigned_abs m < 2 ^ 122 → x +ℤ long y ≡ n +ℤ m
plain_sum x y n m e f p q = rw (e, f) (rw (back_of m (omega arith)) refl)

pub more_fits_x : (xs : List Omega) (n : ℕ) (x : ℤ) (w : Weight) → n < length xs → (total_weight (map omega_value xs)).x <ℤ pos (2 ^ 122) → x ≡ (weight_until xs n).x → w ≡ entry_weight xs n → FitsSigned w128 (x +ℤ long w.x)
more_fits_x xs n x w l h e f =
    let t = until_small xs n h in let k = entry_small xs n h in let u = until_small xs (n + 1) h in
    subst (FitsSigned w128) (sym (plain_sum x w.x (weight_until xs n).x (entry_weight xs n).x e (ap (λ (v : Weight). v.x) f) t.x k.x ∙ sym (ap (λ (v : Weight). v.x) (until_more xs n l)))) (fits_signed_from_abs w128 (weight_until xs (n + 1)).x (omega (arith, u.x)))

pub more_fits_y : (xs : List Omega) (n : ℕ) (y : ℤ) (w : Weight) → n < length xs → (total_weight (map omega_value xs)).x <ℤ pos (2 ^ 122) → y ≡ (weight_until xs n).y → w ≡ entry_weight xs n → FitsSigned w128 (y +ℤ long w.y)
more_fits_y xs n y w l h e f =
    let t = until_small xs n h in let k = entry_small xs n h in let u = until_small xs (n + 1) h in
    subst (FitsSigned w128) (sym (plain_sum y w.y (weight_until xs n).y (entry_weight xs n).y e (ap (λ (v : Weight). v.y) f) t.y k.y ∙ sym (ap (λ (v : Weight). v.y) (until_more xs n l)))) (fits_signed_from_abs w128 (weight_until xs (n + 1)).y (omega (arith, u.y)))

pub record IsStored (x y : ℤ) (v : Weight) : Type 0 where
  pub x_is : x ≡ v.x
  pub y_is : y ≡ v.y

pub stored_more : (xs : List Omega) (n : ℕ) (x y : ℤ) (w : Weight) → n < length xs → (total_weight (map omega_value xs)).x <ℤ pos (2 ^ 122) → x ≡ (weight_until xs n).x → y ≡ (weight_until xs n).y → w ≡ entry_weight xs n → IsStored (long (x +ℤ long w.x)) (long (y +ℤ long w.y)) (weight_until xs (n + 1))
stored_more xs n x y w l h e f g =
    let t = until_small xs n h in let k = entry_small xs n h in let u = until_small xs (n + 1) h in
    record {
      x_is = ap long (plain_sum x w.x (weight_until xs n).x (entry_weight xs n).x e (ap (λ (v : Weight). v.x) g) t.x k.x ∙ sym (ap (λ (v : Weight). v.x) (until_more xs n l))) ∙ back_of (weight_until xs (n + 1)).x (omega (arith, u.x));
      y_is = ap long (plain_sum y w.y (weight_until xs n).y (entry_weight xs n).y f (ap (λ (v : Weight). v.y) g) t.y k.y ∙ sym (ap (λ (v : Weight). v.y) (until_more xs n l))) ∙ back_of (weight_until xs (n + 1)).y (omega (arith, u.y));
    }

pub stored_until : (xs : List Omega) (n : ℕ) (x y : ℤ) → length xs ≤ n → (total_weight (map omega_value xs)).x <ℤ pos (2 ^ 122) → x ≡ (weight_until xs n).x → y ≡ (weight_until xs n).y → record { x = x; y = y } ≡ total_weight (map omega_value xs)
stored_until xs n x y l h e f = same_weight record { x = x; y = y } (weight_until xs n) e f ∙ until_whole xs n l

pub sum_within : (vs : List Coefficient) (w : Weight) → w ≡ total_weight vs → w.x <ℤ pos (2 ^ 122) → (i : ℕ) → CoordinatesBelow (2 ^ 61) (at vs i)
sum_within vs w e h = within_sum vs (subst (λ (t : Weight). t.x <ℤ pos (2 ^ 122)) e h)

pub real_of : (vs : List Coefficient) (w : Weight) → w ≡ total_weight vs → IsReal w
real_of vs w e = subst IsReal (sym e) (real_sum vs)

pub small_of : (vs : List Coefficient) (w : Weight) → w ≡ total_weight vs → w.x <ℤ pos (2 ^ 122) → PartsBelow (2 ^ 122) w
small_of vs w e h = real_small w (real_of vs w e) h
