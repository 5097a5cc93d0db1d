-- The registers that the timing begins with: distinct qubits, and the one row 0.
use Rattle.std.proofs.Common.{◌≡◌, ℕ, zero, suc, ◌<◌, ◌^◌, ◌==◌, ◌||◌, Bool, false, take, [], ◌∷◌, List, length, replicate, slice_set, pos, ◌<ℤ◌, refl, sym, ap, subst, ◌∙◌, arith}
use Rattle.std.proofs.lemmas.List.{get_or-set_same, length-replicate}
use Rattle.std.proofs.lemmas.Nat.{pow_pos}
use Rattle.amplitude_register.specs.States.{RegisterState, Next, draft, next_value, zeros, with_row}
use Rattle.state_model.specs.Coefficient.{Coefficient, zero_coefficient, one_coefficient, Weight, weight, no_weight, weight_sum}
use Rattle.state_model.specs.CoefficientList.{at, HasDeltaDivisors, total_weight}
use Rattle.state_model.specs.Divisors.{Divides}
use Rattle.state_model.specs.Row.{is_listed}
use Rattle.state_model.specs.Amplitudes.{AreDistinct}
use Rattle.state_model.proofs.Booleans.{or_false_left, or_false_right}
use Rattle.state_model.proofs.Ring.{⊗_comm}
use Rattle.state_model.proofs.Euclid.{one-⊗}
use Rattle.state_model.proofs.Inequalities.{order}

pub twelve : AreDistinct (0 ∷ 1 ∷ 2 ∷ 3 ∷ 4 ∷ 5 ∷ 6 ∷ 7 ∷ 8 ∷ 9 ∷ 10 ∷ 11 ∷ [])
unfolding is_listed
twelve = (refl, (refl, (refl, (refl, (refl, (refl, (refl, (refl, (refl, (refl, (refl, (refl, tt))))))))))))

pub six_more : AreDistinct (12 ∷ 13 ∷ 14 ∷ 15 ∷ 16 ∷ 17 ∷ [])
unfolding is_listed
six_more = (refl, (refl, (refl, (refl, (refl, (refl, tt))))))

-- the first of distinct numbers are distinct
unlisted_take : (n q : ℕ) (qs : List ℕ) → is_listed qs q ≡ false → is_listed (take n qs) q ≡ false
unfolding is_listed
unlisted_take zero q [] h = refl
unlisted_take zero q (p ∷ qs) h = refl
unlisted_take (suc n) q [] h = refl
unlisted_take (suc n) q (p ∷ qs) h = ap (λ (b : Bool). b || is_listed (take n qs) q) (or_false_left (p == q) (is_listed qs q) h) ∙ unlisted_take n q qs (or_false_right (p == q) (is_listed qs q) h)

pub distinct_take : (n : ℕ) (qs : List ℕ) → AreDistinct qs → AreDistinct (take n qs)
distinct_take zero [] h = tt
distinct_take zero (q ∷ qs) h = tt
distinct_take (suc n) [] h = tt
distinct_take (suc n) (q ∷ qs) h = (unlisted_take n q qs (h.0), distinct_take n qs (h.1))

-- where a row is 1, all common divisors are units
pub one_divisors : (vs : List Coefficient) → at vs 0 ≡ one_coefficient → HasDeltaDivisors vs
one_divisors vs e u d = record { power = 0; factor = u; is_unit = subst (Divides u) e (d 0); value = sym (one-⊗ u) ∙ ⊗_comm one_coefficient u }

power_some : (n : ℕ) → 0 < 2 ^ n
power_some n = pow_pos n

-- the first row after it was written
pub first_row_one : (qs : List ℕ) (mid new : RegisterState) → mid.next ≡ draft (zeros qs) → new.next ≡ draft (with_row (next_value mid.next) 0 one_coefficient) → at (next_value new.next).list 0 ≡ one_coefficient
first_row_one qs mid new e f =
    ap (λ (t : Next). at (next_value t).list 0) f
    ∙ ap (λ (t : Next). at (with_row (next_value t) 0 one_coefficient).list 0) e
    ∙ get_or-set_same (replicate (2 ^ length qs) zero_coefficient) 0 one_coefficient zero_coefficient (let l = length-replicate {A = Coefficient} (2 ^ length qs) zero_coefficient in let p = power_some (length qs) in omega (arith, l, p))

-- ---- its weight
no_rows : (n : ℕ) → total_weight (replicate n zero_coefficient) ≡ no_weight
no_rows zero = refl
no_rows (suc n) = ap (weight_sum (weight zero_coefficient)) (no_rows n)

one_row : (n : ℕ) → (total_weight (slice_set (replicate n zero_coefficient) 0 one_coefficient)).x <ℤ pos (2 ^ 122)
one_row zero = omega (arith, order)
one_row (suc n) = subst (λ (w : Weight). (weight_sum (weight one_coefficient) w).x <ℤ pos (2 ^ 122)) (sym (no_rows n)) (omega (arith, order))

pub first_row_small : (qs : List ℕ) (mid new : RegisterState) → mid.next ≡ draft (zeros qs) → new.next ≡ draft (with_row (next_value mid.next) 0 one_coefficient) → (total_weight (next_value new.next).list).x <ℤ pos (2 ^ 122)
first_row_small qs mid new e f =
    subst (λ (w : Weight). w.x <ℤ pos (2 ^ 122))
    (sym (ap (λ (t : Next). total_weight (next_value t).list) f ∙ ap (λ (t : Next). total_weight (with_row (next_value t) 0 one_coefficient).list) e))
    (one_row (2 ^ length qs))
