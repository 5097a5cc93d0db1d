-- Loops that write each entry of a list.
use Rattle.std.proofs.Common.{◌≡◌, ◌≢◌, ℕ, ◌+◌, ◌^◌, ◌<◌, ◌≤◌, map, length, get_or, slice_set, List, refl, sym, subst, ◌∙◌, ap, arith, ⊎_elim, get_or-set_other, get_or-set_same}
use Rattle.std.proofs.lemmas.Bool.{cases_lt}
use Rattle.std.proofs.lemmas.List.{length-map}
use Rattle.state_model.specs.Coefficient.{Coefficient, ◌⊗◌}
use Rattle.state_model.specs.CoefficientList.{at, DividesAll}
use Rattle.state_model.specs.Divisors.{Divides}
use Rattle.omega_ring.specs.Range.{CoordinatesBelow}
use Rattle.omega_ring.specs.Views.{omega_value}
use Rattle.omega_ring.specs.declared.coefficients.Omega.{Omega}
use Rattle.state_model.proofs.Domain.{zero_coefficient-⊗}
use Rattle.amplitude_register.specs.Multiples.{AllWithin, AreTimes}
use Rattle.omega_ring.proofs.Entries.{zero_omega, at_map, at_past}

-- the entries below n are related to the old ones, and the others are the old ones
pub record IsPartly (R : Coefficient → Coefficient → Type 0) (xs ys : List Omega) (n : ℕ) : Type 0 where
  pub done : (k : ℕ) → k < n → R (omega_value (get_or xs k zero_omega)) (omega_value (get_or ys k zero_omega))
  pub rest : (k : ℕ) → n ≤ k → get_or ys k zero_omega ≡ get_or xs k zero_omega

pub partly_none : (R : Coefficient → Coefficient → Type 0) (xs : List Omega) → IsPartly R xs xs 0
partly_none R xs = record { done = λ k l. absurd (omega arith); rest = λ k l. refl }

pub partly_more : (R : Coefficient → Coefficient → Type 0) (xs ys : List Omega) (n : ℕ) (v : Omega) → n < length ys → IsPartly R xs ys n → R (omega_value (get_or xs n zero_omega)) (omega_value v) → IsPartly R xs (slice_set ys n v) (n + 1)
partly_more R xs ys n v l h r = record { done = done; rest = rest }
  where
    done : (k : ℕ) → k < n + 1 → R (omega_value (get_or xs k zero_omega)) (omega_value (get_or (slice_set ys n v) k zero_omega))
    done k m = ⊎_elim
        (λ (p : k < n). let ne : k ≢ n = omega arith in rw get_or-set_other (h.done k p))
        (λ (p : n ≤ k). let e : k ≡ n = omega arith in rw e (rw get_or-set_same r))
        (cases_lt k n)

    rest : (k : ℕ) → n + 1 ≤ k → get_or (slice_set ys n v) k zero_omega ≡ get_or xs k zero_omega
    rest k m = let ne : k ≢ n = omega arith in rw get_or-set_other (h.rest k (omega arith))

-- ---- one number for all entries: each old entry is the new one times u, or each new entry the old one times u
pub record IsOverUntil (u : Coefficient) (xs ys : List Omega) (n : ℕ) : Type 0 where
  pub partly : IsPartly (λ (x y : Coefficient). x ≡ y ⊗ u) xs ys n

pub record IsTimesUntil (u : Coefficient) (xs ys : List Omega) (n : ℕ) : Type 0 where
  pub partly : IsPartly (λ (x y : Coefficient). y ≡ x ⊗ u) xs ys n

pub over_none : (u : Coefficient) (xs : List Omega) → IsOverUntil u xs xs 0
over_none u xs = record { partly = partly_none _ xs }

pub times_none : (u : Coefficient) (xs : List Omega) → IsTimesUntil u xs xs 0
times_none u xs = record { partly = partly_none _ xs }

-- the entry at n is still the old one
old_entry : {R : Coefficient → Coefficient → Type 0} (xs ys : List Omega) (n : ℕ) → IsPartly R xs ys n → get_or ys n zero_omega ≡ get_or xs n zero_omega
old_entry xs ys n h = h.rest n (omega arith)

pub over_more : (u : Coefficient) (xs ys : List Omega) (n : ℕ) (v : Omega) → n < length ys → IsOverUntil u xs ys n → omega_value (get_or ys n zero_omega) ≡ omega_value v ⊗ u → IsOverUntil u xs (slice_set ys n v) (n + 1)
over_more u xs ys n v l h e = record { partly = partly_more _ xs ys n v l h.partly (ap omega_value (sym (old_entry xs ys n h.partly)) ∙ e) }

pub times_more : (u : Coefficient) (xs ys : List Omega) (n : ℕ) (v : Omega) → n < length ys → IsTimesUntil u xs ys n → omega_value v ≡ omega_value (get_or ys n zero_omega) ⊗ u → IsTimesUntil u xs (slice_set ys n v) (n + 1)
times_more u xs ys n v l h e = record { partly = partly_more _ xs ys n v l h.partly (e ∙ ap (λ (t : Omega). omega_value t ⊗ u) (old_entry xs ys n h.partly)) }

-- so what holds of all old entries holds of it
kept_entry : {R : Coefficient → Coefficient → Type 0} (P : Coefficient → Type 0) (xs ys : List Omega) (n : ℕ) → IsPartly R xs ys n → ((i : ℕ) → P (at (map omega_value xs) i)) → P (omega_value (get_or ys n zero_omega))
kept_entry P xs ys n h all = subst P (at_map xs n ∙ ap omega_value (sym (old_entry xs ys n h))) (all n)

pub over_within : (u : Coefficient) (xs ys : List Omega) (n : ℕ) → IsOverUntil u xs ys n → AllWithin (2 ^ 61) (map omega_value xs) → CoordinatesBelow (2 ^ 61) (omega_value (get_or ys n zero_omega))
over_within u xs ys n h all = kept_entry (CoordinatesBelow (2 ^ 61)) xs ys n h.partly all

pub over_within_half : (u : Coefficient) (xs ys : List Omega) (n : ℕ) → IsOverUntil u xs ys n → AllWithin (2 ^ 31) (map omega_value xs) → CoordinatesBelow (2 ^ 31) (omega_value (get_or ys n zero_omega))
over_within_half u xs ys n h all = kept_entry (CoordinatesBelow (2 ^ 31)) xs ys n h.partly all

pub times_within : (u : Coefficient) (xs ys : List Omega) (n : ℕ) → IsTimesUntil u xs ys n → AllWithin (2 ^ 61) (map omega_value xs) → CoordinatesBelow (2 ^ 61) (omega_value (get_or ys n zero_omega))
times_within u xs ys n h all = kept_entry (CoordinatesBelow (2 ^ 61)) xs ys n h.partly all

pub over_divides : (v u : Coefficient) (xs ys : List Omega) (n : ℕ) → IsOverUntil u xs ys n → DividesAll v (map omega_value xs) → Divides v (omega_value (get_or ys n zero_omega))
over_divides v u xs ys n h all = kept_entry (Divides v) xs ys n h.partly all

-- the whole list
whole : (xs ys : List Omega) (n : ℕ) (u : Coefficient) → length xs ≡ length ys → length xs ≤ n → ((k : ℕ) → k < n → omega_value (get_or xs k zero_omega) ≡ omega_value (get_or ys k zero_omega) ⊗ u) → AreTimes (map omega_value xs) (map omega_value ys) u
whole xs ys n u e l done = record { rows = length-map xs omega_value ∙ e ∙ sym (length-map ys omega_value); value = value }
  where
    value : (i : ℕ) → at (map omega_value xs) i ≡ (at (map omega_value ys) i) ⊗ u
    value i = ⊎_elim
        (λ p. at_map xs i ∙ done i p ∙ ap (λ (t : Coefficient). t ⊗ u) (sym (at_map ys i)))
        (λ p. at_past xs i (omega arith) ∙ sym (zero_coefficient-⊗ u) ∙ ap (λ (t : Coefficient). t ⊗ u) (sym (at_past ys i (omega arith))))
        (cases_lt i n)

pub over_whole : (xs ys : List Omega) (n : ℕ) (u : Coefficient) → IsOverUntil u xs ys n → length ys ≡ length xs → length xs ≤ n → AreTimes (map omega_value xs) (map omega_value ys) u
over_whole xs ys n u h e l = let p = h.partly in whole xs ys n u (sym e) l p.done

pub times_whole : (xs ys : List Omega) (n : ℕ) (u : Coefficient) → IsTimesUntil u xs ys n → length ys ≡ length xs → length xs ≤ n → AreTimes (map omega_value ys) (map omega_value xs) u
times_whole xs ys n u h e l = let p = h.partly in whole ys xs n u e (omega (arith, e)) p.done

-- what a loop over all entries takes
pub ruleset each_entry = (over_none, over_more, over_within, over_within_half, over_divides, over_whole, times_none, times_more, times_within, times_whole)
