-- What the sums of all pairs of rows say of all sums and differences.
use Rattle.std.proofs.Common.{◌≡◌, ℕ, ◌/◌, ◌≤◌, ◌<◌, Bool, true, false, List, length, map, refl, sym, ap, subst, ◌∙◌, arith, ⊎_elim}
use Rattle.std.proofs.lemmas.Bool.{cases_lt}
use Rattle.state_model.specs.Coefficient.{Coefficient, zero_coefficient, ◌⊕◌, ◌⊖◌, ◌⊗◌}
use Rattle.state_model.specs.CoefficientList.{at}
use Rattle.state_model.specs.Divisors.{Divides, delta}
use Rattle.state_model.specs.Row.{is_set, with_bit, inserted}
use Rattle.state_model.specs.Gate.{matrix, entry}
use Rattle.state_model.specs.declared.Gate.TheVariants.{H}
use Rattle.state_model.proofs.Gates.{with_own_bit, with_bit_again}
use Rattle.state_model.proofs.GateLists.{sum_entry, difference_entry}
use Rattle.omega_ring.specs.Views.{omega_value}
use Rattle.omega_ring.specs.declared.coefficients.Omega.{Omega}
use Rattle.omega_ring.proofs.Entries.{at_map}
use Rattle.amplitude_register.specs.Multiples.{HasPlace}
use Rattle.amplitude_register.specs.Mixed.{divisor_value, mixed_at, DividesMixed, IsAllowed}
use Rattle.amplitude_register.specs.declared.divisor.Divisor.{Divisor}
use Rattle.amplitude_register.specs.declared.divisor.Divisor.TheVariants.{Two}
use Rattle.amplitude_register.specs.declared.mixing.Parities.{Parities}
use Rattle.amplitude_register.proofs.RowPairs.{value_at, low_of}
use Rattle.amplitude_register.proofs.MixedRows.{pair_of_row, pair_row, pair_inside, inserted_set}
use Rattle.amplitude_register.proofs.MixedWrites.{over_past}
use Rattle.amplitude_register.proofs.MixedDivisors.{HasEvens, HasMore, HaveParities, evens_difference, evens_divide, more_even, allowed_evens, allowed_most}

-- the sum of a pair's rows
abbrev pub pair_sum : ℕ → List Omega → ℕ → Coefficient
pair_sum j xs k = value_at xs (inserted j false k) ⊕ value_at xs (with_bit j true (inserted j false k))

-- as the code has it
pub sum_is : (j : ℕ) (xs : List Omega) (k low high : ℕ) (z : Coefficient) → low ≡ inserted j false k → high ≡ with_bit j true low → z ≡ value_at xs low ⊕ value_at xs high → z ≡ pair_sum j xs k
sum_is j xs k low high z e f is = is ∙ ap (λ (t : ℕ). value_at xs low ⊕ value_at xs t) f ∙ ap (λ (t : ℕ). value_at xs t ⊕ value_at xs (with_bit j true t)) e

-- ---- the rows of a pair
mixed_by : (j : ℕ) (xs : List Omega) (r : ℕ) (b : Bool) (low high : ℕ) → is_set j r ≡ b → with_bit j false r ≡ low → with_bit j true r ≡ high → mixed_at j (map omega_value xs) r ≡ entry (matrix H) b (value_at xs low) (value_at xs high)
mixed_by j xs r b low high e f g =
    ap (λ t. entry (matrix H) t (at (map omega_value xs) (with_bit j false r)) (at (map omega_value xs) (with_bit j true r))) e
    ∙ ap (λ t. entry (matrix H) b t (at (map omega_value xs) (with_bit j true r))) (at_map xs (with_bit j false r) ∙ ap (value_at xs) f)
    ∙ ap (λ t. entry (matrix H) b (value_at xs low) t) (at_map xs (with_bit j true r) ∙ ap (value_at xs) g)

high_row : (j r : ℕ) → with_bit j true r ≡ with_bit j true (inserted j false (pair_of_row j r))
high_row j r = sym (with_bit_again j true false r) ∙ ap (with_bit j true) (sym (pair_row j r))

-- what is so of a sum and of the difference with it is so of each row
of_row : (P : Coefficient → Type 0) (j : ℕ) (xs : List Omega) (r : ℕ) → P (pair_sum j xs (pair_of_row j r)) → P (value_at xs (inserted j false (pair_of_row j r)) ⊖ value_at xs (with_bit j true (inserted j false (pair_of_row j r)))) → P (mixed_at j (map omega_value xs) r)
of_row P j xs r sum difference = by (is_set j r) refl
  where
    by : (b : Bool) → is_set j r ≡ b → P (mixed_at j (map omega_value xs) r)
    by false e = subst P (sum_entry _ _ ∙ sym (mixed_by j xs r false _ _ e (sym (pair_row j r)) (high_row j r))) sum
    by true e = subst P (difference_entry _ _ ∙ sym (mixed_by j xs r true _ _ e (sym (pair_row j r)) (high_row j r))) difference

first_row : (j : ℕ) (xs : List Omega) (k : ℕ) → mixed_at j (map omega_value xs) (inserted j false k) ≡ pair_sum j xs k
first_row j xs k = mixed_by j xs (inserted j false k) false (inserted j false k) (with_bit j true (inserted j false k)) (inserted_set j false k) (low_of j (inserted j false k) (inserted_set j false k)) refl ∙ sym (sum_entry _ _)

-- ---- the divisor that the parities of all sums allow
pub allowed_divides : (d : Divisor) (p : Parities) (j : ℕ) (xs : List Omega) (n : ℕ) → HasPlace j (length xs) → length xs / 2 ≤ n → HaveParities p (pair_sum j xs) n → IsAllowed p d → DividesMixed (divisor_value d) j (map omega_value xs)
allowed_divides d p j xs n place whole h a r = ⊎_elim
    (λ (l : r < length xs).
    let e : HasEvens d (pair_sum j xs (pair_of_row j r)) = allowed_evens d p (pair_sum j xs) n h a (pair_of_row j r) (inside l) in
    of_row (Divides (divisor_value d)) j xs r (evens_divide d _ e) (evens_divide d _ (evens_difference d (value_at xs (inserted j false (pair_of_row j r))) (value_at xs (with_bit j true (inserted j false (pair_of_row j r)))) e)))
    (λ (l : length xs ≤ r). (zero_coefficient, over_past (divisor_value d) j xs place r l))
    (cases_lt r (length xs))
  where
    inside : r < length xs → pair_of_row j r < n
    inside l = let k = pair_inside j (length xs) r place l in omega (arith, k, whole)

pub allowed_no_more : (d : Divisor) (p : Parities) (j : ℕ) (xs : List Omega) (n : ℕ) → HaveParities p (pair_sum j xs) n → IsAllowed p d → DividesMixed (divisor_value d ⊗ delta) j (map omega_value xs) → d ≡ Two
allowed_no_more d p j xs n h a all = allowed_most d p (pair_sum j xs) n h a (λ k l. more_even d (pair_sum j xs k) (subst (Divides (divisor_value d ⊗ delta)) (first_row j xs k) (all (inserted j false k))))
