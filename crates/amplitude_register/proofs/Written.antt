-- Lists whose last rows are what a gate makes of another list's.
use Rattle.std.proofs.Common.{◌≡◌, ◌≢◌, ℕ, ◌+◌, ◌*◌, ◌%◌, ◌<◌, ◌≤◌, ◌^◌, bit_or, bit_xor, Bool, true, false, List, length, map, slice_index_or, slice_set, refl, sym, ap, subst, ◌∙◌, arith, ⊎_elim, get_or-set_same, get_or-set_other}
use Rattle.std.proofs.lemmas.Bool.{cases_lt, cases_eq}
use Rattle.std.proofs.lemmas.List.{length-set}
use Rattle.state_model.specs.Coefficient.{Coefficient, zero_coefficient, ◌⊕◌, ◌⊖◌, ◌⊗◌, root}
use Rattle.state_model.specs.CoefficientList.{at}
use Rattle.state_model.specs.Row.{is_set, with_bit, turned}
use Rattle.state_model.specs.Gate.{Matrix, matrix, entry}
use Rattle.state_model.specs.declared.Gate.TheVariants.{H, RotZ}
use Rattle.state_model.specs.Amplitudes.{IsGateRow}
use Rattle.state_model.proofs.Gates.{entry_absent, with_own_bit}
use Rattle.state_model.proofs.GateLists.{sum_entry, difference_entry, turned_low, turned_high}
use Rattle.omega_ring.specs.Views.{omega_value}
use Rattle.omega_ring.specs.declared.coefficients.Omega.{Omega}
use Rattle.amplitude_register.specs.Multiples.{HasPlace}
use Rattle.omega_ring.proofs.Entries.{zero_omega, at_map, at_past}
use Rattle.amplitude_register.proofs.RowPairs.{value_at, power_small, pair_outside}

-- ---- the code's bits
pub low_test : (q x : ℕ) → q < 12 → bit_xor (bit_or x (1 * 2 ^ q % 2 ^ 64)) (1 * 2 ^ q % 2 ^ 64) ≡ with_bit q false x
unfolding with_bit turned
low_test q x l = ap (λ (t : ℕ). bit_xor (bit_or x t) t) (power_small q l)

pub turn_test : (q x : ℕ) → q < 12 → bit_xor x (1 * 2 ^ q % 2 ^ 64) ≡ turned q x
unfolding turned
turn_test q x l = ap (bit_xor x) (power_small q l)

-- ---- rows so far, from the last to the first
-- there are so many rows, and those from n on are as they must be
pub record IsWrittenFrom (R : ℕ → Coefficient → Type 0) (count : ℕ) (ys : List Omega) (n : ℕ) : Type 0 where
  pub rows : length ys ≡ count
  pub done : (r : ℕ) → n ≤ r → r < count → R r (value_at ys r)

pub written_none : (R : ℕ → Coefficient → Type 0) (count : ℕ) (ys : List Omega) → length ys ≡ count → IsWrittenFrom R count ys count
written_none R count ys e = record { rows = e; done = λ r l m. absurd (omega (arith, l, m)) }

pub written_more : (R : ℕ → Coefficient → Type 0) (count : ℕ) (ys : List Omega) (n k : ℕ) (z : Omega) → n ≤ k + 1 → k < length ys → R k (omega_value z) → IsWrittenFrom R count ys n → IsWrittenFrom R count (slice_set ys k z) k
written_more R count ys n k z next l is h = record {
  rows = length-set ys k z ∙ h.rows;
  done = λ r from below. ⊎_elim
      (λ (e : r ≡ k). subst (λ (t : ℕ). R t (value_at (slice_set ys k z) t)) (sym e) (subst (R k) (ap omega_value (sym (get_or-set_same ys k z zero_omega l))) is))
      (λ (e : r ≢ k). subst (R r) (ap omega_value (sym (get_or-set_other ys k r z zero_omega e))) (h.done r (past r from e) below))
      (cases_eq r k);
}
  where
    past : (r : ℕ) → k ≤ r → r ≢ k → n ≤ r
    past r from e = ⊎_elim (λ (m : r < n). absurd (e (omega (arith, m, next, from)))) (λ (m : n ≤ r). m) (cases_lt r n)

-- all rows, and none is past them
pub written_whole : (R : ℕ → Coefficient → Type 0) (count : ℕ) (ys : List Omega) (n : ℕ) → ((r : ℕ) → count ≤ r → R r zero_coefficient) → n ≤ 0 → IsWrittenFrom R count ys n → (r : ℕ) → R r (at (map omega_value ys) r)
written_whole R count ys n past l h r = ⊎_elim
    (λ (p : r < count). subst (R r) (sym (at_map ys r)) (h.done r (omega (arith, l)) p))
    (λ (p : count ≤ r). subst (R r) (sym (at_past ys r (let e = h.rows in omega (arith, e, p)))) (past r p))
    (cases_lt r count)

-- a gate gives zero where there is no row
absent : (m : Matrix) (b : Bool) → entry m b zero_coefficient zero_coefficient ≡ zero_coefficient
absent m b = entry_absent m b zero_coefficient zero_coefficient refl refl

pub gate_past : (m : Matrix) (j : ℕ) (xs : List Omega) → HasPlace j (length xs) → (r : ℕ) → length xs ≤ r → IsGateRow m j (map omega_value xs) r zero_coefficient
gate_past m j xs place r p = sym (
    ap (λ t. entry m (is_set j r) t (at (map omega_value xs) (with_bit j true r))) (at_past xs (with_bit j false r) (pair_outside j (length xs) r false place p))
    ∙ ap (λ t. entry m (is_set j r) zero_coefficient t) (at_past xs (with_bit j true r) (pair_outside j (length xs) r true place p)) ∙ absent m (is_set j r))

-- ---- one row
-- the row itself, by its bit
own : (j r : ℕ) (b : Bool) → is_set j r ≡ b → with_bit j b r ≡ r
own j r b e = ap (λ t. with_bit j t r) (sym e) ∙ with_own_bit j r

row_by : (m : Matrix) (j : ℕ) (xs : List Omega) (r : ℕ) (b : Bool) (z y u : Coefficient) → is_set j r ≡ b → y ≡ at (map omega_value xs) (with_bit j false r) → u ≡ at (map omega_value xs) (with_bit j true r) → z ≡ entry m b y u → IsGateRow m j (map omega_value xs) r z
row_by m j xs r b z y u e f g is = is ∙ ap (λ t. entry m t y u) (sym e) ∙ ap (λ t. entry m (is_set j r) t u) f ∙ ap (λ t. entry m (is_set j r) (at (map omega_value xs) (with_bit j false r)) t) g

pub read : (xs : List Omega) (k r : ℕ) (z : Omega) → k ≡ r → z ≡ slice_index_or xs k zero_omega → omega_value z ≡ at (map omega_value xs) r
read xs k r z e f = ap omega_value (f ∙ ap (λ t. slice_index_or xs t zero_omega) e) ∙ sym (at_map xs r)

pub mixed_high : (j : ℕ) (xs : List Omega) (r k : ℕ) (z y u : Omega) → is_set j r ≡ true → k ≡ with_bit j false r → y ≡ slice_index_or xs k zero_omega → u ≡ slice_index_or xs r zero_omega → omega_value z ≡ omega_value y ⊖ omega_value u → IsGateRow (matrix H) j (map omega_value xs) r (omega_value z)
mixed_high j xs r k z y u e low f g is = row_by (matrix H) j xs r true (omega_value z) (omega_value y) (omega_value u) e (read xs k (with_bit j false r) y low f) (read xs r (with_bit j true r) u (sym (own j r true e)) g) (is ∙ difference_entry (omega_value y) (omega_value u))

pub mixed_low : (j : ℕ) (xs : List Omega) (r k : ℕ) (z y u : Omega) → is_set j r ≡ false → k ≡ with_bit j true r → y ≡ slice_index_or xs r zero_omega → u ≡ slice_index_or xs k zero_omega → omega_value z ≡ omega_value y ⊕ omega_value u → IsGateRow (matrix H) j (map omega_value xs) r (omega_value z)
mixed_low j xs r k z y u e high f g is = row_by (matrix H) j xs r false (omega_value z) (omega_value y) (omega_value u) e (read xs r (with_bit j false r) y (sym (own j r false e)) f) (read xs k (with_bit j true r) u high g) (is ∙ sum_entry (omega_value y) (omega_value u))

pub turned_set : (i j : ℕ) (xs : List Omega) (r : ℕ) (z u : Omega) → is_set j r ≡ true → u ≡ slice_index_or xs r zero_omega → omega_value z ≡ omega_value u ⊗ root i → IsGateRow (matrix (RotZ i)) j (map omega_value xs) r (omega_value z)
turned_set i j xs r z u e f is = row_by (matrix (RotZ i)) j xs r true (omega_value z) (at (map omega_value xs) (with_bit j false r)) (omega_value u) e refl (read xs r (with_bit j true r) u (sym (own j r true e)) f) (is ∙ turned_high i (at (map omega_value xs) (with_bit j false r)) (omega_value u))

pub turned_clear : (i j : ℕ) (xs : List Omega) (r : ℕ) (y : Omega) → is_set j r ≡ false → y ≡ slice_index_or xs r zero_omega → IsGateRow (matrix (RotZ i)) j (map omega_value xs) r (omega_value y)
turned_clear i j xs r y e f = row_by (matrix (RotZ i)) j xs r false (omega_value y) (omega_value y) (at (map omega_value xs) (with_bit j true r)) e (read xs r (with_bit j false r) y (sym (own j r false e)) f) refl (turned_low i (omega_value y) (at (map omega_value xs) (with_bit j true r)))
