-- Rows after a gate of two qubits, and lists of which it has changed the rows so far.
use Rattle.std.proofs.Common.{◌≡◌, ◌≢◌, ℕ, ◌+◌, ◌<◌, ◌≤◌, ◌&&◌, Bool, true, false, not, cond, List, length, map, slice_index_or, slice_set, refl, sym, ap, subst, ◌∙◌, arith, ⊎_elim, get_or-set_same, get_or-set_other}
use Rattle.std.proofs.lemmas.Bool.{cases_lt}
use Rattle.std.proofs.lemmas.List.{length-set}
use Rattle.state_model.specs.Coefficient.{Coefficient, zero_coefficient, negated}
use Rattle.state_model.specs.CoefficientList.{at}
use Rattle.state_model.specs.Row.{is_set, with_bit, turned}
use Rattle.state_model.specs.Amplitudes.{IsTwoGateList, IsTwoGateRow}
use Rattle.state_model.specs.declared.Two.TheVariants.{Cnot, Cphase}
use Rattle.state_model.proofs.Booleans.{clash, both_true}
use Rattle.state_model.proofs.RowLaws.{is_set-with_bit_same, is_set-with_bit_other}
use Rattle.state_model.proofs.Gates.{with_bit_again, with_own_bit}
use Rattle.state_model.proofs.TwoGateLists.{turned_is, turned_at, source_row, source_at}
use Rattle.omega_ring.specs.Views.{omega_value}
use Rattle.omega_ring.specs.Range.{CoordinatesBelow}
use Rattle.omega_ring.specs.declared.coefficients.Omega.{Omega}
use Rattle.amplitude_register.specs.Multiples.{HasPlace}
use Rattle.omega_ring.proofs.Entries.{zero_omega, at_map, at_past}
use Rattle.amplitude_register.proofs.Written.{read}
use Rattle.amplitude_register.proofs.RowPairs.{value_at, pair_inside, pair_outside, low_of, low_of_high, high_other}

-- ---- the row that a row comes from, and rows past the end
pub source_inside : (i j rows r : ℕ) → HasPlace j rows → r < rows → source_row i j r < rows
source_inside i j rows r place p = by (is_set i r) refl
  where
    by : (b : Bool) → is_set i r ≡ b → source_row i j r < rows
    by false e = let f = source_at i j r false e in omega (arith, f, p)
    by true e = let f = source_at i j r true e ∙ turned_is j r in let k = pair_inside j rows r (not (is_set j r)) place p in omega (arith, f, k)

source_outside : (i j rows r : ℕ) → HasPlace j rows → rows ≤ r → rows ≤ source_row i j r
source_outside i j rows r place p = by (is_set i r) refl
  where
    by : (b : Bool) → is_set i r ≡ b → rows ≤ source_row i j r
    by false e = let f = source_at i j r false e in omega (arith, f, p)
    by true e = let f = source_at i j r true e ∙ turned_is j r in let k = pair_outside j rows r (not (is_set j r)) place p in omega (arith, f, k)

pub exchanged_past : (i j : ℕ) (xs : List Omega) → HasPlace j (length xs) → (r : ℕ) → length xs ≤ r → IsTwoGateRow Cnot i j (map omega_value xs) r zero_coefficient
exchanged_past i j xs place r p = sym (at_past xs (source_row i j r) (source_outside i j (length xs) r place p))

abbrev pub phased : ℕ → ℕ → ℕ → Coefficient → Coefficient
phased i j r z = cond (is_set i r) (cond (is_set j r) (negated z) z) z

phased_off : (i j r : ℕ) (z : Coefficient) → (is_set i r && is_set j r) ≡ false → phased i j r z ≡ z
phased_off i j r z e = by (is_set i r) (is_set j r) e
  where
    by : (b c : Bool) → (b && c) ≡ false → cond b (cond c (negated z) z) z ≡ z
    by true true e = absurd (clash e)
    by true false e = refl
    by false c e = refl

phased_on : (i j r : ℕ) (z : Coefficient) → (is_set i r && is_set j r) ≡ true → phased i j r z ≡ negated z
phased_on i j r z e = by (is_set i r) (is_set j r) e
  where
    by : (b c : Bool) → (b && c) ≡ true → cond b (cond c (negated z) z) z ≡ negated z
    by true true e = refl
    by true false e = absurd (clash (sym e))
    by false c e = absurd (clash (sym e))

pub phased_past : (i j : ℕ) (xs : List Omega) (r : ℕ) → length xs ≤ r → IsTwoGateRow Cphase i j (map omega_value xs) r zero_coefficient
phased_past i j xs r p = absent (is_set i r) (is_set j r) ∙ ap (phased i j r) (sym (at_past xs r p))
  where
    absent : (b c : Bool) → zero_coefficient ≡ cond b (cond c (negated zero_coefficient) zero_coefficient) zero_coefficient
    absent true true = refl
    absent true false = refl
    absent false c = refl

-- ---- one row, in one pass
pub source_entry : (i j : ℕ) (xs : List Omega) (r k : ℕ) (z : Omega) → k ≡ source_row i j r → z ≡ slice_index_or xs k zero_omega → IsTwoGateRow Cnot i j (map omega_value xs) r (omega_value z)
source_entry i j xs r k z e f = read xs k (source_row i j r) z e f

pub phased_set : (i j : ℕ) (xs : List Omega) (r : ℕ) (z u : Omega) → (is_set i r && is_set j r) ≡ true → u ≡ slice_index_or xs r zero_omega → omega_value z ≡ negated (omega_value u) → IsTwoGateRow Cphase i j (map omega_value xs) r (omega_value z)
phased_set i j xs r z u e f is = is ∙ ap negated (read xs r r u refl f) ∙ sym (phased_on i j r (at (map omega_value xs) r) e)

pub phased_clear : (i j : ℕ) (xs : List Omega) (r : ℕ) (u : Omega) → (is_set i r && is_set j r) ≡ false → u ≡ slice_index_or xs r zero_omega → IsTwoGateRow Cphase i j (map omega_value xs) r (omega_value u)
phased_clear i j xs r u e f = read xs r r u refl f ∙ sym (phased_off i j r (at (map omega_value xs) r) e)

-- ---- the pairs whose low row is below n are exchanged where the control's bit is 1, and the others are the old ones
pub record IsExchangedUntil (i j : ℕ) (xs ys : List Omega) (n : ℕ) : Type 0 where
  pub rows : length ys ≡ length xs
  pub done : (r : ℕ) → with_bit j false r < n → value_at ys r ≡ value_at xs (source_row i j r)
  pub rest : (r : ℕ) → n ≤ with_bit j false r → slice_index_or ys r zero_omega ≡ slice_index_or xs r zero_omega

pub exchanged_none : (i j : ℕ) (xs : List Omega) → IsExchangedUntil i j xs xs 0
exchanged_none i j xs = record { rows = refl; done = λ r l. absurd (omega arith); rest = λ r l. refl }

-- a row is passed over
pub exchanged_skip : (i j : ℕ) (xs ys : List Omega) (n : ℕ) → i ≢ j → (is_set i n && not (is_set j n)) ≡ false → IsExchangedUntil i j xs ys n → IsExchangedUntil i j xs ys (n + 1)
exchanged_skip i j xs ys n apart e h = record {
  rows = h.rows;
  done = λ r l. ⊎_elim
      (λ (p : with_bit j false r < n). h.done r p)
      (λ (p : n ≤ with_bit j false r). here r (omega arith) (is_set i n) (is_set j n) refl refl e)
      (cases_lt (with_bit j false r) n);
  rest = λ r l. h.rest r (omega arith);
}
  where
    here : (r : ℕ) → with_bit j false r ≡ n → (b c : Bool) → is_set i n ≡ b → is_set j n ≡ c → (b && not c) ≡ false → value_at ys r ≡ value_at xs (source_row i j r)
    here r f b true g k l = absurd (clash (sym k ∙ ap (is_set j) (sym f) ∙ is_set-with_bit_same j false r))
    here r f true false g k l = absurd (clash l)
    here r f false false g k l =
        ap omega_value (h.rest r (omega (arith, f)))
        ∙ ap (value_at xs) (sym (source_at i j r false (sym (is_set-with_bit_other i j false r apart) ∙ ap (is_set i) f ∙ g)))

-- a pair is exchanged
pub exchanged_pair : (i j : ℕ) (xs ys : List Omega) (n h : ℕ) (p q : Omega) → HasPlace j (length xs) → n < length ys → i ≢ j → (is_set i n && not (is_set j n)) ≡ true → h ≡ with_bit j true n
    → p ≡ slice_index_or ys h zero_omega → q ≡ slice_index_or ys n zero_omega → IsExchangedUntil i j xs ys n → IsExchangedUntil i j xs (slice_set (slice_set ys n p) h q) (n + 1)
exchanged_pair i j xs ys n h p q place l apart e is f g old = record {
  rows = length-set (slice_set ys n p) h q ∙ length-set ys n p ∙ old.rows;
  done = λ r m. ⊎_elim
      (λ (k : with_bit j false r < n). ap omega_value (other r (λ t. absurd (omega (arith, k, ap (with_bit j false) t ∙ low_of j n clear))) (λ t. absurd (omega (arith, k, ap (with_bit j false) t ∙ from_high)))) ∙ old.done r k)
      (λ (k : n ≤ with_bit j false r). here r (omega arith) (is_set j r) refl)
      (cases_lt (with_bit j false r) n);
  rest = λ r m. other r (λ t. absurd (omega (arith, m, ap (with_bit j false) t ∙ low_of j n clear))) (λ t. absurd (omega (arith, m, ap (with_bit j false) t ∙ from_high))) ∙ old.rest r (omega arith);
}
  where
    set : is_set i n ≡ true
    set = (both_true (is_set i n) (not (is_set j n)) e).0

    clear : is_set j n ≡ false
    clear = cleared (is_set j n) (both_true (is_set i n) (not (is_set j n)) e).1
      where
        cleared : (b : Bool) → not b ≡ true → b ≡ false
        cleared false t = refl
        cleared true t = absurd (clash (sym t))

    from_high : with_bit j false h ≡ n
    from_high = ap (with_bit j false) is ∙ low_of_high j n clear

    low_row : n ≢ h
    low_row t = high_other j n clear (sym (t ∙ is))

    top : h < length ys
    top = let k = pair_inside j (length xs) n true place (let r = old.rows in omega (arith, r)) in let r = old.rows in omega (arith, k, r, is)

    top_set : h < length (slice_set ys n p)
    top_set = let s = length-set ys n p in omega (arith, s, top)

    other : (r : ℕ) → r ≢ n → r ≢ h → slice_index_or (slice_set (slice_set ys n p) h q) r zero_omega ≡ slice_index_or ys r zero_omega
    other r s t = get_or-set_other (slice_set ys n p) h r q zero_omega t ∙ get_or-set_other ys n r p zero_omega s

    low_is : value_at (slice_set (slice_set ys n p) h q) n ≡ value_at xs h
    low_is = ap omega_value (get_or-set_other (slice_set ys n p) h n q zero_omega low_row ∙ get_or-set_same ys n p zero_omega l ∙ f ∙ old.rest h (omega (arith, from_high)))

    high_is : value_at (slice_set (slice_set ys n p) h q) h ≡ value_at xs n
    high_is = ap omega_value (get_or-set_same (slice_set ys n p) h q zero_omega top_set ∙ g ∙ old.rest n (omega (arith, low_of j n clear)))

    here : (r : ℕ) → with_bit j false r ≡ n → (b : Bool) → is_set j r ≡ b → value_at (slice_set (slice_set ys n p) h q) r ≡ value_at xs (source_row i j r)
    here r t b u =
        let control : is_set i r ≡ true = sym (is_set-with_bit_other i j false r apart) ∙ ap (is_set i) t ∙ set in
        at_bit b u ∙ ap (value_at xs) (sym (source_at i j r true control))
      where
        at_bit : (b : Bool) → is_set j r ≡ b → value_at (slice_set (slice_set ys n p) h q) r ≡ value_at xs (turned j r)
        at_bit true u =
            ap (value_at (slice_set (slice_set ys n p) h q)) (sym (with_own_bit j r) ∙ ap (λ c. with_bit j c r) u ∙ sym (with_bit_again j true false r) ∙ ap (with_bit j true) t ∙ sym is)
            ∙ high_is ∙ ap (value_at xs) (sym (turned_at j r true u ∙ t))
        at_bit false u =
            ap (value_at (slice_set (slice_set ys n p) h q)) (sym (with_own_bit j r) ∙ ap (λ c. with_bit j c r) u ∙ t)
            ∙ low_is ∙ ap (value_at xs) (sym (turned_at j r false u ∙ sym (with_bit_again j true false r) ∙ ap (with_bit j true) t ∙ sym is))

-- the whole list
pub exchanged_whole : (i j : ℕ) (xs ys : List Omega) (n : ℕ) → HasPlace j (length xs) → length xs ≤ n → IsExchangedUntil i j xs ys n → IsTwoGateList Cnot i j (map omega_value xs) (map omega_value ys)
exchanged_whole i j xs ys n place l h r = ⊎_elim
    (λ (p : r < length xs). at_map ys r ∙ h.done r (let k = pair_inside j (length xs) r false place p in omega arith) ∙ sym (at_map xs (source_row i j r)))
    (λ (p : length xs ≤ r). at_past ys r (let e = h.rows in omega (arith, e)) ∙ exchanged_past i j xs place r p)
    (cases_lt r (length xs))

-- ---- the rows below n are negated where both bits are 1, and the others are the old ones
pub record IsNegatedUntil (i j : ℕ) (xs ys : List Omega) (n : ℕ) : Type 0 where
  pub rows : length ys ≡ length xs
  pub done : (r : ℕ) → r < n → value_at ys r ≡ phased i j r (value_at xs r)
  pub rest : (r : ℕ) → n ≤ r → slice_index_or ys r zero_omega ≡ slice_index_or xs r zero_omega

pub negated_none : (i j : ℕ) (xs : List Omega) → IsNegatedUntil i j xs xs 0
negated_none i j xs = record { rows = refl; done = λ r l. absurd (omega arith); rest = λ r l. refl }

-- a row is passed over
pub negated_skip : (i j : ℕ) (xs ys : List Omega) (n : ℕ) → (is_set i n && is_set j n) ≡ false → IsNegatedUntil i j xs ys n → IsNegatedUntil i j xs ys (n + 1)
negated_skip i j xs ys n e h = record {
  rows = h.rows;
  done = λ r l. ⊎_elim
      (λ (p : r < n). h.done r p)
      (λ (p : n ≤ r). let f : r ≡ n = omega arith in ap omega_value (h.rest r p) ∙ sym (phased_off i j r (value_at xs r) (ap (λ t. is_set i t && is_set j t) f ∙ e)))
      (cases_lt r n);
  rest = λ r l. h.rest r (omega arith);
}

-- a row is negated
pub negated_more : (i j : ℕ) (xs ys : List Omega) (n : ℕ) (z : Omega) → n < length ys → (is_set i n && is_set j n) ≡ true → omega_value z ≡ negated (value_at ys n) → IsNegatedUntil i j xs ys n → IsNegatedUntil i j xs (slice_set ys n z) (n + 1)
negated_more i j xs ys n z l e is h = record {
  rows = length-set ys n z ∙ h.rows;
  done = λ r m. ⊎_elim
      (λ (p : r < n). ap omega_value (get_or-set_other ys n r z zero_omega (λ t. absurd (omega (arith, t)))) ∙ h.done r p)
      (λ (p : n ≤ r). let f : r ≡ n = omega arith in
      ap (value_at (slice_set ys n z)) f ∙ ap omega_value (get_or-set_same ys n z zero_omega l) ∙ is ∙ ap (λ t. negated (omega_value t)) (h.rest n (omega arith)) ∙ ap (λ t. negated (value_at xs t)) (sym f)
      ∙ sym (phased_on i j r (value_at xs r) (ap (λ t. is_set i t && is_set j t) f ∙ e)))
      (cases_lt r n);
  rest = λ r m. get_or-set_other ys n r z zero_omega (λ t. absurd (omega (arith, t))) ∙ h.rest r (omega arith);
}

-- the whole list
pub negated_whole : (i j : ℕ) (xs ys : List Omega) (n : ℕ) → length xs ≤ n → IsNegatedUntil i j xs ys n → IsTwoGateList Cphase i j (map omega_value xs) (map omega_value ys)
negated_whole i j xs ys n l h r = ⊎_elim
    (λ (p : r < length xs). at_map ys r ∙ h.done r (omega arith) ∙ ap (phased i j r) (sym (at_map xs r)))
    (λ (p : length xs ≤ r). at_past ys r (let e = h.rows in omega (arith, e)) ∙ phased_past i j xs r p)
    (cases_lt r (length xs))

-- the coordinates of a row that is still the old one
pub row_range : (i j k : ℕ) (xs ys : List Omega) (n : ℕ) → ((r : ℕ) → CoordinatesBelow k (at (map omega_value xs) r)) → IsNegatedUntil i j xs ys n → CoordinatesBelow k (value_at ys n)
row_range i j k xs ys n all h = subst (CoordinatesBelow k) (at_map xs n ∙ ap omega_value (sym (h.rest n (omega arith)))) (all n)
