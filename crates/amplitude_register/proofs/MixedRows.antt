-- Pairs of rows that differ in the bit at a place: the pair's number is that of both rows without the bit.
use Prim.Native.Nat.{zero, suc}
use Rattle.std.proofs.Common.{◌≡◌, ◌≢◌, ℕ, ◌+◌, ◌*◌, ◌/◌, ◌%◌, ◌<◌, ◌≤◌, ◌^◌, Bool, true, false, cond, List, length, map, slice_index_or, slice_set, refl, sym, ap, subst, ◌∙◌, arith, ⊎_elim, get_or-set_same, get_or-set_other}
use Rattle.std.proofs.Math.Nat.{pow-succ', div-div-eq-div-mul}
use native.Mathlib.Nat.{pow-le-pow_right}
use Rattle.std.proofs.lemmas.Bool.{cases_lt, cases_eq}
use Rattle.std.proofs.lemmas.List.{length-set}
use Rattle.state_model.specs.Coefficient.{Coefficient, zero_coefficient}
use Rattle.state_model.specs.CoefficientList.{at}
use Rattle.state_model.specs.Row.{is_set, with_bit, inserted}
use Rattle.state_model.proofs.Gates.{with_bit_again, with_own_bit}
use Rattle.state_model.proofs.RegisterLists.{row_split}
use Rattle.state_model.proofs.Registers.{low_with_bit, high_with_bit, lowest, higher}
use Rattle.omega_ring.specs.Views.{omega_value}
use Rattle.omega_ring.specs.declared.coefficients.Omega.{Omega}
use Rattle.omega_ring.proofs.Entries.{zero_omega, at_map, at_past}
use Rattle.amplitude_register.specs.Multiples.{HasPlace}
use Rattle.amplitude_register.proofs.RowPairs.{value_at, low_of, power_small, place_low}

-- ---- the code's first row of a pair
inserted_low : (j r : ℕ) → inserted j false r ≡ r + r / 2 ^ j * 2 ^ j
unfolding inserted
inserted_low zero r = omega arith
inserted_low (suc j) r =
    let e = pow-succ' 2 j in
    ap (λ n. r % 2 + 2 * n) (inserted_low j (r / 2)) ∙ ap (λ n. r % 2 + 2 * (r / 2 + n * 2 ^ j)) (div-div-eq-div-mul r 2 (2 ^ j) ∙ ap (λ n. r / n) (sym e))
    ∙ sum r (r / 2 ^ suc j) (2 ^ j) (2 ^ suc j) e
  where
    sum : (r q m n : ℕ) → n ≡ 2 * m → r % 2 + 2 * (r / 2 + q * m) ≡ r + q * n
    sum r q m n e = rw e (omega arith)

-- ---- rows with and without the bit
bit_low : (r : ℕ) → cond (is_set 0 r) 1 0 ≡ r % 2
bit_low r = let e = row_split r in by (is_set 0 r) e
  where
    by : (b : Bool) → cond b 1 0 + 2 * (r / 2) ≡ r → cond b 1 0 ≡ r % 2
    by true e = omega (arith, e)
    by false e = omega (arith, e)

pub inserted_set : (j : ℕ) (b : Bool) (r : ℕ) → is_set j (inserted j b r) ≡ b
unfolding inserted
inserted_set zero b r = lowest b r
inserted_set (suc j) b r = ap (λ n. is_set (suc j) (n + 2 * inserted j b (r / 2))) (sym (bit_low r)) ∙ higher (is_set 0 r) (inserted j b (r / 2)) j ∙ inserted_set j b (r / 2)

pub inserted_below : (j n r : ℕ) → j < n → r + r + 1 < 2 ^ n → inserted j false r < 2 ^ n
unfolding inserted
inserted_below j zero r l h = absurd (omega arith)
inserted_below zero (suc n) r l h = omega (arith, h)
inserted_below (suc j) (suc zero) r l h = absurd (omega arith)
inserted_below (suc j) (suc (suc n)) r l h =
    let e = pow-succ' 2 (suc n) in let f = pow-succ' 2 n in
    below (inserted j false (r / 2)) (2 ^ suc n) (2 ^ suc (suc n)) (inserted_below j (suc n) (r / 2) (omega arith) (half (2 ^ n) (2 ^ suc n) (2 ^ suc (suc n)) e f h)) e
  where
    half : (k m p : ℕ) → p ≡ 2 * m → m ≡ 2 * k → r + r + 1 < p → r / 2 + r / 2 + 1 < m
    half k m p e f h = omega (arith, e, f, h)

    below : (i m p : ℕ) → i < m → p ≡ 2 * m → r % 2 + 2 * i < p
    below i m p h e = omega (arith, h, e)

-- the pair of a row
abbrev pub pair_of_row : ℕ → ℕ → ℕ
pair_of_row zero r = r / 2
pair_of_row (suc j) r = r % 2 + 2 * pair_of_row j (r / 2)

pub pair_row : (j r : ℕ) → inserted j false (pair_of_row j r) ≡ with_bit j false r
unfolding inserted
pair_row zero r = sym (ap (with_bit 0 false) (sym (row_split r)) ∙ low_with_bit false (is_set 0 r) (r / 2))
pair_row (suc j) r =
    parts (r % 2) (pair_of_row j (r / 2)) (inserted j false) (omega arith) ∙ ap (λ n. r % 2 + 2 * n) (pair_row j (r / 2)) ∙ ap (λ n. n + 2 * with_bit j false (r / 2)) (sym (bit_low r))
    ∙ sym (ap (with_bit (suc j) false) (sym (row_split r)) ∙ high_with_bit false (is_set 0 r) (r / 2) j)
  where
    parts : (b p : ℕ) (f : ℕ → ℕ) → b < 2 → (b + 2 * p) % 2 + 2 * f ((b + 2 * p) / 2) ≡ b + 2 * f p
    parts b p f h = let e : (b + 2 * p) % 2 ≡ b = omega (arith, h) in let g : (b + 2 * p) / 2 ≡ p = omega (arith, h) in ap (λ n. n + 2 * f ((b + 2 * p) / 2)) e ∙ ap (λ n. b + 2 * f n) g

pair_below : (j n r : ℕ) → j < n → r < 2 ^ n → pair_of_row j r + pair_of_row j r + 1 < 2 ^ n
pair_below j zero r l h = absurd (omega arith)
pair_below zero (suc n) r l h = let e = pow-succ' 2 n in half (2 ^ n) (2 ^ suc n) e h
  where
    half : (m p : ℕ) → p ≡ 2 * m → r < p → r / 2 + r / 2 + 1 < p
    half m p e h = omega (arith, e, h)
pair_below (suc j) (suc n) r l h =
    let e = pow-succ' 2 n in
    sum (pair_of_row j (r / 2)) (2 ^ n) (2 ^ suc n) e (pair_below j n (r / 2) (omega arith) (half (2 ^ n) (2 ^ suc n) e h))
  where
    half : (m p : ℕ) → p ≡ 2 * m → r < p → r / 2 < m
    half m p e h = omega (arith, e, h)

    sum : (q m p : ℕ) → p ≡ 2 * m → q + q + 1 < m → (r % 2 + 2 * q) + (r % 2 + 2 * q) + 1 < p
    sum q m p e h = omega (arith, e, h)

-- ---- so many rows
pub low_inside : (j rows k : ℕ) → HasPlace j rows → k < rows / 2 → inserted j false k < rows
low_inside j rows k h l = subst (λ (t : ℕ). inserted j false k < t) (sym h.count) (inserted_below j h.qubits k h.inside (subst (λ (t : ℕ). k + k + 1 < t) h.count (omega arith)))

pub pair_inside : (j rows r : ℕ) → HasPlace j rows → r < rows → pair_of_row j r < rows / 2
pair_inside j rows r h l = half rows (pair_of_row j r) (subst (λ (t : ℕ). pair_of_row j r + pair_of_row j r + 1 < t) (sym h.count) (pair_below j h.qubits r h.inside (subst (λ (t : ℕ). r < t) h.count l)))
  where
    half : (n k : ℕ) → k + k + 1 < n → k < n / 2
    half n k h = omega arith

rows_small : (j rows : ℕ) → HasPlace j rows → rows ≤ 2 ^ 12
rows_small j rows h = let p : 2 ^ h.qubits ≤ 2 ^ 12 = pow-le-pow_right {n = 2} (omega arith) h.few in subst (λ (t : ℕ). t ≤ 2 ^ 12) (sym h.count) p

pub low_code : (j rows k : ℕ) → HasPlace j rows → k < rows / 2 → k + k / 2 ^ j * 2 ^ j % 2 ^ 64 ≡ inserted j false k
low_code j rows k h l = ap (λ (t : ℕ). k + t) (small (k / 2 ^ j * 2 ^ j) (omega (arith, e, m))) ∙ sym e
  where
    e : inserted j false k ≡ k + k / 2 ^ j * 2 ^ j
    e = inserted_low j k

    m : inserted j false k < 2 ^ 64
    m = omega (arith, low_inside j rows k h l, rows_small j rows h)

    small : (n : ℕ) → n < 2 ^ 64 → n % 2 ^ 64 ≡ n
    small n h = omega arith

-- ---- pairs so far, from the last to the first
-- there are so many rows, and those of the pairs from n on are as they must be
pub record IsPairedFrom (R : ℕ → Coefficient → Type 0) (j count : ℕ) (ys : List Omega) (n : ℕ) : Type 0 where
  pub rows : length ys ≡ count
  pub done : (r : ℕ) → n ≤ pair_of_row j r → r < count → R r (value_at ys r)

pub paired_none : (R : ℕ → Coefficient → Type 0) (j count : ℕ) (ys : List Omega) → HasPlace j count → length ys ≡ count → IsPairedFrom R j count ys (count / 2)
paired_none R j count ys place e = record { rows = e; done = λ r l m. absurd (let k = pair_inside j count r place m in omega (arith, l, k)) }

-- a row is one of its pair's
own_row : (j r k low high : ℕ) → low ≡ inserted j false k → high ≡ with_bit j true low → pair_of_row j r ≡ k → (r ≢ low) → (r ≢ high) → ⊥
own_row j r k low high e f g one two = by (is_set j r) refl
  where
    is_low : with_bit j false r ≡ low
    is_low = sym (pair_row j r) ∙ ap (inserted j false) g ∙ sym e

    by : (b : Bool) → is_set j r ≡ b → ⊥
    by false s = one (sym (low_of j r s) ∙ is_low)
    by true s = two (sym (ap (λ b. with_bit j b r) (sym s) ∙ with_own_bit j r) ∙ sym (with_bit_again j true false r) ∙ ap (with_bit j true) is_low ∙ sym f)

pub paired_more : (R : ℕ → Coefficient → Type 0) (j count : ℕ) (ys : List Omega) (n k low high : ℕ) (y z : Omega) → n ≤ k + 1 → low < count → high < count → low ≡ inserted j false k → high ≡ with_bit j true low
    → R low (omega_value y) → R high (omega_value z) → IsPairedFrom R j count ys n → IsPairedFrom R j count (slice_set (slice_set ys high z) low y) k
paired_more R j count ys n k low high y z next in_low in_high e f is_low is_high h = record {
  rows = length-set (slice_set ys high z) low y ∙ length-set ys high z ∙ h.rows;
  done = λ r from below. ⊎_elim
      (λ (p : r ≡ low). subst (λ (t : ℕ). R t (value_at (slice_set (slice_set ys high z) low y) t)) (sym p)
      (subst (R low) (ap omega_value (sym (get_or-set_same (slice_set ys high z) low y zero_omega (subst (λ (t : ℕ). low < t) (sym (length-set ys high z ∙ h.rows)) in_low)))) is_low))
      (λ (p : r ≢ low). ⊎_elim
      (λ (q : r ≡ high). subst (λ (t : ℕ). R t (value_at (slice_set (slice_set ys high z) low y) t)) (sym q)
      (subst (R high) (ap omega_value (sym (get_or-set_other (slice_set ys high z) low high y zero_omega (λ g. p (q ∙ g)) ∙ get_or-set_same ys high z zero_omega (subst (λ (t : ℕ). high < t) (sym h.rows) in_high)))) is_high))
      (λ (q : r ≢ high). subst (R r) (ap omega_value (sym (get_or-set_other (slice_set ys high z) low r y zero_omega p ∙ get_or-set_other ys high r z zero_omega q))) (h.done r (past r from p q) below))
      (cases_eq r high))
      (cases_eq r low);
}
  where
    past : (r : ℕ) → k ≤ pair_of_row j r → r ≢ low → r ≢ high → n ≤ pair_of_row j r
    past r from p q = ⊎_elim (λ (m : pair_of_row j r < n). absurd (own_row j r k low high e f (omega (arith, m, next, from)) p q)) (λ (m : n ≤ pair_of_row j r). m) (cases_lt (pair_of_row j r) n)

-- all rows, and none is past them
pub paired_whole : (R : ℕ → Coefficient → Type 0) (j count : ℕ) (ys : List Omega) (n : ℕ) → ((r : ℕ) → count ≤ r → R r zero_coefficient) → n ≤ 0 → IsPairedFrom R j count ys n → (r : ℕ) → R r (at (map omega_value ys) r)
paired_whole R j count ys n past l h r = ⊎_elim
    (λ (p : r < count). subst (R r) (sym (at_map ys r)) (h.done r (omega (arith, l)) p))
    (λ (p : count ≤ r). subst (R r) (sym (at_past ys r (let e = h.rows in omega (arith, e, p)))) (past r p))
    (cases_lt r count)
