-- Rows in pairs that differ in one bit, and lists of which a gate has changed the pairs so far.
use Prim.Native.Nat.{zero, suc}
use Rattle.std.proofs.Common.{◌≡◌, ◌≢◌, ℕ, ◌+◌, ◌*◌, ◌/◌, ◌%◌, ◌<◌, ◌≤◌, ◌^◌, ◌==◌, bit_or, Bool, true, false, cond, List, [], ◌∷◌, length, map, slice_index_or, slice_set, refl, sym, ap, subst, ◌∙◌, arith, ⊎_elim, get_or-set_same, get_or-set_other}
use Rattle.std.proofs.Math.Nat.{pow-succ', div-div-eq-div-mul}
use Rattle.std.proofs.lemmas.Nat.Bits.{bit_at_lowest, bit_at-suc}
use Rattle.std.specs.Int.{bit_at}
use Rattle.std.specs.List.{swap}
use native.Mathlib.Nat.{pow-le-pow_right}
use Rattle.std.proofs.lemmas.Bool.{cases_lt}
use Rattle.std.proofs.lemmas.List.{length-set, get_or_default}
use Rattle.state_model.proofs.Registers.{low_with_bit, high_with_bit}
use Rattle.state_model.proofs.RegisterLists.{row_split}
use Rattle.state_model.proofs.Gates.{entry_absent, with_bit_again, with_own_bit}
use Rattle.state_model.specs.Coefficient.{Coefficient, zero_coefficient}
use Rattle.state_model.specs.CoefficientList.{at}
use Rattle.state_model.specs.Row.{is_set, with_bit}
use Rattle.state_model.specs.Gate.{Matrix, entry}
use Rattle.state_model.specs.Amplitudes.{IsGateList}
use Rattle.omega_ring.specs.Views.{omega_value}
use Rattle.omega_ring.specs.declared.coefficients.Omega.{Omega}
use Rattle.amplitude_register.specs.Multiples.{HasPlace}
use Rattle.omega_ring.proofs.Entries.{zero_omega, at_map, at_past}
use Rattle.state_model.proofs.Booleans.{clash}
use Rattle.state_model.proofs.RowLaws.{is_set-with_bit_same}
use Rattle.omega_ring.specs.Range.{CoordinatesBelow}

-- ---- the code's bits
-- a bit by its place
bit_is : (i n : ℕ) → bit_at n i ≡ n / 2 ^ i % 2
bit_is zero n = bit_at_lowest n ∙ ap (λ t. t % 2) (omega arith)
bit_is (suc i) n = bit_at-suc n i ∙ bit_is i (n / 2) ∙ ap (λ t. t % 2) (div-div-eq-div-mul n 2 (2 ^ i) ∙ ap (λ t. n / t) (sym (pow-succ' 2 i)))

-- the test for a bit
pub set_test : (q x : ℕ) → (x / 2 ^ q % 2 == 1) ≡ is_set q x
unfolding is_set
set_test q x = ap (λ n. n == 1) (sym (bit_is q x))

pub power_small : (q : ℕ) → q < 12 → 1 * 2 ^ q % 2 ^ 64 ≡ 2 ^ q
power_small q l = let h : q ≤ 11 = omega arith in let p : 2 ^ q ≤ 2 ^ 11 = pow-le-pow_right {n = 2} (omega arith) h in small (2 ^ q) (omega (arith, p))
  where
    small : (n : ℕ) → n < 2 ^ 12 → 1 * n % 2 ^ 64 ≡ n
    small n h = omega arith

pub high_test : (q x : ℕ) → q < 12 → bit_or x (1 * 2 ^ q % 2 ^ 64) ≡ with_bit q true x
unfolding with_bit
high_test q x l = ap (bit_or x) (power_small q l)

-- ---- two rows that change places
pub swapped : (xs : List Omega) (i j : ℕ) → i < length xs → j < length xs → swap xs i j ≡ slice_set (slice_set xs i (slice_index_or xs j zero_omega)) j (slice_index_or xs i zero_omega)
swapped [] i j h k = absurd (omega arith)
swapped (x ∷ xs) i j h k =
    ap (λ (t : Omega). slice_set (slice_set (x ∷ xs) i t) j (slice_index_or (x ∷ xs) i x)) (get_or_default (x ∷ xs) j x zero_omega k)
    ∙ ap (slice_set (slice_set (x ∷ xs) i (slice_index_or (x ∷ xs) j zero_omega)) j) (get_or_default (x ∷ xs) i x zero_omega h)

-- ---- rows below a power of 2
pub with_bit-below : (n j : ℕ) (b : Bool) (r : ℕ) → j < n → r < 2 ^ n → with_bit j b r < 2 ^ n
with_bit-below zero j b r l h = absurd (omega arith)
with_bit-below (suc n) zero b r l h =
    let e = pow-succ' 2 n in
    subst (λ (t : ℕ). t < 2 ^ suc n) (sym (ap (with_bit 0 b) (sym (row_split r)) ∙ low_with_bit b (is_set 0 r) (r / 2))) (small b (r / 2) (2 ^ n) (2 ^ suc n) (omega arith) e)
  where
    small : (b : Bool) (r n m : ℕ) → r < n → m ≡ 2 * n → cond b 1 0 + 2 * r < m
    small true r n m h e = omega arith
    small false r n m h e = omega arith
with_bit-below (suc n) (suc j) b r l h =
    let e = pow-succ' 2 n in let k = with_bit-below n j b (r / 2) (omega arith) (omega arith) in
    subst (λ (t : ℕ). t < 2 ^ suc n) (sym (ap (with_bit (suc j) b) (sym (row_split r)) ∙ high_with_bit b (is_set 0 r) (r / 2) j)) (small (is_set 0 r) (with_bit j b (r / 2)) (2 ^ n) (2 ^ suc n) k e)
  where
    small : (b : Bool) (r n m : ℕ) → r < n → m ≡ 2 * n → cond b 1 0 + 2 * r < m
    small true r n m h e = omega arith
    small false r n m h e = omega arith

-- a row's partner is a row too
pub place_low : (place rows : ℕ) → HasPlace place rows → place < 12
place_low place rows h = omega (arith, h.few, h.inside)

pub pair_inside : (place rows row : ℕ) (b : Bool) → HasPlace place rows → row < rows → with_bit place b row < rows
pair_inside place rows row b h l = subst (λ (t : ℕ). with_bit place b row < t) (sym h.count) (with_bit-below h.qubits place b row h.inside (subst (λ (t : ℕ). row < t) h.count l))

-- and a row past the end has its partner past the end
pub pair_outside : (place rows row : ℕ) (b : Bool) → HasPlace place rows → rows ≤ row → rows ≤ with_bit place b row
pair_outside place rows row b h l = ⊎_elim
    (λ (p : with_bit place b row < rows). let k = pair_inside place rows (with_bit place b row) (is_set place row) h p in absurd (let e = with_bit_again place (is_set place row) b row ∙ with_own_bit place row in omega (arith, e)))
    (λ (p : rows ≤ with_bit place b row). p)
    (cases_lt (with_bit place b row) rows)

-- the row itself, where its bit is 0
pub low_of : (place row : ℕ) → is_set place row ≡ false → with_bit place false row ≡ row
low_of place row e = ap (λ b. with_bit place b row) (sym e) ∙ with_own_bit place row

-- the low row of the high one
pub low_of_high : (place row : ℕ) → is_set place row ≡ false → with_bit place false (with_bit place true row) ≡ row
low_of_high place row e = with_bit_again place false true row ∙ low_of place row e

pub high_other : (place row : ℕ) → is_set place row ≡ false → with_bit place true row ≢ row
high_other place row e is = clash (sym (is_set-with_bit_same place true row) ∙ ap (is_set place) is ∙ e)

-- ---- lists
abbrev pub value_at : List Omega → ℕ → Coefficient
value_at xs r = omega_value (slice_index_or xs r zero_omega)

-- the pairs whose low row is below n are what the gate makes of the old ones, and the others are the old ones
pub record IsGateUntil (m : Matrix) (j : ℕ) (xs ys : List Omega) (n : ℕ) : Type 0 where
  pub rows : length ys ≡ length xs
  pub done : (r : ℕ) → with_bit j false r < n → value_at ys r ≡ entry m (is_set j r) (value_at xs (with_bit j false r)) (value_at xs (with_bit j true r))
  pub rest : (r : ℕ) → n ≤ with_bit j false r → slice_index_or ys r zero_omega ≡ slice_index_or xs r zero_omega

pub gate_none : (m : Matrix) (j : ℕ) (xs : List Omega) → IsGateUntil m j xs xs 0
gate_none m j xs = record { rows = refl; done = λ r l. absurd (omega arith); rest = λ r l. refl }

-- a row whose bit is 1 is passed over
pub gate_skip : (m : Matrix) (j : ℕ) (xs ys : List Omega) (n : ℕ) → is_set j n ≡ true → IsGateUntil m j xs ys n → IsGateUntil m j xs ys (n + 1)
gate_skip m j xs ys n e h = record {
  rows = h.rows;
  done = λ r l. ⊎_elim
      (λ (p : with_bit j false r < n). h.done r p)
      (λ (p : n ≤ with_bit j false r). let f : with_bit j false r ≡ n = omega arith in absurd (clash (sym e ∙ ap (is_set j) (sym f) ∙ is_set-with_bit_same j false r)))
      (cases_lt (with_bit j false r) n);
  rest = λ r l. h.rest r (omega arith);
}

-- a pair is changed
pub gate_more : (m : Matrix) (j : ℕ) (xs ys zs : List Omega) (n : ℕ) → is_set j n ≡ false → IsGateUntil m j xs ys n → length zs ≡ length ys
    → value_at zs n ≡ entry m false (value_at xs n) (value_at xs (with_bit j true n))
    → value_at zs (with_bit j true n) ≡ entry m true (value_at xs n) (value_at xs (with_bit j true n))
    → ((r : ℕ) → r ≢ n → r ≢ with_bit j true n → slice_index_or zs r zero_omega ≡ slice_index_or ys r zero_omega)
    → IsGateUntil m j xs zs (n + 1)
gate_more m j xs ys zs n e h rows low high others = record {
  rows = rows ∙ h.rows;
  done = λ r l. ⊎_elim
      (λ (p : with_bit j false r < n). ap omega_value (others r (not_low r (λ f. absurd (omega arith))) (not_high r (λ f. absurd (omega arith)))) ∙ h.done r p)
      (λ (p : n ≤ with_bit j false r). pair r (omega arith) (is_set j r) refl)
      (cases_lt (with_bit j false r) n);
  rest = λ r l. others r (not_low r (λ f. absurd (omega arith))) (not_high r (λ f. absurd (omega arith))) ∙ h.rest r (omega arith);
}
  where
    not_low : (r : ℕ) → (with_bit j false r ≡ n → ⊥) → r ≢ n
    not_low r out f = out (ap (with_bit j false) f ∙ low_of j n e)

    not_high : (r : ℕ) → (with_bit j false r ≡ n → ⊥) → r ≢ with_bit j true n
    not_high r out f = out (ap (with_bit j false) f ∙ low_of_high j n e)

    pair : (r : ℕ) → with_bit j false r ≡ n → (t : Bool) → is_set j r ≡ t → value_at zs r ≡ entry m (is_set j r) (value_at xs (with_bit j false r)) (value_at xs (with_bit j true r))
    pair r f t g =
        let top : with_bit j true r ≡ with_bit j true n = sym (with_bit_again j true false r) ∙ ap (with_bit j true) f in
        at_bit t g ∙ ap (λ k. entry m (is_set j r) (value_at xs k) (value_at xs (with_bit j true n))) (sym f) ∙ ap (λ k. entry m (is_set j r) (value_at xs (with_bit j false r)) (value_at xs k)) (sym top)
      where
        at_bit : (t : Bool) → is_set j r ≡ t → value_at zs r ≡ entry m (is_set j r) (value_at xs n) (value_at xs (with_bit j true n))
        at_bit true g = ap (value_at zs) (sym (with_own_bit j r) ∙ ap (λ b. with_bit j b r) g ∙ sym (with_bit_again j true false r) ∙ ap (with_bit j true) f) ∙ high ∙ ap (λ b. entry m b (value_at xs n) (value_at xs (with_bit j true n))) (sym g)
        at_bit false g = ap (value_at zs) (sym (with_own_bit j r) ∙ ap (λ b. with_bit j b r) g ∙ f) ∙ low ∙ ap (λ b. entry m b (value_at xs n) (value_at xs (with_bit j true n))) (sym g)

-- two written rows
pub gate_both : (m : Matrix) (j : ℕ) (xs ys : List Omega) (n h : ℕ) (p q : Omega) → HasPlace j (length xs) → n < length ys → is_set j n ≡ false → h ≡ with_bit j true n → IsGateUntil m j xs ys n
    → omega_value p ≡ entry m false (value_at xs n) (value_at xs (with_bit j true n)) → omega_value q ≡ entry m true (value_at xs n) (value_at xs (with_bit j true n))
    → IsGateUntil m j xs (slice_set (slice_set ys n p) h q) (n + 1)
gate_both m j xs ys n h p q place l e is old low high =
    let top : h < length (slice_set ys n p) = let k = pair_inside j (length xs) n true place (let r = old.rows in omega (arith, r)) in let r = old.rows in let s = length-set ys n p in omega (arith, k, r, s, is) in
    let apart : n ≢ h = λ f. high_other j n e (sym (f ∙ is)) in
    gate_more m j xs ys (slice_set (slice_set ys n p) h q) n e old (length-set (slice_set ys n p) h q ∙ length-set ys n p)
    (ap omega_value (get_or-set_other (slice_set ys n p) h n q zero_omega apart ∙ get_or-set_same ys n p zero_omega l) ∙ low)
    (ap (value_at (slice_set (slice_set ys n p) h q)) (sym is) ∙ ap omega_value (get_or-set_same (slice_set ys n p) h q zero_omega top) ∙ high)
    (λ r f g. get_or-set_other (slice_set ys n p) h r q zero_omega (λ k. g (k ∙ is)) ∙ get_or-set_other ys n r p zero_omega f)

-- one written row
pub gate_high : (m : Matrix) (j : ℕ) (xs ys : List Omega) (n h : ℕ) (q : Omega) → HasPlace j (length xs) → n < length ys → is_set j n ≡ false → h ≡ with_bit j true n → IsGateUntil m j xs ys n
    → value_at xs n ≡ entry m false (value_at xs n) (value_at xs (with_bit j true n)) → omega_value q ≡ entry m true (value_at xs n) (value_at xs (with_bit j true n))
    → IsGateUntil m j xs (slice_set ys h q) (n + 1)
gate_high m j xs ys n h q place l e is old low high =
    let top : h < length ys = let k = pair_inside j (length xs) n true place (let r = old.rows in omega (arith, r)) in let r = old.rows in omega (arith, k, r, is) in
    let apart : n ≢ h = λ f. high_other j n e (sym (f ∙ is)) in
    gate_more m j xs ys (slice_set ys h q) n e old (length-set ys h q)
    (ap omega_value (get_or-set_other ys h n q zero_omega apart ∙ old.rest n (omega (arith, low_of j n e))) ∙ low)
    (ap (value_at (slice_set ys h q)) (sym is) ∙ ap omega_value (get_or-set_same ys h q zero_omega top) ∙ high)
    (λ r f g. get_or-set_other ys h r q zero_omega (λ k. g (k ∙ is)))

absent : (m : Matrix) (b : Bool) → entry m b zero_coefficient zero_coefficient ≡ zero_coefficient
absent m b = entry_absent m b zero_coefficient zero_coefficient refl refl

-- the whole list
pub gate_whole : (m : Matrix) (j : ℕ) (xs ys : List Omega) (n : ℕ) → HasPlace j (length xs) → length xs ≤ n → IsGateUntil m j xs ys n → IsGateList m j (map omega_value xs) (map omega_value ys)
gate_whole m j xs ys n place l h r = ⊎_elim
    (λ (p : r < length xs).
    at_map ys r ∙ h.done r (let k = pair_inside j (length xs) r false place p in omega arith)
    ∙ ap (λ t. entry m (is_set j r) t (value_at xs (with_bit j true r))) (sym (at_map xs (with_bit j false r))) ∙ ap (λ t. entry m (is_set j r) (at (map omega_value xs) (with_bit j false r)) t) (sym (at_map xs (with_bit j true r))))
    (λ (p : length xs ≤ r).
    at_past ys r (let e = h.rows in omega (arith, e)) ∙ sym (
    ap (λ t. entry m (is_set j r) t (at (map omega_value xs) (with_bit j true r))) (at_past xs (with_bit j false r) (pair_outside j (length xs) r false place p))
    ∙ ap (λ t. entry m (is_set j r) zero_coefficient t) (at_past xs (with_bit j true r) (pair_outside j (length xs) r true place p)) ∙ absent m (is_set j r)))
    (cases_lt r (length xs))

-- the rows that are still the old ones
pub gate_low : (m : Matrix) (j : ℕ) (xs ys : List Omega) (n : ℕ) (z : Omega) → is_set j n ≡ false → IsGateUntil m j xs ys n → z ≡ slice_index_or ys n zero_omega → omega_value z ≡ value_at xs n
gate_low m j xs ys n z e h is = ap omega_value (is ∙ h.rest n (omega (arith, low_of j n e)))

pub gate_top : (m : Matrix) (j : ℕ) (xs ys : List Omega) (n k : ℕ) (z : Omega) → is_set j n ≡ false → k ≡ with_bit j true n → IsGateUntil m j xs ys n → z ≡ slice_index_or ys k zero_omega → omega_value z ≡ value_at xs (with_bit j true n)
gate_top m j xs ys n k z e f h is = ap omega_value (is ∙ ap (λ r. slice_index_or ys r zero_omega) f ∙ h.rest (with_bit j true n) (omega (arith, low_of_high j n e)))

-- the coordinates of a row that is still the old one
pub gate_range : (m : Matrix) (j k : ℕ) (xs ys : List Omega) (n r : ℕ) → ((i : ℕ) → CoordinatesBelow k (at (map omega_value xs) i)) → IsGateUntil m j xs ys n → n ≤ with_bit j false r → CoordinatesBelow k (value_at ys r)
gate_range m j k xs ys n r all h l = subst (CoordinatesBelow k) (at_map xs r ∙ ap omega_value (sym (h.rest r l))) (all r)

pub low_range : (m : Matrix) (j k : ℕ) (xs ys : List Omega) (n : ℕ) → ((i : ℕ) → CoordinatesBelow k (at (map omega_value xs) i)) → IsGateUntil m j xs ys n → is_set j n ≡ false → CoordinatesBelow k (value_at ys n)
low_range m j k xs ys n all h e = gate_range m j k xs ys n n all h (omega (arith, low_of j n e))

pub high_range : (m : Matrix) (j k : ℕ) (xs ys : List Omega) (n r : ℕ) → ((i : ℕ) → CoordinatesBelow k (at (map omega_value xs) i)) → IsGateUntil m j xs ys n → is_set j n ≡ false → r ≡ with_bit j true n → CoordinatesBelow k (value_at ys r)
high_range m j k xs ys n r all h e f = subst (λ (t : ℕ). CoordinatesBelow k (value_at ys t)) (sym f) (gate_range m j k xs ys n (with_bit j true n) all h (omega (arith, low_of_high j n e)))

pub wider : (z : Coefficient) → CoordinatesBelow (2 ^ 61) z → CoordinatesBelow (2 ^ 63) z
wider z h = record { a = omega (arith, h.a); b = omega (arith, h.b); c = omega (arith, h.c); d = omega (arith, h.d) }

pub pair_of : {x y u v : Coefficient} (f : Coefficient → Coefficient → Coefficient) → x ≡ u → y ≡ v → f x y ≡ f u v
pair_of {x} {y} {u} {v} f e g = ap (λ t. f t y) e ∙ ap (f u) g
