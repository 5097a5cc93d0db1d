-- The rows of a register whose bit at a place has a value: the list of what a measurement keeps, and the weight of the rows with a 1.
use Prim.Native.Nat.{zero, suc}
use Rattle.std.proofs.Common.{◌≡◌, ◌≢◌, ℕ, ◌+◌, ◌*◌, ◌/◌, ◌%◌, ◌<◌, ◌≤◌, ◌^◌, ◌==◌, Bool, true, false, not, cond, ◌&&◌, ℤ, pos, ◌≤ℤ◌, List, [], ◌∷◌, length, filter, refl, sym, ap, subst, ◌∙◌, arith}
use mathlib.Core.Path.{fun_ext}
use Rattle.std.proofs.lemmas.Int.{ints}
use Rattle.std.proofs.Math.Nat.{pow-succ'}
use Rattle.state_model.specs.Coefficient.{Coefficient, zero_coefficient, Weight, weight, weight_sum}
use Rattle.state_model.specs.CoefficientList.{at, total_weight}
use Rattle.state_model.specs.Row.{is_set, with_bit, inserted, is_listed, within, rows_of, without}
use Rattle.state_model.specs.StateVector.{Vector, squares_over}
use Rattle.state_model.specs.Measurement.{weight_of, whole_weight, one_weight, keep}
use Rattle.state_model.specs.Registers.{register_row, register_vector}
use Rattle.state_model.specs.Amplitudes.{Amplitudes, vector_of, qubit_at, AreDistinct, HasRows, IsKeptList}
use Rattle.state_model.proofs.Booleans.{eq_true, eq_false, eq_of, ne_of, clash, and_true}
use Rattle.state_model.proofs.Numbers.{is_listed-without}
use Rattle.state_model.proofs.Parts.{within_all, no_bit_outside}
use Rattle.state_model.proofs.RowLaws.{is_set-with_bit_same, is_set-with_bit_other}
use Rattle.state_model.proofs.Registers.{IsAt, is_at_listed, register_bit, register_blind}
use Rattle.state_model.proofs.RegisterGates.{at_place}
use Rattle.state_model.proofs.RegisterLists.{register_row-below, vector-outside}
use Rattle.state_model.proofs.RegisterSums.{weight_sum-none, weight_to, weight_on-same, weight_of-rows, weight_on-register, vector-within, squares_over-register, weight_of-register}
use Rattle.state_model.proofs.Sizes.{not_in, without-same, without-other, without_absent, kept_squares}

-- ---- rows
low_bit : (c : Bool) (r : ℕ) → (cond c 1 0 + 2 * r) % 2 ≡ cond c 1 0
low_bit true r = omega arith
low_bit false r = omega arith

high_bits : (c : Bool) (r : ℕ) → (cond c 1 0 + 2 * r) / 2 ≡ r
high_bits true r = omega arith
high_bits false r = omega arith

inserted-suc : (j : ℕ) (b c : Bool) (r : ℕ) → inserted (suc j) b (cond c 1 0 + 2 * r) ≡ cond c 1 0 + 2 * inserted j b r
unfolding inserted
inserted-suc j b c r = ap (λ n. n + 2 * inserted j b ((cond c 1 0 + 2 * r) / 2)) (low_bit c r) ∙ ap (λ n. cond c 1 0 + 2 * inserted j b n) (high_bits c r)

-- the register's row of a row with a bit set, by its row without the bit
kept_row : (qs : List ℕ) (j q : ℕ) (b : Bool) (x : ℕ) → AreDistinct qs → IsAt qs j q → register_row qs (with_bit q b x) ≡ inserted j b (register_row (without qs q) x)
unfolding register_row inserted
kept_row [] j q b x apart at = absurd at
kept_row (p ∷ qs) zero q b x apart at =
    let out : is_listed qs q ≡ false = ap (is_listed qs) (sym at) ∙ apart.0 in
    ap (λ c. cond c 1 0 + 2 * register_row qs (with_bit q b x)) (ap (λ n. is_set n (with_bit q b x)) at ∙ is_set-with_bit_same q b x)
    ∙ ap (λ n. cond b 1 0 + 2 * n) (register_blind qs q b x out ∙ ap (λ (l : List ℕ). register_row l x) (sym (without-same qs p q (eq_true p q at) ∙ without_absent qs q out)))
kept_row (p ∷ qs) (suc j) q b x apart at =
    let other : p ≢ q = λ is. clash (sym (is_at_listed qs j q at) ∙ ap (is_listed qs) (sym is) ∙ apart.0) in
    ap (λ c. cond c 1 0 + 2 * register_row qs (with_bit q b x)) (is_set-with_bit_other p q b x other)
    ∙ ap (λ n. cond (is_set p x) 1 0 + 2 * n) (kept_row qs j q b x (apart.1) at)
    ∙ sym (ap (λ (l : List ℕ). inserted (suc j) b (register_row l x)) (without-other qs p q (eq_false p q other)) ∙ inserted-suc j b (is_set p x) (register_row (without qs q) x))

-- ---- the other qubits
pub without_distinct : (qs : List ℕ) (q : ℕ) → AreDistinct qs → AreDistinct (without qs q)
without_distinct [] q apart = subst AreDistinct (sym (none q)) tt
  where
    none : (q : ℕ) → without [] q ≡ []
    none q = unfold without in refl
without_distinct (p ∷ qs) q apart = by (p == q) refl (without_distinct qs q (apart.1))
  where
    still : is_listed (without qs q) p ≡ false
    still = is_listed-without qs q p ∙ ap (λ c. c && not (p == q)) (apart.0)

    by : (t : Bool) → (p == q) ≡ t → AreDistinct (without qs q) → AreDistinct (without (p ∷ qs) q)
    by true e rest = subst AreDistinct (sym (without-same qs p q e)) rest
    by false e rest = subst AreDistinct (sym (without-other qs p q e)) (still, rest)

pub without_length : (qs : List ℕ) (j q : ℕ) → AreDistinct qs → IsAt qs j q → suc (length (without qs q)) ≡ length qs
without_length [] j q apart at = absurd at
without_length (p ∷ qs) zero q apart at = ap (λ (l : List ℕ). suc (length l)) (without-same qs p q (eq_true p q at) ∙ without_absent qs q (ap (is_listed qs) (sym at) ∙ apart.0))
without_length (p ∷ qs) (suc j) q apart at =
    let other : p ≢ q = λ is. clash (sym (is_at_listed qs j q at) ∙ ap (is_listed qs) (sym is) ∙ apart.0) in
    ap (λ (l : List ℕ). suc (length l)) (without-other qs p q (eq_false p q other)) ∙ ap suc (without_length qs j q (apart.1) at)

-- ---- rows of the other qubits
kept_within : (qs : List ℕ) (q : ℕ) (b : Bool) (x : ℕ) → within (without qs q) x ≡ x → is_listed qs q ≡ true → within qs (with_bit q b x) ≡ with_bit q b x
kept_within qs q b x is here = within_all qs (with_bit q b x) (λ p out.
    let other : p ≢ q = λ e. clash (sym here ∙ ap (is_listed qs) (sym e) ∙ out) in
    is_set-with_bit_other p q b x other ∙ no_bit_outside (without qs q) x p is (is_listed-without qs q p ∙ ap (λ c. c && not (p == q)) out))

within_kept : (qs : List ℕ) (q : ℕ) (b : Bool) (x : ℕ) → is_set q x ≡ false → within qs (with_bit q b x) ≡ with_bit q b x → within (without qs q) x ≡ x
within_kept qs q b x clear is = within_all (without qs q) x (λ p out. by p (p == q) refl out)
  where
    by : (p : ℕ) (t : Bool) → (p == q) ≡ t → is_listed (without qs q) p ≡ false → is_set p x ≡ false
    by p true e out = ap (λ n. is_set n x) (eq_of p q e) ∙ clear
    by p false e out =
        sym (is_set-with_bit_other p q b x (ne_of p q e))
        ∙ no_bit_outside qs (with_bit q b x) p is (sym (is_listed-without qs q p ∙ ap (λ c. is_listed qs p && not c) e ∙ and_true (is_listed qs p)) ∙ out)

-- ---- the list of what is kept
half_below : (n m k i : ℕ) → suc n ≡ m → 2 * k ≡ 2 ^ m → i < 2 ^ n → i < k
half_below n m k i e f l = let p = pow-succ' 2 n in let g = ap (λ t. 2 ^ t) e in omega (arith, p, g)

kept_vector : (qs : List ℕ) (j q : ℕ) (b : Bool) (old new : List Coefficient) → AreDistinct qs → length old ≡ 2 ^ length qs → IsAt qs j q → IsKeptList j b old new
    → (x : ℕ) → register_vector (without qs q) new x ≡ keep q b (register_vector qs old) x
unfolding keep
kept_vector qs j q b old new apart rows place kept x = by (within (without qs q) x == x) refl
  where
    here : is_listed qs q ≡ true
    here = is_at_listed qs j q place

    by : (t : Bool) → (within (without qs q) x == x) ≡ t → register_vector (without qs q) new x ≡ cond (is_set q x) zero_coefficient (register_vector qs old (with_bit q b x))
    by true e =
        let is = eq_of _ _ e in
        let clear : is_set q x ≡ false = no_bit_outside (without qs q) x q is (not_in qs q) in
        vector-within (without qs q) new x is
        ∙ kept.list (register_row (without qs q) x) (half_below (length (without qs q)) (length qs) (length new) (register_row (without qs q) x) (without_length qs j q apart place) (sym kept.rows ∙ rows) (register_row-below (without qs q) x))
        ∙ ap (at old) (sym (kept_row qs j q b x apart place))
        ∙ sym (vector-within qs old (with_bit q b x) (kept_within qs q b x is here))
        ∙ sym (ap (λ c. cond c zero_coefficient (register_vector qs old (with_bit q b x))) clear)
    by false e = vector-outside (without qs q) new x (ne_of _ _ e) ∙ sym (none (is_set q x) refl)
      where
        none : (c : Bool) → is_set q x ≡ c → cond (is_set q x) zero_coefficient (register_vector qs old (with_bit q b x)) ≡ zero_coefficient
        none true f = ap (λ c. cond c zero_coefficient (register_vector qs old (with_bit q b x))) f
        none false f = ap (λ c. cond c zero_coefficient (register_vector qs old (with_bit q b x))) f ∙ vector-outside qs old (with_bit q b x) (λ is. ne_of _ _ e (within_kept qs q b x f is))

pub kept_list : (a : Amplitudes) (j : ℕ) (b : Bool) (list : List Coefficient) → HasRows a → j < length a.qubits → IsKeptList j b a.list list
    → (x : ℕ) → register_vector (without a.qubits (qubit_at a j)) list x ≡ keep (qubit_at a j) b (vector_of a) x
kept_list a j b list rows l kept = kept_vector a.qubits j (qubit_at a j) b a.list list rows.distinct rows.rows (at_place a.qubits j l) kept

pub kept_rows : (a : Amplitudes) (j : ℕ) (b : Bool) (list : List Coefficient) → HasRows a → j < length a.qubits → IsKeptList j b a.list list
    → HasRows record { qubits = without a.qubits (qubit_at a j); list = list }
kept_rows a j b list rows l kept = record {
  rows = half (length (without a.qubits (qubit_at a j))) (length a.qubits) (length list) (without_length a.qubits j (qubit_at a j) rows.distinct (at_place a.qubits j l)) (sym kept.rows ∙ rows.rows);
  distinct = without_distinct a.qubits (qubit_at a j) rows.distinct;
}
  where
    half : (n m k : ℕ) → suc n ≡ m → 2 * k ≡ 2 ^ m → k ≡ 2 ^ n
    half n m k e f = let p = pow-succ' 2 n in let g = ap (λ t. 2 ^ t) e in omega (arith, p, g)

-- what is kept weighs no more
pub kept_lighter : (a : Amplitudes) (j : ℕ) (b : Bool) (list : List Coefficient) → HasRows a → j < length a.qubits → IsKeptList j b a.list list → (total_weight list).x ≤ℤ (total_weight a.list).x
kept_lighter a j b list rows l kept =
    let q = qubit_at a j in
    let e = squares_over-register record { qubits = without a.qubits q; list = list } (kept_rows a j b list rows l kept) in
    let f = squares_over-register a rows in
    let g : squares_over (without a.qubits q) (register_vector (without a.qubits q) list) ≡ squares_over (without a.qubits q) (keep q b (vector_of a)) = ap (squares_over (without a.qubits q)) (fun_ext (kept_list a j b list rows l kept)) in
    let h = kept_squares a.qubits q b (vector_of a) rows.distinct (is_at_listed a.qubits j q (at_place a.qubits j l)) in
    order (total_weight list).x (total_weight a.list).x _ _ (e ∙ ap pos g) f h
  where
    order : (x y : ℤ) (m n : ℕ) → x ≡ pos m → y ≡ pos n → m ≤ n → x ≤ℤ y
    order x y m n e f h = omega (arith, ints)

-- ---- the weight of the rows in which a bit is 1
-- the coefficient of a row whose bit at the place is 1
abbrev pub counted : ℕ → List Coefficient → ℕ → Coefficient
counted j list i = cond (is_set j i) (at list i) zero_coefficient

zero_weight : (w : Weight) → weight_sum (weight zero_coefficient) w ≡ w
zero_weight w = weight_sum-none w

one_filtered : (v : Vector) (q : ℕ) (xs : List ℕ) → weight_of v (filter (is_set q) xs) ≡ weight_of (λ x. cond (is_set q x) (v x) zero_coefficient) xs
unfolding weight_of
one_filtered v q [] = refl
one_filtered v q (x ∷ xs) = by (is_set q x) refl (one_filtered v q xs)
  where
    by : (t : Bool) → is_set q x ≡ t → weight_of v (filter (is_set q) xs) ≡ weight_of (λ x. cond (is_set q x) (v x) zero_coefficient) xs
        → weight_of v (cond (is_set q x) (x ∷ filter (is_set q) xs) (filter (is_set q) xs)) ≡ weight_sum (weight (cond (is_set q x) (v x) zero_coefficient)) (weight_of (λ x. cond (is_set q x) (v x) zero_coefficient) xs)
    by true e h =
        ap (λ c. weight_of v (cond c (x ∷ filter (is_set q) xs) (filter (is_set q) xs))) e ∙ ap (weight_sum (weight (v x))) h
        ∙ sym (ap (λ c. weight_sum (weight (cond c (v x) zero_coefficient)) (weight_of (λ x. cond (is_set q x) (v x) zero_coefficient) xs)) e)
    by false e h =
        ap (λ c. weight_of v (cond c (x ∷ filter (is_set q) xs) (filter (is_set q) xs))) e ∙ h ∙ sym (zero_weight (weight_of (λ x. cond (is_set q x) (v x) zero_coefficient) xs))
        ∙ sym (ap (λ c. weight_sum (weight (cond c (v x) zero_coefficient)) (weight_of (λ x. cond (is_set q x) (v x) zero_coefficient) xs)) e)

pub one_weights : (a : Amplitudes) (j : ℕ) → HasRows a → j < length a.qubits → one_weight a.qubits (vector_of a) (qubit_at a j) ≡ weight_to (λ i. weight (counted j a.list i)) (length a.list)
unfolding one_weight
one_weights a j rows l =
    let q = qubit_at a j in
    one_filtered (vector_of a) q (rows_of a.qubits)
    ∙ weight_of-rows a.qubits (λ x. cond (is_set q x) (vector_of a x) zero_coefficient)
    ∙ weight_on-same a.qubits (λ x. weight (cond (is_set q x) (vector_of a x) zero_coefficient)) (λ x. weight (counted j a.list (register_row a.qubits x)))
    (λ x is. ap (λ z. weight (cond (is_set q x) z zero_coefficient)) (vector-within a.qubits a.list x is) ∙ ap (λ c. weight (cond c (at a.list (register_row a.qubits x)) zero_coefficient)) (sym (register_bit a.qubits j q x (at_place a.qubits j l))))
    ∙ weight_on-register a.qubits rows.distinct (λ i. weight (counted j a.list i))
    ∙ ap (weight_to (λ i. weight (counted j a.list i))) (sym rows.rows)

pub whole_weights : (a : Amplitudes) → HasRows a → whole_weight a.qubits (vector_of a) ≡ total_weight a.list
unfolding whole_weight
whole_weights a rows = weight_of-register a rows
