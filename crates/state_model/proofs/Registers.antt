-- A register's list stands for a vector: bits of its rows, and a gate on its list.
use Prim.Native.Nat.{zero, suc}
use Rattle.std.proofs.Common.{◌≡◌, ◌≢◌, ℕ, ◌+◌, ◌*◌, ◌/◌, ◌%◌, ◌==◌, Bool, true, false, cond, ◌&&◌, ◌||◌, List, [], ◌∷◌, slice_index_or, refl, sym, ap, ◌∙◌, arith}
use Rattle.std.specs.Int.{bit_at}
use Rattle.std.proofs.lemmas.Nat.Bits.{bit_at_lowest, bit_at-suc}
use Rattle.state_model.specs.Coefficient.{Coefficient, zero_coefficient, ◌⊕◌, ◌⊗◌}
use Rattle.state_model.specs.Row.{is_set, with_bit, is_listed, within}
use Rattle.state_model.specs.Gate.{Matrix, entry, gate}
use Rattle.state_model.specs.Registers.{register_row, register_vector}
use Rattle.state_model.proofs.Domain.{⊗-zero_coefficient}
use Rattle.state_model.proofs.RowLaws.{same_row, is_set-with_bit_same, is_set-with_bit_other, is_set-within, within-with_bit_inside}
use Rattle.state_model.proofs.Booleans.{or_false_right, or_true, and_false, and_true, clash}

-- q stands at place j of the list
abbrev pub IsAt : List ℕ → ℕ → ℕ → Type 0
IsAt [] j q = ⊥
IsAt (p ∷ qs) zero q = p ≡ q
IsAt (p ∷ qs) (suc j) q = IsAt qs j q

-- no number is listed twice
abbrev pub AreDistinct : List ℕ → Type 0
AreDistinct [] = Unit {0}
AreDistinct (p ∷ qs) = (is_listed qs p ≡ false) × AreDistinct qs

pub lowest : (b : Bool) (r : ℕ) → is_set 0 (cond b 1 0 + 2 * r) ≡ b
unfolding is_set
lowest true r = let e : (1 + 2 * r) % 2 ≡ 1 = omega arith in ap (λ n. n == 1) (bit_at_lowest (1 + 2 * r) ∙ e)
lowest false r = let e : (0 + 2 * r) % 2 ≡ 0 = omega arith in ap (λ n. n == 1) (bit_at_lowest (0 + 2 * r) ∙ e)

pub higher : (b : Bool) (r j : ℕ) → is_set (suc j) (cond b 1 0 + 2 * r) ≡ is_set j r
unfolding is_set
higher true r j = let e : (1 + 2 * r) / 2 ≡ r = omega arith in ap (λ n. n == 1) (bit_at-suc (1 + 2 * r) j ∙ ap (λ n. bit_at n j) e)
higher false r j = let e : (0 + 2 * r) / 2 ≡ r = omega arith in ap (λ n. n == 1) (bit_at-suc (0 + 2 * r) j ∙ ap (λ n. bit_at n j) e)

-- bit j of the register's row is the bit of the j-th qubit
pub register_bit : (qs : List ℕ) (j q x : ℕ) → IsAt qs j q → is_set j (register_row qs x) ≡ is_set q x
unfolding register_row
register_bit [] j q x at = absurd at
register_bit (p ∷ qs) zero q x at = lowest (is_set p x) (register_row qs x) ∙ ap (λ n. is_set n x) at
register_bit (p ∷ qs) (suc j) q x at = higher (is_set p x) (register_row qs x) j ∙ register_bit qs j q x at

pub is_at_listed : (qs : List ℕ) (j q : ℕ) → IsAt qs j q → is_listed qs q ≡ true
unfolding is_listed
is_at_listed [] j q at = absurd at
is_at_listed (p ∷ qs) zero q at = let e : (p == q) ≡ true = grind arith in ap (λ b. b || is_listed qs q) e
is_at_listed (p ∷ qs) (suc j) q at = ap (λ b. (p == q) || b) (is_at_listed qs j q at) ∙ or_true (p == q)

-- a qubit that is not listed does not show
pub register_blind : (qs : List ℕ) (q : ℕ) (b : Bool) (x : ℕ) → is_listed qs q ≡ false → register_row qs (with_bit q b x) ≡ register_row qs x
unfolding register_row is_listed
register_blind [] q b x out = refl
register_blind (p ∷ qs) q b x out =
    let other : p ≢ q = λ is. or_first (p == q) (is_listed qs q) out (grind arith) in
    ap (λ c. cond c 1 0 + 2 * register_row qs (with_bit q b x)) (is_set-with_bit_other p q b x other)
    ∙ ap (λ n. cond (is_set p x) 1 0 + 2 * n) (register_blind qs q b x (or_false_right (p == q) (is_listed qs q) out))
  where
    or_first : (a c : Bool) → (a || c) ≡ false → a ≡ true → ⊥
    or_first true c e f = cc
    or_first false c e f = cc

pub low_with_bit : (b c : Bool) (r : ℕ) → with_bit 0 b (cond c 1 0 + 2 * r) ≡ cond b 1 0 + 2 * r
low_with_bit b c r = same_row _ _ by
  where
    by : (p : ℕ) → is_set p (with_bit 0 b (cond c 1 0 + 2 * r)) ≡ is_set p (cond b 1 0 + 2 * r)
    by zero = is_set-with_bit_same 0 b _ ∙ sym (lowest b r)
    by (suc p) = is_set-with_bit_other (suc p) 0 b _ (λ e. absurd (omega arith)) ∙ higher c r p ∙ sym (higher b r p)

pub high_with_bit : (b c : Bool) (r j : ℕ) → with_bit (suc j) b (cond c 1 0 + 2 * r) ≡ cond c 1 0 + 2 * with_bit j b r
high_with_bit b c r j = same_row _ _ by
  where
    by : (p : ℕ) → is_set p (with_bit (suc j) b (cond c 1 0 + 2 * r)) ≡ is_set p (cond c 1 0 + 2 * with_bit j b r)
    by zero = is_set-with_bit_other 0 (suc j) b _ (λ e. absurd (omega arith)) ∙ lowest c r ∙ sym (lowest c (with_bit j b r))
    by (suc p) = same (p == j) refl
      where
        same : (t : Bool) → (p == j) ≡ t → is_set (suc p) (with_bit (suc j) b (cond c 1 0 + 2 * r)) ≡ is_set (suc p) (cond c 1 0 + 2 * with_bit j b r)
        same true e = let is : p ≡ j = grind arith in
            ap (λ n. is_set (suc n) (with_bit (suc j) b (cond c 1 0 + 2 * r))) is ∙ is_set-with_bit_same (suc j) b _
            ∙ sym (higher c (with_bit j b r) p ∙ ap (λ n. is_set n (with_bit j b r)) is ∙ is_set-with_bit_same j b r)
        same false e = let other : p ≢ j = λ is. grind arith in
            is_set-with_bit_other (suc p) (suc j) b _ (λ is. other (omega arith)) ∙ higher c r p
            ∙ sym (higher c (with_bit j b r) p ∙ is_set-with_bit_other p j b r other)

-- setting the bit of the j-th qubit sets bit j of the register's row
pub register_row-with_bit : (qs : List ℕ) (j q : ℕ) (b : Bool) (x : ℕ) → AreDistinct qs → IsAt qs j q → register_row qs (with_bit q b x) ≡ with_bit j b (register_row qs x)
unfolding register_row
register_row-with_bit [] j q b x apart at = absurd at
register_row-with_bit (p ∷ qs) zero q b x apart at =
    ap (λ c. cond c 1 0 + 2 * register_row qs (with_bit q b x)) (ap (λ n. is_set n (with_bit q b x)) at ∙ is_set-with_bit_same q b x)
    ∙ ap (λ n. cond b 1 0 + 2 * n) (register_blind qs q b x (ap (is_listed qs) (sym at) ∙ apart.0))
    ∙ sym (low_with_bit b (is_set p x) (register_row qs x))
register_row-with_bit (p ∷ qs) (suc j) q b x apart at =
    let other : p ≢ q = λ is. clash (sym (is_at_listed qs j q at) ∙ ap (is_listed qs) (sym is) ∙ apart.0) in
    ap (λ c. cond c 1 0 + 2 * register_row qs (with_bit q b x)) (is_set-with_bit_other p q b x other)
    ∙ ap (λ n. cond (is_set p x) 1 0 + 2 * n) (register_row-with_bit qs j q b x (apart.1) at)
    ∙ sym (high_with_bit b (is_set p x) (register_row qs x) j)

entry_absent : (m : Matrix) (b : Bool) → entry m b zero_coefficient zero_coefficient ≡ zero_coefficient
unfolding entry
entry_absent m false = ap (λ c. c ⊕ m.zero_one ⊗ zero_coefficient) (⊗-zero_coefficient m.zero_zero) ∙ ap (λ c. zero_coefficient ⊕ c) (⊗-zero_coefficient m.zero_one) ∙ none
  where
    none : zero_coefficient ⊕ zero_coefficient ≡ zero_coefficient
    none = refl
entry_absent m true = ap (λ c. c ⊕ m.one_one ⊗ zero_coefficient) (⊗-zero_coefficient m.one_zero) ∙ ap (λ c. zero_coefficient ⊕ c) (⊗-zero_coefficient m.one_one) ∙ none
  where
    none : zero_coefficient ⊕ zero_coefficient ≡ zero_coefficient
    none = refl

-- a list that is the gate's at each row stands for the gate's vector
pub register_gate : (qs : List ℕ) (m : Matrix) (j q : ℕ) (xs ys : List Coefficient) → AreDistinct qs → IsAt qs j q
    → ((i : ℕ) → slice_index_or ys i zero_coefficient ≡ entry m (is_set j i) (slice_index_or xs (with_bit j false i) zero_coefficient) (slice_index_or xs (with_bit j true i) zero_coefficient))
    → (x : ℕ) → register_vector qs ys x ≡ gate m q (register_vector qs xs) x
unfolding register_vector gate
register_gate qs m j q xs ys apart at is x = by (within qs x == x) refl
  where
    inside : is_listed qs q ≡ true
    inside = is_at_listed qs j q at

    at_bit : (b : Bool) → register_vector qs xs (with_bit q b x) ≡ cond (within qs (with_bit q b x) == with_bit q b x) (slice_index_or xs (with_bit j b (register_row qs x)) zero_coefficient) zero_coefficient
    at_bit b = ap (λ n. cond (within qs (with_bit q b x) == with_bit q b x) (slice_index_or xs n zero_coefficient) zero_coefficient) (register_row-with_bit qs j q b x apart at)

    same_eq : {a b : ℕ} → a ≡ b → (a == b) ≡ true
    same_eq {a} {b} e = grind arith

    not_eq : {a b : ℕ} → a ≢ b → (a == b) ≡ false
    not_eq {a} {b} e = grind arith

    -- if the row with the bit set has bits of qs alone, so has the row
    back : (b : Bool) → within qs (with_bit q b x) ≡ with_bit q b x → within qs x ≡ x
    back b is = same_row _ _ (λ p. is_set-within qs p x ∙ at_p p (is_listed qs p) refl)
      where
        at_p : (p : ℕ) (t : Bool) → is_listed qs p ≡ t → (is_set p x && is_listed qs p) ≡ is_set p x
        at_p p true e = ap (λ c. is_set p x && c) e ∙ and_true (is_set p x)
        at_p p false e =
            let other : p ≢ q = λ f. clash (sym inside ∙ ap (is_listed qs) (sym f) ∙ e) in
            ap (λ c. is_set p x && c) e ∙ and_false (is_set p x)
            ∙ sym (sym (is_set-with_bit_other p q b x other) ∙ ap (is_set p) (sym is) ∙ is_set-within qs p (with_bit q b x) ∙ ap (λ c. is_set p (with_bit q b x) && c) e ∙ and_false (is_set p (with_bit q b x)))

    by : (t : Bool) → (within qs x == x) ≡ t
        → cond (within qs x == x) (slice_index_or ys (register_row qs x) zero_coefficient) zero_coefficient
        ≡ entry m (is_set q x) (register_vector qs xs (with_bit q false x)) (register_vector qs xs (with_bit q true x))
    by true e =
        let at_x : within qs x ≡ x = grind arith in
        let row = λ (b : Bool).
        let e : (within qs (with_bit q b x) == with_bit q b x) ≡ true = same_eq (within-with_bit_inside qs q b x inside ∙ ap (with_bit q b) at_x) in
        at_bit b ∙ ap (λ t. cond t (slice_index_or xs (with_bit j b (register_row qs x)) zero_coefficient) zero_coefficient) e in
        ap (λ t. cond t (slice_index_or ys (register_row qs x) zero_coefficient) zero_coefficient) e
        ∙ is (register_row qs x)
        ∙ ap (λ t. entry m t (slice_index_or xs (with_bit j false (register_row qs x)) zero_coefficient) (slice_index_or xs (with_bit j true (register_row qs x)) zero_coefficient)) (register_bit qs j q x at)
        ∙ ap (λ c. entry m (is_set q x) c (slice_index_or xs (with_bit j true (register_row qs x)) zero_coefficient)) (sym (row false))
        ∙ ap (λ c. entry m (is_set q x) (register_vector qs xs (with_bit q false x)) c) (sym (row true))
    by false e =
        let out : within qs x ≢ x = λ is. grind arith in
        let row = λ (b : Bool).
        let e : (within qs (with_bit q b x) == with_bit q b x) ≡ false = not_eq (λ is. out (back b is)) in
        ap (λ t. cond t (slice_index_or xs (register_row qs (with_bit q b x)) zero_coefficient) zero_coefficient) e in
        ap (λ t. cond t (slice_index_or ys (register_row qs x) zero_coefficient) zero_coefficient) e
        ∙ sym (entry_absent m (is_set q x))
        ∙ ap (λ c. entry m (is_set q x) c zero_coefficient) (sym (row false))
        ∙ ap (λ c. entry m (is_set q x) (register_vector qs xs (with_bit q false x)) c) (sym (row true))
