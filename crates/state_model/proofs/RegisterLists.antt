-- Vectors over a register's qubits and their lists: each such vector has one, and lists are multiples where the vectors are the same.
use Prim.Native.Nat.{zero, suc}
use Rattle.std.proofs.Common.{◌≡◌, ◌≢◌, ℕ, ◌+◌, ◌*◌, ◌/◌, ◌%◌, ◌<◌, ◌≤◌, ◌^◌, ◌==◌, Bool, true, false, cond, ◌||◌, ◌⊎◌, ⊎_elim, inl, inr, pos, List, [], ◌∷◌, length, refl, sym, ap, subst, ◌∙◌, arith}
use Rattle.std.proofs.Math.Nat.{pow-succ'}
use Rattle.std.proofs.lemmas.Bool.{cases_lt, cases_eq}
use Rattle.std.proofs.lemmas.Nat.Bits.{bit_at_lowest}
use Rattle.state_model.specs.Coefficient.{Coefficient, zero_coefficient, one_coefficient, ◌⊗◌, squares}
use Rattle.state_model.specs.CoefficientList.{at, IsScaled, IsProportional, IsNonzero, IsReduced}
use Rattle.state_model.specs.Row.{is_set, with_bit, is_listed, within}
use Rattle.state_model.specs.StateVector.{Vector, IsSameState, IsOver}
use Rattle.state_model.specs.Registers.{register_row, register_vector}
use Rattle.state_model.specs.Amplitudes.{Amplitudes, vector_of, AreDistinct, HasRows}
use Rattle.state_model.proofs.Booleans.{eq_of, ne_of, eq_false, or_false_left, or_false_right, clash}
use Rattle.state_model.proofs.Domain.{⊗-domain, ⊗-zero_coefficient, zero_coefficient-⊗, no_squares}
use Rattle.state_model.proofs.Ring.{⊗_comm, ⊗_assoc}
use Rattle.state_model.proofs.SameStates.{stable}
use Rattle.state_model.proofs.Parts.{within_all, no_bit_outside}
use Rattle.state_model.proofs.RowLaws.{same_row, is_set-with_bit_same, is_set-with_bit_other, zero_clear}
use Rattle.state_model.proofs.Registers.{lowest, higher, register_blind}
use Rattle.state_model.proofs.RegisterSums.{vector-within}

-- ---- rows of a register and of the network
-- a row by its lowest bit and the rest
pub row_split : (i : ℕ) → cond (is_set 0 i) 1 0 + 2 * (i / 2) ≡ i
unfolding is_set
row_split i = ap (λ n. cond (n == 1) 1 0 + 2 * (i / 2)) (bit_at_lowest i) ∙ ap (λ n. n + 2 * (i / 2)) (by (i % 2) (omega arith)) ∙ omega arith
  where
    by : (n : ℕ) → n < 2 → cond (n == 1) 1 0 ≡ n
    by n h = grind arith

-- the row of the network whose bits of the listed qubits are the bits of a register's row
unfoldable pub network_row : List ℕ → ℕ → ℕ
network_row [] i = 0
network_row (q ∷ qs) i = with_bit q (is_set 0 i) (network_row qs (i / 2))

network_row-clear : (qs : List ℕ) (i p : ℕ) → is_listed qs p ≡ false → is_set p (network_row qs i) ≡ false
unfolding network_row is_listed
network_row-clear [] i p out = zero_clear p
network_row-clear (q ∷ qs) i p out =
    let other = ne_of q p (or_false_left (q == p) (is_listed qs p) out) in
    is_set-with_bit_other p q (is_set 0 i) (network_row qs (i / 2)) (λ e. other (sym e)) ∙ network_row-clear qs (i / 2) p (or_false_right (q == p) (is_listed qs p) out)

pub network_row-over : (qs : List ℕ) (i : ℕ) → within qs (network_row qs i) ≡ network_row qs i
network_row-over qs i = within_all qs (network_row qs i) (network_row-clear qs i)

pub register_row-network : (qs : List ℕ) (i : ℕ) → AreDistinct qs → i < 2 ^ length qs → register_row qs (network_row qs i) ≡ i
unfolding register_row network_row
register_row-network [] i apart l = omega arith
register_row-network (q ∷ qs) i apart l =
    ap (λ b. cond b 1 0 + 2 * register_row qs (network_row (q ∷ qs) i)) (is_set-with_bit_same q (is_set 0 i) (network_row qs (i / 2)))
    ∙ ap (λ n. cond (is_set 0 i) 1 0 + 2 * n) (register_blind qs q (is_set 0 i) (network_row qs (i / 2)) (apart.0) ∙ register_row-network qs (i / 2) (apart.1) (let e = pow-succ' 2 (length qs) in omega arith))
    ∙ row_split i

pub register_row-below : (qs : List ℕ) (x : ℕ) → register_row qs x < 2 ^ length qs
unfolding register_row
register_row-below [] x = omega arith
register_row-below (q ∷ qs) x = let h = register_row-below qs x in let e = pow-succ' 2 (length qs) in by (is_set q x) (register_row qs x) (2 ^ length qs) (2 ^ suc (length qs)) h e
  where
    by : (b : Bool) (r n m : ℕ) → r < n → m ≡ 2 * n → cond b 1 0 + 2 * r < m
    by true r n m h e = omega arith
    by false r n m h e = omega arith

-- a listed qubit has one bit in rows with one row of the register
same_bit : (qs : List ℕ) (x y p : ℕ) → is_listed qs p ≡ true → register_row qs x ≡ register_row qs y → is_set p x ≡ is_set p y
unfolding register_row is_listed
same_bit [] x y p here e = absurd (clash (sym here))
same_bit (q ∷ qs) x y p here e =
    let first : is_set q x ≡ is_set q y = sym (lowest (is_set q x) (register_row qs x)) ∙ ap (is_set 0) e ∙ lowest (is_set q y) (register_row qs y) in
    let rest : register_row qs x ≡ register_row qs y = same_row _ _ (λ j. sym (higher (is_set q x) (register_row qs x) j) ∙ ap (is_set (suc j)) e ∙ higher (is_set q y) (register_row qs y) j) in
    split (q == p) refl first (λ h. same_bit qs x y p h rest)
  where
    split : (t : Bool) → (q == p) ≡ t → is_set q x ≡ is_set q y → (is_listed qs p ≡ true → is_set p x ≡ is_set p y) → is_set p x ≡ is_set p y
    split true f first later = ap (λ n. is_set n x) (sym (eq_of q p f)) ∙ first ∙ ap (λ n. is_set n y) (eq_of q p f)
    split false f first later = later (sym (ap (λ b. b || is_listed qs p) f) ∙ here)

-- two rows of the listed qubits with one row of the register are one
pub same_register_row : (qs : List ℕ) (x y : ℕ) → within qs x ≡ x → within qs y ≡ y → register_row qs x ≡ register_row qs y → x ≡ y
same_register_row qs x y in_x in_y same = same_row x y (λ p. by p (is_listed qs p) refl)
  where
    by : (p : ℕ) (t : Bool) → is_listed qs p ≡ t → is_set p x ≡ is_set p y
    by p true e = same_bit qs x y p e same
    by p false e = no_bit_outside qs x p in_x e ∙ sym (no_bit_outside qs y p in_y e)

-- ---- the list of a vector
-- the list of the values of f below n
unfoldable pub listed : (ℕ → Coefficient) → ℕ → List Coefficient
listed f zero = []
listed f (suc n) = f 0 ∷ listed (λ i. f (suc i)) n

length-listed : (f : ℕ → Coefficient) (n : ℕ) → length (listed f n) ≡ n
unfolding listed
length-listed f zero = refl
length-listed f (suc n) = let e = length-listed (λ i. f (suc i)) n in omega (arith, e)

at-listed : (f : ℕ → Coefficient) (n i : ℕ) → i < n → at (listed f n) i ≡ f i
unfolding listed
at-listed f zero i l = absurd (omega arith)
at-listed f (suc n) zero l = refl
at-listed f (suc n) (suc i) l = at-listed (λ i. f (suc i)) n i (omega arith)

pub at_past : (vs : List Coefficient) (i : ℕ) → length vs ≤ i → at vs i ≡ zero_coefficient
at_past [] i h = refl
at_past (v ∷ vs) zero h = absurd (omega arith)
at_past (v ∷ vs) (suc i) h = at_past vs i (omega arith)

unfoldable pub list_of : List ℕ → Vector → List Coefficient
list_of qs v = listed (λ i. v (network_row qs i)) (2 ^ length qs)

pub length-list_of : (qs : List ℕ) (v : Vector) → length (list_of qs v) ≡ 2 ^ length qs
unfolding list_of
length-list_of qs v = length-listed (λ i. v (network_row qs i)) (2 ^ length qs)

-- outside the rows of the qubits a register's vector is zero
pub vector-outside : (qs : List ℕ) (list : List Coefficient) (x : ℕ) → within qs x ≢ x → register_vector qs list x ≡ zero_coefficient
unfolding register_vector
vector-outside qs list x out = ap (λ b. cond b (at list (register_row qs x)) zero_coefficient) (eq_false _ _ out)

pub vector-over : (qs : List ℕ) (list : List Coefficient) → IsOver qs (register_vector qs list)
vector-over qs list x here = by (within qs x == x) refl
  where
    by : (t : Bool) → (within qs x == x) ≡ t → within qs x ≡ x
    by true e = eq_of _ _ e
    by false e = absurd (here (vector-outside qs list x (ne_of _ _ e)))

-- a vector over the qubits is that of its list
pub list_of-vector : (qs : List ℕ) (v : Vector) → AreDistinct qs → IsOver qs v → (x : ℕ) → v x ≡ register_vector qs (list_of qs v) x
unfolding list_of
list_of-vector qs v apart over x = by (within qs x == x) refl
  where
    by : (t : Bool) → (within qs x == x) ≡ t → v x ≡ register_vector qs (list_of qs v) x
    by true e =
        let is = eq_of _ _ e in
        ap v (same_register_row qs x (network_row qs (register_row qs x)) is (network_row-over qs (register_row qs x)) (sym (register_row-network qs (register_row qs x) apart (register_row-below qs x))))
        ∙ sym (at-listed (λ i. v (network_row qs i)) (2 ^ length qs) (register_row qs x) (register_row-below qs x))
        ∙ sym (vector-within qs (list_of qs v) x is)
    by false e = let out = ne_of _ _ e in stable (v x) zero_coefficient (λ some. out (over x some)) ∙ sym (vector-outside qs (list_of qs v) x out)

-- the entry of a list at the row of the network
pub vector-row : (qs : List ℕ) (list : List Coefficient) (i : ℕ) → AreDistinct qs → i < 2 ^ length qs → register_vector qs list (network_row qs i) ≡ at list i
vector-row qs list i apart l = vector-within qs list (network_row qs i) (network_row-over qs i) ∙ ap (at list) (register_row-network qs i apart l)

-- ---- multiples
pub scaled_same : (qs : List ℕ) (vs us : List Coefficient) → IsScaled vs us → IsSameState (register_vector qs vs) (register_vector qs us)
scaled_same qs vs us h = record {
  rows = λ x. (λ e. value x ∙ ap (λ t. h.factor ⊗ t) e ∙ ⊗-zero_coefficient h.factor, λ e. ⊗-domain h.factor (register_vector qs vs x) h.nonzero (sym (value x) ∙ e));
  ratios = λ x y. ap (λ t. register_vector qs vs x ⊗ t) (value y) ∙ swap (register_vector qs vs x) h.factor (register_vector qs vs y) ∙ ap (λ t. register_vector qs vs y ⊗ t) (sym (value x));
}
  where
    swap : (p f q : Coefficient) → p ⊗ (f ⊗ q) ≡ q ⊗ (f ⊗ p)
    swap p f q = sym (⊗_assoc p f q) ∙ ⊗_comm (p ⊗ f) q ∙ ap (λ t. q ⊗ t) (⊗_comm p f)

    value : (x : ℕ) → register_vector qs us x ≡ h.factor ⊗ register_vector qs vs x
    value x = by (within qs x == x) refl
      where
        by : (t : Bool) → (within qs x == x) ≡ t → register_vector qs us x ≡ h.factor ⊗ register_vector qs vs x
        by true e = let is = eq_of _ _ e in vector-within qs us x is ∙ h.value (register_row qs x) ∙ ap (λ t. h.factor ⊗ t) (sym (vector-within qs vs x is))
        by false e = let out = ne_of _ _ e in vector-outside qs us x out ∙ sym (ap (λ t. h.factor ⊗ t) (vector-outside qs vs x out) ∙ ⊗-zero_coefficient h.factor)

-- equal ratios of the vectors are equal ratios of the lists
pub ratios_proportional : (qs : List ℕ) (vs us : List Coefficient) → AreDistinct qs → length vs ≡ 2 ^ length qs → length us ≡ 2 ^ length qs
    → ((x y : ℕ) → within qs x ≡ x → within qs y ≡ y → register_vector qs vs x ⊗ register_vector qs us y ≡ register_vector qs vs y ⊗ register_vector qs us x) → IsProportional vs us
ratios_proportional qs vs us apart lv lu same i j = ⊎_elim (λ p. ⊎_elim (λ q. both p q) (λ q. right q) (cases_lt j (2 ^ length qs))) (λ p. left p) (cases_lt i (2 ^ length qs))
  where
    both : i < 2 ^ length qs → j < 2 ^ length qs → at vs i ⊗ at us j ≡ at us i ⊗ at vs j
    both p q =
        ap (λ t. t ⊗ at us j) (sym (vector-row qs vs i apart p)) ∙ ap (λ t. register_vector qs vs (network_row qs i) ⊗ t) (sym (vector-row qs us j apart q))
        ∙ same (network_row qs i) (network_row qs j) (network_row-over qs i) (network_row-over qs j)
        ∙ ap (λ t. t ⊗ register_vector qs us (network_row qs i)) (vector-row qs vs j apart q) ∙ ap (λ t. at vs j ⊗ t) (vector-row qs us i apart p)
        ∙ ⊗_comm (at vs j) (at us i)

    left : 2 ^ length qs ≤ i → at vs i ⊗ at us j ≡ at us i ⊗ at vs j
    left p =
        ap (λ t. t ⊗ at us j) (at_past vs i (omega arith)) ∙ zero_coefficient-⊗ (at us j)
        ∙ sym (ap (λ t. t ⊗ at vs j) (at_past us i (omega arith)) ∙ zero_coefficient-⊗ (at vs j))

    right : 2 ^ length qs ≤ j → at vs i ⊗ at us j ≡ at us i ⊗ at vs j
    right q =
        ap (λ t. at vs i ⊗ t) (at_past us j (omega arith)) ∙ ⊗-zero_coefficient (at vs i)
        ∙ sym (ap (λ t. at us i ⊗ t) (at_past vs j (omega arith)) ∙ ⊗-zero_coefficient (at us i))

pub same_proportional : (qs : List ℕ) (vs us : List Coefficient) → AreDistinct qs → length vs ≡ 2 ^ length qs → length us ≡ 2 ^ length qs → IsSameState (register_vector qs vs) (register_vector qs us) → IsProportional vs us
same_proportional qs vs us apart lv lu h = ratios_proportional qs vs us apart lv lu (λ x y in_x in_y. h.ratios x y)

-- lists of one state are proportional
pub same_states : (a b : Amplitudes) → a.qubits ≡ b.qubits → HasRows a → HasRows b → IsSameState (vector_of a) (vector_of b) → IsProportional a.list b.list
same_states a b e h k same = same_proportional a.qubits a.list b.list h.distinct h.rows (k.rows ∙ ap (λ (qs : List ℕ). 2 ^ length qs) (sym e)) (subst (λ (qs : List ℕ). IsSameState (vector_of a) (register_vector qs b.list)) (sym e) same)

-- ---- rows that are not zero
coefficient_zero : (z : Coefficient) → (z ≡ zero_coefficient) ⊎ (z ≢ zero_coefficient)
coefficient_zero z = ⊎_elim (λ e. inl (no_squares z e)) (λ n. inr (λ e. n (ap squares e ∙ unfold squares in refl))) (cases_eq (squares z) 0)

pub some_entry : (vs : List Coefficient) → ¬ ((i : ℕ) → at vs i ≡ zero_coefficient) → IsNonzero vs
some_entry [] none = absurd (none (λ i. refl))
some_entry (v ∷ vs) none = ⊎_elim
    (λ e. let k = some_entry vs (λ all. none (both v vs e all)) in (suc (k.0), k.1))
    (λ some. (0, some))
    (coefficient_zero v)
  where
    both : (v : Coefficient) (vs : List Coefficient) → v ≡ zero_coefficient → ((i : ℕ) → at vs i ≡ zero_coefficient) → (i : ℕ) → at (v ∷ vs) i ≡ zero_coefficient
    both v vs e all zero = e
    both v vs e all (suc i) = all i

pub some_row_entry : (qs : List ℕ) (vs : List Coefficient) → ¬ ((x : ℕ) → register_vector qs vs x ≡ zero_coefficient) → IsNonzero vs
some_row_entry qs vs some = some_entry vs (λ all. some (λ x. by x (all (register_row qs x)) (within qs x == x) refl))
  where
    by : (x : ℕ) → at vs (register_row qs x) ≡ zero_coefficient → (t : Bool) → (within qs x == x) ≡ t → register_vector qs vs x ≡ zero_coefficient
    by x e true f = vector-within qs vs x (eq_of _ _ f) ∙ e
    by x e false f = vector-outside qs vs x (ne_of _ _ f)

pub entry_some_row : (qs : List ℕ) (vs : List Coefficient) → AreDistinct qs → length vs ≡ 2 ^ length qs → IsNonzero vs → ¬ ((x : ℕ) → register_vector qs vs x ≡ zero_coefficient)
entry_some_row qs vs apart l n none = n.1 (⊎_elim (λ p. sym (vector-row qs vs (n.0) apart p) ∙ none (network_row qs (n.0))) (λ p. at_past vs (n.0) (omega arith)) (cases_lt (n.0) (2 ^ length qs)))

pub one_not_zero : one_coefficient ≢ zero_coefficient
one_not_zero e = let f : pos 1 ≡ pos 0 = ap (λ (z : Coefficient). z.a) e in cc

-- a reduced list has an entry other than zero: else zero would divide all
pub reduced_nonzero : (vs : List Coefficient) → IsReduced vs → IsNonzero vs
reduced_nonzero vs h = some_entry vs (λ all. let d = h zero_coefficient (λ i. (zero_coefficient, all i ∙ sym (⊗-zero_coefficient zero_coefficient))) in one_not_zero (d.1 ∙ ⊗-zero_coefficient (d.0)))
