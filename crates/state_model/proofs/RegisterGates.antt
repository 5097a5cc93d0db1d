-- Gates on a register's list, row by row, make the list of the gate's vector.
use Prim.Native.Nat.{zero, suc}
use Rattle.std.proofs.Common.{◌≡◌, ◌≢◌, ℕ, ◌<◌, ◌==◌, Bool, true, false, not, cond, List, [], ◌∷◌, length, slice_index_or, refl, sym, ap, ◌∙◌, arith}
use Rattle.state_model.specs.Coefficient.{Coefficient, zero_coefficient, negated}
use Rattle.state_model.specs.CoefficientList.{at}
use Rattle.state_model.specs.Row.{is_set, with_bit, turned, is_listed, within}
use Rattle.state_model.specs.Gate.{Matrix, gate, controlled_not, controlled_phase, two_gate}
use Rattle.state_model.specs.declared.Two.{Two}
use Rattle.state_model.specs.declared.Two.TheVariants.{Cnot, Cphase}
use Rattle.state_model.specs.Registers.{register_row, register_vector}
use Rattle.state_model.specs.Amplitudes.{Amplitudes, vector_of, qubit_at, AreDistinct, HasRows, IsGateList, IsTwoGateList}
use Rattle.state_model.proofs.Booleans.{eq_of, ne_of}
use Rattle.state_model.proofs.RowLaws.{same_row, is_set-turned_same, is_set-turned_other, is_set-with_bit_same, is_set-with_bit_other, within-with_bit_inside}
use Rattle.state_model.proofs.Gates.{with_bit_again, with_own_bit}
use Rattle.state_model.proofs.Registers.{IsAt, register_bit, register_row-with_bit, register_gate, is_at_listed}
use Rattle.state_model.proofs.RegisterSums.{vector-within}
use Rattle.state_model.proofs.RegisterLists.{vector-outside}

-- the qubit at a place of the list stands there
pub at_place : (qs : List ℕ) (j : ℕ) → j < length qs → IsAt qs j (slice_index_or qs j 0)
at_place [] j l = absurd (omega arith)
at_place (q ∷ qs) zero l = refl
at_place (q ∷ qs) (suc j) l = at_place qs j (omega arith)

-- a list that is the gate's row by row stands for the gate's vector
pub gate_list : (a : Amplitudes) (m : Matrix) (j : ℕ) (ys : List Coefficient) → HasRows a → j < length a.qubits → IsGateList m j a.list ys → (x : ℕ) → register_vector a.qubits ys x ≡ gate m (qubit_at a j) (vector_of a) x
gate_list a m j ys rows l is = register_gate a.qubits m j (qubit_at a j) a.list ys rows.distinct (at_place a.qubits j l) is

-- turning a bit is setting it to the other value
turned_is : (q x : ℕ) → turned q x ≡ with_bit q (not (is_set q x)) x
turned_is q x = same_row _ _ (λ p. by p (p == q) refl)
  where
    by : (p : ℕ) (t : Bool) → (p == q) ≡ t → is_set p (turned q x) ≡ is_set p (with_bit q (not (is_set q x)) x)
    by p true e = ap (λ n. is_set n (turned q x)) (eq_of p q e) ∙ is_set-turned_same q x ∙ sym (ap (λ n. is_set n (with_bit q (not (is_set q x)) x)) (eq_of p q e) ∙ is_set-with_bit_same q (not (is_set q x)) x)
    by p false e = is_set-turned_other p q x (ne_of p q e) ∙ sym (is_set-with_bit_other p q (not (is_set q x)) x (ne_of p q e))

register_row-turned : (qs : List ℕ) (j q x : ℕ) → AreDistinct qs → IsAt qs j q → register_row qs (turned q x) ≡ turned j (register_row qs x)
register_row-turned qs j q x apart at =
    ap (register_row qs) (turned_is q x) ∙ register_row-with_bit qs j q (not (is_set q x)) x apart at
    ∙ ap (λ b. with_bit j (not b) (register_row qs x)) (sym (register_bit qs j q x at)) ∙ sym (turned_is j (register_row qs x))

within-turned : (g : List ℕ) (q x : ℕ) → is_listed g q ≡ true → within g x ≡ x → within g (turned q x) ≡ turned q x
within-turned g q x inside is = ap (within g) (turned_is q x) ∙ within-with_bit_inside g q (not (is_set q x)) x inside ∙ ap (with_bit q (not (is_set q x))) is ∙ sym (turned_is q x)

turned_twice : (q x : ℕ) → turned q (turned q x) ≡ x
turned_twice q x = ap (λ y. turned q y) (turned_is q x) ∙ turned_is q (with_bit q (not (is_set q x)) x) ∙ ap (λ b. with_bit q (not b) (with_bit q (not (is_set q x)) x)) (is_set-with_bit_same q (not (is_set q x)) x) ∙ with_bit_again q (not (not (is_set q x))) (not (is_set q x)) x ∙ ap (λ b. with_bit q b x) (twice (is_set q x)) ∙ with_own_bit q x
  where
    twice : (b : Bool) → not (not b) ≡ b
    twice true = refl
    twice false = refl

outside-turned : (g : List ℕ) (q x : ℕ) → is_listed g q ≡ true → within g x ≢ x → within g (turned q x) ≢ turned q x
outside-turned g q x inside out is = out (ap (within g) (sym (turned_twice q x)) ∙ within-turned g q (turned q x) inside is ∙ turned_twice q x)

cnot_list : (qs : List ℕ) (i j p q : ℕ) (xs ys : List Coefficient) → AreDistinct qs → IsAt qs i p → IsAt qs j q
    → ((r : ℕ) → at ys r ≡ at xs (cond (is_set i r) (turned j r) r)) → (x : ℕ) → register_vector qs ys x ≡ controlled_not p q (register_vector qs xs) x
unfolding controlled_not
cnot_list qs i j p q xs ys apart at_p at_q same x = by (is_set p x) refl (within qs x == x) refl
  where
    listed : is_listed qs q ≡ true
    listed = is_at_listed qs j q at_q

    by : (s : Bool) → is_set p x ≡ s → (t : Bool) → (within qs x == x) ≡ t → register_vector qs ys x ≡ register_vector qs xs (cond (is_set p x) (turned q x) x)
    by true e true f =
        let is = eq_of _ _ f in
        vector-within qs ys x is ∙ same (register_row qs x) ∙ ap (λ b. at xs (cond b (turned j (register_row qs x)) (register_row qs x))) (register_bit qs i p x at_p ∙ e)
        ∙ ap (at xs) (sym (register_row-turned qs j q x apart at_q)) ∙ sym (vector-within qs xs (turned q x) (within-turned qs q x listed is)) ∙ ap (λ b. register_vector qs xs (cond b (turned q x) x)) (sym e)
    by false e true f =
        let is = eq_of _ _ f in
        vector-within qs ys x is ∙ same (register_row qs x) ∙ ap (λ b. at xs (cond b (turned j (register_row qs x)) (register_row qs x))) (register_bit qs i p x at_p ∙ e)
        ∙ sym (vector-within qs xs x is) ∙ ap (λ b. register_vector qs xs (cond b (turned q x) x)) (sym e)
    by true e false f =
        let out = ne_of _ _ f in
        vector-outside qs ys x out ∙ sym (vector-outside qs xs (turned q x) (outside-turned qs q x listed out)) ∙ ap (λ b. register_vector qs xs (cond b (turned q x) x)) (sym e)
    by false e false f =
        let out = ne_of _ _ f in
        vector-outside qs ys x out ∙ sym (vector-outside qs xs x out) ∙ ap (λ b. register_vector qs xs (cond b (turned q x) x)) (sym e)

phase_list : (qs : List ℕ) (i j p q : ℕ) (xs ys : List Coefficient) → IsAt qs i p → IsAt qs j q
    → ((r : ℕ) → at ys r ≡ cond (is_set i r) (cond (is_set j r) (negated (at xs r)) (at xs r)) (at xs r)) → (x : ℕ) → register_vector qs ys x ≡ controlled_phase p q (register_vector qs xs) x
unfolding controlled_phase
phase_list qs i j p q xs ys at_p at_q same x = by (within qs x == x) refl
  where
    fixed : (s t : Bool) → zero_coefficient ≡ cond s (cond t (negated zero_coefficient) zero_coefficient) zero_coefficient
    fixed true true = refl
    fixed true false = refl
    fixed false t = refl

    by : (t : Bool) → (within qs x == x) ≡ t → register_vector qs ys x ≡ cond (is_set p x) (cond (is_set q x) (negated (register_vector qs xs x)) (register_vector qs xs x)) (register_vector qs xs x)
    by true f =
        let is = eq_of _ _ f in
        vector-within qs ys x is ∙ same (register_row qs x)
        ∙ ap (λ b. cond b (cond (is_set j (register_row qs x)) (negated (at xs (register_row qs x))) (at xs (register_row qs x))) (at xs (register_row qs x))) (register_bit qs i p x at_p)
        ∙ ap (λ b. cond (is_set p x) (cond b (negated (at xs (register_row qs x))) (at xs (register_row qs x))) (at xs (register_row qs x))) (register_bit qs j q x at_q)
        ∙ ap (λ z. cond (is_set p x) (cond (is_set q x) (negated z) z) z) (sym (vector-within qs xs x is))
    by false f =
        let out = ne_of _ _ f in
        vector-outside qs ys x out ∙ fixed (is_set p x) (is_set q x) ∙ ap (λ z. cond (is_set p x) (cond (is_set q x) (negated z) z) z) (sym (vector-outside qs xs x out))

-- a list that is the gate's of two qubits row by row stands for the gate's vector
pub two_gate_list : (a : Amplitudes) (k : Two) (i j : ℕ) (ys : List Coefficient) → HasRows a → i < length a.qubits → j < length a.qubits → IsTwoGateList k i j a.list ys → (x : ℕ) → register_vector a.qubits ys x ≡ two_gate k (qubit_at a i) (qubit_at a j) (vector_of a) x
unfolding two_gate
two_gate_list a Cnot i j ys rows l m is = cnot_list a.qubits i j (qubit_at a i) (qubit_at a j) a.list ys rows.distinct (at_place a.qubits i l) (at_place a.qubits j m) is
two_gate_list a Cphase i j ys rows l m is = phase_list a.qubits i j (qubit_at a i) (qubit_at a j) a.list ys (at_place a.qubits i l) (at_place a.qubits j m) is
