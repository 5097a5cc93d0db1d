-- Steps on a register's rows one after another, and what they stand for.
use Rattle.std.specs.Prelude.{Result, Ok, Err, MatchResult}
use Rattle.std.proofs.Common.{Bool, true, false, cond, ◌≡◌, ◌≢◌, ◌⊎◌, inl, inr, ℕ, ◌*◌, ◌<◌, ℤ, pos, nat_abs, List, length, refl, sym, ap, subst, ◌∙◌, arith}
use mathlib.Core.Path.{fun_ext}
use Rattle.state_model.specs.Row.{is_set, with_bit}
use Rattle.state_model.proofs.Gates.{with_own_bit}
use Rattle.state_model.proofs.Euclid.{one-⊗}
use Rattle.state_model.specs.Coefficient.{Coefficient, zero_coefficient, one_coefficient, ◌⊗◌, root, Weight, scaled}
use Rattle.state_model.specs.CoefficientList.{at, total_weight, IsNonzero, HasDeltaDivisors}
use Rattle.state_model.specs.StateVector.{Vector, IsSameState, IsSize}
use Rattle.state_model.specs.Gate.{Matrix, matrix, entry, gate}
use Rattle.state_model.specs.Undo.{product, scale_of}
use Rattle.state_model.specs.Registers.{register_vector}
use Rattle.state_model.specs.Amplitudes.{Amplitudes, vector_of, qubit_at, HasRows, IsGateList}
use Rattle.state_model.specs.declared.Gate.{Gate}
use Rattle.state_model.specs.declared.Gate.TheVariants.{I, X, Y, Z, T, H, K, RotX, RotY, RotZ}
use Rattle.state_model.proofs.Integers.{mul_assoc_ℤ}
use Rattle.state_model.proofs.Draws.{same_weight}
use Rattle.state_model.proofs.Domain.{⊗-domain, ⊗-zero_coefficient}
use Rattle.state_model.proofs.Ring.{⊗_comm, ⊗_assoc}
use Rattle.state_model.proofs.SameStates.{same_reflexive}
use Rattle.state_model.proofs.RegisterGates.{gate_list}
use Rattle.state_model.proofs.GateLists.{first_row, second_row, gate_lists, gate_delta_divisors, gate_nonzero}
use Rattle.amplitude_register.specs.States.{RegisterState, draft, prepared, next_value, IsNextKept, IsKept, IsGateStep, IsGateSealed, IsSealed, IsRefused}
use Rattle.gate_kernels.specs.Gates.{Kind, drafting, preparing, at_kind, IsMade, IsApplied, IsTooLarge, gate_at}
use Rattle.gate_kernels.proofs.Matrices.{y_entry, back_nonzero}

abbrev value_with : RegisterState → List Coefficient → Amplitudes
value_with o list = record { qubits = o.value.qubits; list = list }

abbrev next_with : Kind → RegisterState → List Coefficient → RegisterState
next_with kind o list = record { limit = o.limit; value = o.value; next = at_kind kind (value_with o list) }

twice_scaled : (s t : ℕ) (w : Weight) → scaled s (scaled t w) ≡ scaled (s * t) w
twice_scaled s t w = same_weight _ _ (sym (mul_assoc_ℤ (pos s) (pos t) w.x)) (sym (mul_assoc_ℤ (pos s) (pos t) w.y))

-- the first step
pub made_first : (kind : Kind) (m : Matrix) (s place : ℕ) (old mid new : RegisterState) → mid ≡ record { limit = old.limit; value = old.value; next = at_kind kind old.value } → IsGateStep m place s mid new → IsMade kind m s place old new
made_first drafting m s place old mid new e step =
    let h = subst (λ (t : RegisterState). IsGateStep m place s t new) e step in
    record { result = (next_value new.next).list; after = h.after; rows = h.rows; list = h.list; weight = h.weight }
made_first preparing m s place old mid new e step =
    let h = subst (λ (t : RegisterState). IsGateStep m place s t new) e step in
    record { result = (next_value new.next).list; after = h.after; rows = h.rows; list = h.list; weight = h.weight }

-- a further step
pub made_next : (kind : Kind) (m n : Matrix) (s t place : ℕ) (old mid new : RegisterState) → IsMade kind n t place old mid → IsGateStep m place s mid new → IsMade kind (product m n) (s * t) place old new
made_next drafting m n s t place old mid new h step =
    let k = subst (λ (r : RegisterState). IsGateStep m place s r new) h.after step in
    record { result = (next_value new.next).list; after = k.after; rows = k.rows ∙ h.rows; list = gate_lists m n place old.value.list h.result (next_value new.next).list h.list k.list; weight = k.weight ∙ ap (scaled s) h.weight ∙ twice_scaled s t (total_weight old.value.list) }
made_next preparing m n s t place old mid new h step =
    let k = subst (λ (r : RegisterState). IsGateStep m place s r new) h.after step in
    record { result = (next_value new.next).list; after = k.after; rows = k.rows ∙ h.rows; list = gate_lists m n place old.value.list h.result (next_value new.next).list h.list k.list; weight = k.weight ∙ ap (scaled s) h.weight ∙ twice_scaled s t (total_weight old.value.list) }

-- ---- what it stands for
same_along : (v u : Vector) → ((x : ℕ) → v x ≡ u x) → IsSameState v u
same_along v u e = subst (λ (w : Vector). IsSameState v w) (fun_ext e) (same_reflexive v)

same_times : (f : Coefficient) (v u : Vector) → f ≢ zero_coefficient → ((x : ℕ) → u x ≡ f ⊗ v x) → IsSameState v u
same_times f v u some e = record {
  rows = λ x. (λ h. e x ∙ ap (λ t. f ⊗ t) h ∙ ⊗-zero_coefficient f, λ h. ⊗-domain f (v x) some (sym (e x) ∙ h));
  ratios = λ x y. ap (λ t. v x ⊗ t) (e y) ∙ swap (v x) (v y) ∙ ap (λ t. v y ⊗ t) (sym (e x));
}
  where
    swap : (p q : Coefficient) → p ⊗ (f ⊗ q) ≡ q ⊗ (f ⊗ p)
    swap p q = sym (⊗_assoc p f q) ∙ ⊗_comm (p ⊗ f) q ∙ ap (λ t. q ⊗ t) (⊗_comm p f)

applied : (g : Gate) (place : ℕ) (old : RegisterState) (list : List Coefficient) → IsSameState (register_vector old.value.qubits list) (gate_at g place old.value) → IsKept (value_with old list) → IsApplied g place old (next_with preparing old list)
applied g place old list same kept = record { after = refl; same = same; kept = kept }

-- a prepared value that is exactly the gate's
pub applied_exactly : (g : Gate) (s place : ℕ) (old new : RegisterState) → HasRows old.value → place < length old.value.qubits → IsMade preparing (matrix g) s place old new → IsNextKept new.next → IsApplied g place old new
applied_exactly g s place old new rows l h k =
    subst (IsApplied g place old) (sym h.after)
    (applied g place old h.result (same_along (register_vector old.value.qubits h.result) (gate_at g place old.value) (gate_list old.value (matrix g) place h.result rows l h.list)) (subst (λ (t : RegisterState). IsNextKept t.next) h.after k).1)

y_vector : (q : ℕ) (v : Vector) (x : ℕ) → gate (matrix Y) q v x ≡ root 6 ⊗ gate (product (matrix (RotZ 4)) (matrix X)) q v x
unfolding gate
y_vector q v x = y_entry _ _ _

-- the exchange and negation stand for Y
pub applied_y : (s place : ℕ) (old new : RegisterState) → HasRows old.value → place < length old.value.qubits → IsMade preparing (product (matrix (RotZ 4)) (matrix X)) s place old new → IsNextKept new.next → IsApplied Y place old new
applied_y s place old new rows l h k =
    subst (IsApplied Y place old) (sym h.after)
    (applied Y place old h.result
    (same_times (root 6) (register_vector old.value.qubits h.result) (gate_at Y place old.value) back_nonzero
    (λ x. y_vector (qubit_at old.value place) (vector_of old.value) x ∙ ap (λ t. root 6 ⊗ t) (sym (gate_list old.value (product (matrix (RotZ 4)) (matrix X)) place h.result rows l h.list x))))
    (subst (λ (t : RegisterState). IsNextKept t.next) h.after k).1)

-- ---- sealing
pub seal_nonzero : (g : Gate) (s place : ℕ) (old mid : RegisterState) → IsKept old.value → IsMade drafting (matrix g) s place old mid → IsNonzero (next_value mid.next).list
seal_nonzero g s place old mid kept h = let n = kept.normal in subst (λ (t : RegisterState). IsNonzero (next_value t.next).list) (sym h.after) (gate_nonzero g place old.value.list h.result h.list n.reduced)

pub seal_divisors : (g : Gate) (s place : ℕ) (old mid : RegisterState) → IsKept old.value → IsMade drafting (matrix g) s place old mid → HasDeltaDivisors (next_value mid.next).list
seal_divisors g s place old mid kept h = let n = kept.normal in subst (λ (t : RegisterState). HasDeltaDivisors (next_value t.next).list) (sym h.after) (gate_delta_divisors g place old.value.list h.result h.list n.reduced)

pub sealed_applied : (g : Gate) (s place : ℕ) (old mid new : RegisterState) → HasRows old.value → place < length old.value.qubits → IsMade drafting (matrix g) s place old mid → IsSealed mid new → IsApplied g place old new
sealed_applied g s place old mid new rows l h sealed =
    let k = subst (λ (t : RegisterState). IsSealed t new) h.after sealed in
    record {
      after = k.after;
      same = subst (λ (w : Vector). IsSameState (vector_of (next_value new.next)) w) (fun_ext (gate_list old.value (matrix g) place h.result rows l h.list)) k.same;
      kept = k.kept;
    }

pub refused_large : (g : Gate) (s place : ℕ) (old mid new : RegisterState) (size : ℤ) → HasRows old.value → place < length old.value.qubits → IsMade drafting (matrix g) s place old mid → IsRefused mid new size → IsTooLarge g place old new size
refused_large g s place old mid new size rows l h refused =
    let k = subst (λ (t : RegisterState). IsRefused t new size) h.after refused in
    record {
      after = k.after;
      size_is = subst (λ (w : Vector). IsSize w old.value.qubits (nat_abs size)) (fun_ext (gate_list old.value (matrix g) place h.result rows l h.list)) k.size_is;
      large = k.large;
    }

-- as another matrix that is the same
pub made_as : (kind : Kind) (m n : Matrix) (s place : ℕ) (old new : RegisterState) → m ≡ n → IsMade kind m s place old new → IsMade kind n s place old new
made_as kind m n s place old new e h = subst (λ (t : Matrix). IsMade kind t s place old new) e h

-- ---- gates that are others
same_entry : (b : Bool) (y z : Coefficient) → cond b z y ≡ entry (matrix I) b y z
unfolding entry matrix
same_entry false y z = sym (first_row y z)
same_entry true y z = sym (second_row one_coefficient y z ∙ one-⊗ z)

same_list : (place : ℕ) (xs : List Coefficient) → IsGateList (matrix I) place xs xs
same_list place xs row = by (is_set place row) refl ∙ same_entry (is_set place row) (at xs (with_bit place false row)) (at xs (with_bit place true row))
  where
    by : (b : Bool) → is_set place row ≡ b → at xs row ≡ cond (is_set place row) (at xs (with_bit place true row)) (at xs (with_bit place false row))
    by true e = ap (at xs) (sym (with_own_bit place row) ∙ ap (λ t. with_bit place t row) e) ∙ ap (λ t. cond t (at xs (with_bit place true row)) (at xs (with_bit place false row))) (sym e)
    by false e = ap (at xs) (sym (with_own_bit place row) ∙ ap (λ t. with_bit place t row) e) ∙ ap (λ t. cond t (at xs (with_bit place true row)) (at xs (with_bit place false row))) (sym e)

-- a copy stands for I
pub applied_same : (place : ℕ) (old new : RegisterState) → HasRows old.value → IsKept old.value → place < length old.value.qubits → new ≡ record { limit = old.limit; value = old.value; next = prepared old.value } → IsApplied I place old new
applied_same place old new rows kept l e =
    subst (IsApplied I place old) (sym e) (applied I place old old.value.list (same_along (vector_of old.value) (gate_at I place old.value) (gate_list old.value (matrix I) place old.value.list rows l (same_list place old.value.list))) kept)

pub z_matrix : matrix (RotZ 4) ≡ matrix Z
unfolding matrix root
z_matrix = refl

pub t_matrix : matrix (RotZ 1) ≡ matrix T
unfolding matrix
t_matrix = refl

-- what a sealed draft answers
pub sealed_answer : {A E : Type 0} (size : E → ℤ) (g : Gate) (s place : ℕ) (old mid new : RegisterState) (r : Result A E) → HasRows old.value → place < length old.value.qubits → IsMade drafting (matrix g) s place old mid
    → MatchResult r (λ (x : A). IsSealed mid new) (λ (e : E). IsRefused mid new (size e)) → MatchResult r (λ (x : A). IsApplied g place old new) (λ (e : E). IsTooLarge g place old new (size e))
sealed_answer size g s place old mid new (Ok x) rows l made seal = sealed_applied g s place old mid new rows l made seal
sealed_answer size g s place old mid new (Err e) rows l made seal = refused_large g s place old mid new (size e) rows l made seal

-- ---- gates that add rows up
pub mixed_scale : (g : Gate) → (g ≡ H) ⊎ ((g ≡ K) ⊎ (((k : ℕ) × (g ≡ RotX k)) ⊎ ((k : ℕ) × (g ≡ RotY k)))) → scale_of g ≢ 1
unfolding scale_of
mixed_scale g (inl e) s = absurd (let f : 2 ≡ 1 = sym (ap scale_of e) ∙ s in omega arith)
mixed_scale g (inr (inl e)) s = absurd (let f : 2 ≡ 1 = sym (ap scale_of e) ∙ s in omega arith)
mixed_scale g (inr (inr (inl e))) s = absurd (let f : 4 ≡ 1 = sym (ap scale_of (e.1)) ∙ s in omega arith)
mixed_scale g (inr (inr (inr e))) s = absurd (let f : 4 ≡ 1 = sym (ap scale_of (e.1)) ∙ s in omega arith)

-- the same for a gate that is h
pub sealed_as : {A E : Type 0} (size : E → ℤ) (g h : Gate) (s place : ℕ) (old mid new : RegisterState) (r : Result A E) → g ≡ h → HasRows old.value → place < length old.value.qubits → IsMade drafting (matrix h) s place old mid
    → MatchResult r (λ (x : A). IsSealed mid new) (λ (e : E). IsRefused mid new (size e)) → MatchResult r (λ (x : A). IsApplied g place old new) (λ (e : E). IsTooLarge g place old new (size e))
sealed_as size g h s place old mid new r is rows l made seal = sealed_answer size g s place old mid new r rows l (made_as drafting _ _ s place old mid (ap matrix (sym is)) made) seal

-- H on a register's value in one call
pub mixed_answer : {A E : Type 0} (size : E → ℤ) (g : Gate) (place : ℕ) (old new : RegisterState) (r : Result A E) → g ≡ H → HasRows old.value → place < length old.value.qubits
    → IsGateSealed (matrix H) place 2 old (λ middle. MatchResult r (λ (x : A). IsSealed middle new) (λ (e : E). IsRefused middle new (size e))) → MatchResult r (λ (x : A). IsApplied g place old new) (λ (e : E). IsTooLarge g place old new (size e))
mixed_answer size g place old new r is rows l h = sealed_as size g H 2 place old h.middle new r is rows l (made_first drafting (matrix H) 2 place old record old { next = draft old.value } h.middle refl h.step) h.ended

-- ---- gates that only move, negate or turn rows
pub moved_scale : (g : Gate) → (g ≡ I) ⊎ ((g ≡ X) ⊎ ((g ≡ Y) ⊎ ((g ≡ Z) ⊎ ((g ≡ T) ⊎ ((k : ℕ) × (g ≡ RotZ k)))))) → scale_of g ≡ 1
unfolding scale_of
moved_scale g (inl e) = ap scale_of e
moved_scale g (inr (inl e)) = ap scale_of e
moved_scale g (inr (inr (inl e))) = ap scale_of e
moved_scale g (inr (inr (inr (inl e)))) = ap scale_of e
moved_scale g (inr (inr (inr (inr (inl e))))) = ap scale_of e
moved_scale g (inr (inr (inr (inr (inr h))))) = ap scale_of (h.1)

-- a copy is what the one of them that changes nothing makes
pub copied : (g : Gate) (place : ℕ) (old new : RegisterState) → (g ≡ I) ⊎ ((g ≡ H) ⊎ ((g ≡ K) ⊎ (((k : ℕ) × (g ≡ RotX k)) ⊎ ((k : ℕ) × (g ≡ RotY k))))) → IsApplied I place old new → scale_of g ≡ 1 → IsApplied g place old new
copied g place old new (inl e) h s = subst (λ (t : Gate). IsApplied t place old new) (sym e) h
copied g place old new (inr mixed) h s = absurd (mixed_scale g mixed s)
