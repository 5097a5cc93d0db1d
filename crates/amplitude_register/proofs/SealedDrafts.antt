-- A draft that was divided, and then sealed.
use Rattle.std.proofs.Common.{◌≡◌, ℕ, ◌^◌, ℤ, pos, ◌≤ℤ◌, ◌<ℤ◌, List, length, Result, Ok, Err, MatchResult, sym, ap, subst, ◌∙◌, arith}
use Rattle.state_model.specs.Coefficient.{Coefficient, one_coefficient, ◌⊗◌}
use Rattle.state_model.specs.CoefficientList.{at, IsReduced, IsScaled, IsProportional, IsNonzero, IsLeastSize, HasDeltaDivisors, total_weight}
use Rattle.state_model.specs.StateVector.{IsSameState}
use Rattle.state_model.specs.Amplitudes.{Amplitudes, vector_of}
use Rattle.state_model.proofs.Domain.{⊗-zero_coefficient}
use Rattle.state_model.proofs.Euclid.{one-⊗}
use Rattle.state_model.proofs.Inequalities.{order}
use Rattle.state_model.proofs.RegisterLists.{scaled_same}
use Rattle.state_model.proofs.RegisterSizes.{scaled_trans}
use Rattle.state_model.proofs.Ring.{⊗_comm, ⊗_assoc}
use Rattle.amplitude_register.specs.States.{draft, prepared, RegisterState, IsDraft, next_value, IsSealed, IsRefused, CanReduce}
use Rattle.amplitude_register.specs.Held.{next_of}
use Rattle.amplitude_register.specs.declared.block.Stage.{Stage}
use Rattle.amplitude_register.specs.declared.register.Reduce.{Reduce}
use Rattle.amplitude_register.specs.declared.register.Reduce.TheVariants.{Full}
use Rattle.amplitude_register.proofs.Fields.{state, open_state, open_value}

pub full_small : (r : Reduce) (list : List Coefficient) → r ≡ Full → CanReduce r list → (total_weight list).x <ℤ pos (2 ^ 60)
full_small r list e h = subst (λ (t : Reduce). CanReduce t list) e h

-- a reduced list's common divisors are units
pub reduced_delta : (vs : List Coefficient) → IsReduced vs → HasDeltaDivisors vs
reduced_delta vs h u d = record { power = 0; factor = u; is_unit = h u d; value = sym (⊗_comm u one_coefficient ∙ one-⊗ u) }

-- a list of which one that isn't zero is a multiple
pub scaled_nonzero : (us vs : List Coefficient) → IsScaled us vs → IsNonzero vs → IsNonzero us
scaled_nonzero us vs h (i, n) = (i, λ e. n (h.value i ∙ ap (λ (t : Coefficient). h.factor ⊗ t) e ∙ ⊗-zero_coefficient h.factor))

-- ---- a draft that another list took the place of
pub draft_after : (o : RegisterState) (l : ℕ) (v : Amplitudes) (s : Stage) (a n : Amplitudes) → state l v (next_of s a) ≡ o → IsDraft o.next → n.qubits ≡ a.qubits → state l v (draft n) ≡ record o { next = draft record { qubits = (next_value o.next).qubits; list = n.list } }
draft_after o l v s a n e p q =
    subst (λ (t : RegisterState). state l v (draft n) ≡ record t { next = draft record { qubits = (next_value t.next).qubits; list = n.list } }) (open_state o l v s a e p)
    (ap (λ (t : List ℕ). state l v (draft record { qubits = t; list = n.list })) q)

pub open_length : (o : RegisterState) (l : ℕ) (v : Amplitudes) (s : Stage) (a : Amplitudes) → state l v (next_of s a) ≡ o → IsDraft o.next → (xs : List Coefficient) → length xs ≡ length a.list → length xs ≡ length (next_value o.next).list
open_length o l v s a e p xs h = h ∙ sym (ap (λ (t : Amplitudes). length t.list) (open_value o l v s a e p))

pub open_small : (n : ℕ) (o : RegisterState) (l : ℕ) (v : Amplitudes) (s : Stage) (a : Amplitudes) → state l v (next_of s a) ≡ o → IsDraft o.next → (total_weight (next_value o.next).list).x <ℤ pos n → (total_weight a.list).x <ℤ pos n
open_small n o l v s a e p h = subst (λ (t : Amplitudes). (total_weight t.list).x <ℤ pos n) (open_value o l v s a e p) h

-- ---- what is sealed after a division
scaled_proportional : (us vs : List Coefficient) → IsScaled us vs → IsProportional us vs
scaled_proportional us vs h i j = ap (λ (t : Coefficient). at us i ⊗ t) (h.value j) ∙ turn (at us i) h.factor (at us j) ∙ ap (λ (t : Coefficient). t ⊗ at us j) (sym (h.value i))
  where
    turn : (x f y : Coefficient) → x ⊗ (f ⊗ y) ≡ (f ⊗ x) ⊗ y
    turn x f y = sym (⊗_assoc x f y) ∙ ap (λ (t : Coefficient). t ⊗ y) (⊗_comm x f)

-- a small vector's least size is small
pub least_small : (us vs : List Coefficient) (n : ℤ) → length vs ≡ length us → IsScaled us vs → IsNonzero vs → (total_weight vs).x <ℤ pos (2 ^ 60) → IsLeastSize us n → pos (2 ^ 60) ≤ℤ n → ⊥
least_small us vs n e h some small least large = apart n (total_weight vs).x (least.least vs e (scaled_proportional us vs h) some) small large
  where
    apart : (n x : ℤ) → n ≤ℤ x → x <ℤ pos (2 ^ 60) → pos (2 ^ 60) ≤ℤ n → ⊥
    apart n x h k l = omega (arith, order)

pub sealed_after : {A E : Type 0} (size : E → ℤ) (old mid new : RegisterState) (r : Result A E)
    → mid ≡ record old { next = draft record { qubits = (next_value old.next).qubits; list = (next_value mid.next).list } }
    → length (next_value mid.next).list ≡ length (next_value old.next).list → IsScaled (next_value mid.next).list (next_value old.next).list
    → IsNonzero (next_value old.next).list → (total_weight (next_value old.next).list).x <ℤ pos (2 ^ 60)
    → MatchResult r (λ _. IsSealed mid new) (λ e. IsRefused mid new (size e)) → MatchResult r (λ _. IsSealed old new) (λ e. IsRefused old new (size e))
sealed_after size old mid new (Ok x) after rows scaled some small s = record {
  after = s.after ∙ ap (λ (t : RegisterState). record t { next = prepared record { qubits = (next_value t.next).qubits; list = (next_value new.next).list } }) after;
  scaled = far;
  same = subst (λ (t : List ℕ). IsSameState (vector_of (next_value new.next)) (vector_of record { qubits = t; list = (next_value old.next).list })) numbers
      (scaled_same (next_value new.next).qubits (next_value new.next).list (next_value old.next).list far);
  kept = s.kept;
}
  where
    far : IsScaled (next_value new.next).list (next_value old.next).list
    far = scaled_trans (next_value new.next).list (next_value mid.next).list (next_value old.next).list s.scaled scaled

    numbers : (next_value new.next).qubits ≡ (next_value old.next).qubits
    numbers = ap (λ (t : RegisterState). (next_value t.next).qubits) s.after ∙ ap (λ (t : RegisterState). (next_value t.next).qubits) after
sealed_after size old mid new (Err e) after rows scaled some small s = absurd (least_small (next_value mid.next).list (next_value old.next).list (size e) (sym rows) scaled some small s.least s.large)
