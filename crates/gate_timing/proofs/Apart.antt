-- Registers without a common qubit, qubit by qubit.
use Rattle.std.proofs.Common.{◌≡◌, ℕ, suc, ◌<◌, ◌==◌, ◌||◌, Bool, true, false, [], ◌∷◌, List, length, slice_index_or, refl, sym, ap, subst, ◌∙◌, arith}
use Rattle.state_model.specs.Row.{is_listed}
use Rattle.state_model.proofs.Booleans.{eq_of, clash}

-- where each of a list's numbers is missing in another list, every listed number is
pub each_missing : (qs ps : List ℕ) → ((k : ℕ) → k < length qs → is_listed ps (slice_index_or qs k 0) ≡ false) → (q : ℕ) → is_listed qs q ≡ true → is_listed ps q ≡ false
unfolding is_listed
each_missing [] ps each q h = absurd (clash (sym h))
each_missing (p ∷ qs) ps each q h = by (p == q) refl (λ (m : is_listed qs q ≡ true). each_missing qs ps (λ k l. each (suc k) (omega arith)) q m)
  where
    by : (b : Bool) → (p == q) ≡ b → (is_listed qs q ≡ true → is_listed ps q ≡ false) → is_listed ps q ≡ false
    by true e later = subst (λ (n : ℕ). is_listed ps n ≡ false) (eq_of p q e) (each 0 (omega arith))
    by false e later = later (sym (ap (λ b. b || is_listed qs q) e) ∙ h)
