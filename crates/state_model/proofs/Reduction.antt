-- When a vector that was divided by a common divisor is reduced.
use Rattle.std.proofs.Common.{◌≡◌, ◌≢◌, ℕ, suc, zero, sym, ap, subst, ◌∙◌, List}
use Rattle.state_model.specs.Coefficient.{Coefficient, zero_coefficient, one_coefficient, ◌⊗◌}
use Rattle.state_model.specs.Divisors.{Divides, delta, delta_power, IsDeltaPower}
use Rattle.state_model.specs.CoefficientList.{at, DividesAll, IsReduced}
use Rattle.state_model.proofs.Ring.{⊗_comm, ⊗_assoc}
use Rattle.state_model.proofs.SameStates.{⊗-cancel}
use Rattle.state_model.proofs.Euclid.{one-⊗, divides_trans}

-- the quotients by a greatest common divisor
pub quotients_reduced : (vs qs : List Coefficient) (g : Coefficient) → g ≢ zero_coefficient → ((u : Coefficient) → DividesAll u vs → Divides u g) → ((i : ℕ) → at vs i ≡ at qs i ⊗ g) → IsReduced qs
quotients_reduced vs qs g h k e u d =
    let f : Divides (u ⊗ g) g = k (u ⊗ g) (λ i. carried i) in
    (f.0, ⊗-cancel g one_coefficient (f.0 ⊗ u) h (one-⊗ g ∙ f.1 ∙ sym (⊗_assoc (f.0) u g)))
  where
    carried : (i : ℕ) → Divides (u ⊗ g) (at vs i)
    carried i = let c : Divides u (at qs i) = d i in (c.0, e i ∙ ap (λ (t : Coefficient). t ⊗ g) (c.1) ∙ ⊗_assoc (c.0) u g)

-- where all common divisors are units times powers of 1 - w, and 1 - w isn't one
pub delta_free_reduced : (vs : List Coefficient) → ((u : Coefficient) → DividesAll u vs → IsDeltaPower u) → (DividesAll delta vs → ⊥) → IsReduced vs
delta_free_reduced vs h n u d = by_power (h u d)
  where
    by_power : IsDeltaPower u → Divides u one_coefficient
    by_power p = go p.power p.factor p.is_unit p.value
      where
        go : (j : ℕ) (t : Coefficient) → Divides t one_coefficient → u ≡ t ⊗ delta_power j → Divides u one_coefficient
        go zero t k e = subst (λ (x : Coefficient). Divides x one_coefficient) (sym (e ∙ ⊗_comm t one_coefficient ∙ one-⊗ t)) k
        go (suc j) t k e = absurd (n (λ i. divides_trans delta u (at vs i) ((t ⊗ delta_power j), e ∙ sym (⊗_assoc t (delta_power j) delta)) (d i)))
