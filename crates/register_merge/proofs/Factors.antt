-- Products with the coefficients of a basis state.
use Rattle.std.proofs.Common.{◌≡◌, sym, ap, ◌∙◌}
use Rattle.state_model.specs.Coefficient.{Coefficient, zero_coefficient, one_coefficient, ◌⊗◌}
use Rattle.state_model.proofs.Ring.{⊗_comm}
use Rattle.state_model.proofs.Domain.{⊗-zero_coefficient}
use Rattle.state_model.proofs.Euclid.{one-⊗}

pub times_zero : (z u : Coefficient) → u ≡ zero_coefficient → u ≡ z ⊗ u
times_zero z u e = e ∙ sym (ap (λ (t : Coefficient). z ⊗ t) e ∙ ⊗-zero_coefficient z)

pub times_one : (z u : Coefficient) → u ≡ one_coefficient → z ≡ z ⊗ u
times_one z u e = sym (ap (λ (t : Coefficient). z ⊗ t) e ∙ ⊗_comm z one_coefficient ∙ one-⊗ z)
