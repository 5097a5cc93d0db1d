-- Quotients that are rounded, what they leave, and greatest common divisors of two coefficients.
use Rattle.std.specs.Prelude.{◌≡◌, ℤ, ◌+ℤ◌, neg_ℤ, ◌≤ℤ◌, ◌<ℤ◌}
use Rattle.state_model.specs.Coefficient.{Coefficient, ◌⊖◌, ◌⊗◌}
use Rattle.state_model.specs.Divisors.{Divides, norm}

-- twice some number
abbrev pub IsEven : ℤ → Type 0
IsEven z = (k : ℤ) × (z ≡ k +ℤ k)

-- twice r lies between -n and n
pub record IsHalf (n r : ℤ) : Type 0 where
  pub low : neg_ℤ n ≤ℤ (r +ℤ r)
  pub high : (r +ℤ r) ≤ℤ n

-- the two have the same divisors
abbrev pub IsAssociate : Coefficient → Coefficient → Type 0
IsAssociate z u = Divides z u × Divides u z

-- what is left of z after a division by u
pub record IsRemainder (z u r : Coefficient) : Type 0 where
  pub quotient : Coefficient
  pub value : r ≡ z ⊖ quotient ⊗ u
  pub smaller : norm r <ℤ norm u

-- a common divisor that every common divisor divides
pub record IsGreatest (z u g : Coefficient) : Type 0 where
  pub left : Divides g z
  pub right : Divides g u
  pub greatest : (h : Coefficient) → Divides h z → Divides h u → Divides h g
