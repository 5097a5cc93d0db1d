-- Lists of coefficients: what divides all of them, when one is a multiple of another, and least sizes.
use Rattle.std.specs.Prelude.{◌≡◌, ◌≢◌, ℕ, ℤ, ◌≤ℤ◌, List, [], ◌∷◌, length, slice_index_or}
use Rattle.state_model.specs.Coefficient.{Coefficient, zero_coefficient, one_coefficient, ◌⊗◌, Weight, weight, no_weight, weight_sum}
use Rattle.state_model.specs.Divisors.{Divides, IsBalanced, IsDeltaPower}

-- the coefficient of a row, zero past the end
abbrev pub at : List Coefficient → ℕ → Coefficient
at vs i = slice_index_or vs i zero_coefficient

-- some entry is not zero
abbrev pub IsNonzero : List Coefficient → Type 0
IsNonzero vs = (i : ℕ) × (at vs i ≢ zero_coefficient)

-- u divides every entry
abbrev pub DividesAll : Coefficient → List Coefficient → Type 0
DividesAll u vs = (i : ℕ) → Divides u (at vs i)

-- every common divisor is a unit
abbrev pub IsReduced : List Coefficient → Type 0
IsReduced vs = (u : Coefficient) → DividesAll u vs → Divides u one_coefficient

-- each common divisor is a unit times a power of 1 - w
abbrev pub HasDeltaDivisors : List Coefficient → Type 0
HasDeltaDivisors vs = (u : Coefficient) → DividesAll u vs → IsDeltaPower u

-- the same up to a factor
abbrev pub IsProportional : List Coefficient → List Coefficient → Type 0
IsProportional vs us = (i j : ℕ) → at vs i ⊗ at us j ≡ at us i ⊗ at vs j

-- us is vs times a coefficient other than zero: the same up to scale and phase
pub record IsScaled (vs us : List Coefficient) : Type 0 where
  pub factor : Coefficient
  pub nonzero : factor ≢ zero_coefficient
  pub value : (i : ℕ) → at us i ≡ factor ⊗ at vs i

-- the sum of the weights of all entries; its x is the sum of the squares of all coordinates
abbrev pub total_weight : List Coefficient → Weight
total_weight [] = no_weight
total_weight (v ∷ vs) = weight_sum (weight v) (total_weight vs)

-- no common divisor but units, and a balanced weight
pub record IsNormal (vs : List Coefficient) : Type 0 where
  pub reduced : IsReduced vs
  pub balanced : IsBalanced (total_weight vs)

-- n is the least sum of squares of all whole vectors proportional to vs
pub record IsLeastSize (vs : List Coefficient) (n : ℤ) : Type 0 where
  pub least : (us : List Coefficient) → length us ≡ length vs → IsProportional vs us → IsNonzero us → n ≤ℤ (total_weight us).x
  pub vector : List Coefficient
  pub rows : length vector ≡ length vs
  pub scaled : IsScaled vector vs
  pub reached : (total_weight vector).x ≡ n
