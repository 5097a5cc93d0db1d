-- Lists of coefficients: sizes of their coordinates, multiples entry by entry, and places of a row.
use Rattle.std.specs.Prelude.{◌≡◌, ℕ, ◌<◌, ◌≤◌, ◌^◌, List, length}
use Rattle.state_model.specs.Coefficient.{Coefficient, ◌⊗◌}
use Rattle.state_model.specs.CoefficientList.{at, DividesAll, IsReduced, IsScaled}
use Rattle.state_model.specs.Divisors.{Divides}
use Rattle.omega_ring.specs.Range.{CoordinatesBelow}
use Rattle.omega_ring.specs.Steps.{IsReady}

-- all coordinates of all entries lie strictly between -n and n
abbrev pub AllWithin : ℕ → List Coefficient → Type 0
AllWithin n vs = (i : ℕ) → CoordinatesBelow n (at vs i)

-- the first list is the second times u, entry by entry
pub record AreTimes (vs us : List Coefficient) (u : Coefficient) : Type 0 where
  pub rows : length vs ≡ length us
  pub value : (i : ℕ) → at vs i ≡ at us i ⊗ u

-- the second list is the first over all that its entries have in common
pub record IsReducedFrom (vs us : List Coefficient) : Type 0 where
  pub scaled : IsScaled us vs
  pub reduced : IsReduced us

-- u is a greatest common divisor of all entries, with which Euclid's steps go on
pub record IsGreatestOf (vs : List Coefficient) (u : Coefficient) : Type 0 where
  pub common : DividesAll u vs
  pub greatest : (h : Coefficient) → DividesAll h vs → Divides h u
  pub ready : IsReady u

-- so many rows are those of some number of qubits, at most 12, of which one is at the place
pub record HasPlace (place rows : ℕ) : Type 0 where
  pub qubits : ℕ
  pub few : qubits ≤ 12
  pub inside : place < qubits
  pub count : rows ≡ 2 ^ qubits
