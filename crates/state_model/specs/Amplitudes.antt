-- A register's value: distinct qubits and a coefficient for each row, and the vector that it stands for.
use Rattle.std.specs.Prelude.{◌≡◌, ◌<◌, ℕ, ◌*◌, ◌^◌, Bool, true, false, cond, List, [], ◌∷◌, length, slice_index_or}
use Rattle.state_model.specs.Coefficient.{Coefficient, negated}
use Rattle.state_model.specs.CoefficientList.{at}
use Rattle.state_model.specs.Row.{is_set, with_bit, turned, inserted, is_listed}
use Rattle.state_model.specs.StateVector.{Vector}
use Rattle.state_model.specs.Gate.{Matrix, entry}
use Rattle.state_model.specs.declared.Two.{Two}
use Rattle.state_model.specs.declared.Two.TheVariants.{Cnot, Cphase}
use Rattle.state_model.specs.Registers.{register_vector}

-- qubit numbers and a coefficient for each row: bit j of a row is the bit of the j-th qubit
pub record Amplitudes : Type 0 where
  pub qubits : List ℕ
  pub list : List Coefficient

-- the vector that a register's value stands for
abbrev pub vector_of : Amplitudes → Vector
vector_of a = register_vector a.qubits a.list

-- the qubit at a place
abbrev pub qubit_at : Amplitudes → ℕ → ℕ
qubit_at a place = slice_index_or a.qubits place 0

-- no number is listed twice
abbrev pub AreDistinct : List ℕ → Type 0
AreDistinct [] = Unit {0}
AreDistinct (q ∷ qs) = (is_listed qs q ≡ false) × AreDistinct qs

-- the qubits are distinct, and each row has its coefficient
pub record HasRows (a : Amplitudes) : Type 0 where
  pub rows : length a.list ≡ 2 ^ length a.qubits
  pub distinct : AreDistinct a.qubits

-- what a gate on the qubit at a place gives a row
abbrev pub IsGateRow : Matrix → ℕ → List Coefficient → ℕ → Coefficient → Type 0
IsGateRow m place old row z = z ≡ entry m (is_set place row) (at old (with_bit place false row)) (at old (with_bit place true row))

-- the second list is what a gate on the qubit at a place makes of the first, row by row
abbrev pub IsGateList : Matrix → ℕ → List Coefficient → List Coefficient → Type 0
IsGateList m place old new = (row : ℕ) → IsGateRow m place old row (at new row)

-- what a gate on the qubits at two places gives a row
abbrev pub IsTwoGateRow : Two → ℕ → ℕ → List Coefficient → ℕ → Coefficient → Type 0
IsTwoGateRow Cnot one two old row z = z ≡ at old (cond (is_set one row) (turned two row) row)
IsTwoGateRow Cphase one two old row z = z ≡ cond (is_set one row) (cond (is_set two row) (negated (at old row)) (at old row)) (at old row)

-- the second list is what a gate on the qubits at two places makes of the first, row by row
abbrev pub IsTwoGateList : Two → ℕ → ℕ → List Coefficient → List Coefficient → Type 0
IsTwoGateList k one two old new = (row : ℕ) → IsTwoGateRow k one two old row (at new row)

-- the second list has the rows of the first whose bit at a place has the value, without that bit and in their order
pub record IsKeptList (place : ℕ) (bit : Bool) (old new : List Coefficient) : Type 0 where
  pub rows : length old ≡ 2 * length new
  pub list : (row : ℕ) → row < length new → at new row ≡ at old (inserted place bit row)
