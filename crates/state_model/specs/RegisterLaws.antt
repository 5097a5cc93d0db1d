-- The laws that join a register's list to the vector that it stands for, as statements.
use Rattle.std.specs.Prelude.{ℕ, pos, ◌≡◌, ◌<◌, ◌^◌, Bool, List, length}
use Rattle.state_model.specs.Coefficient.{Coefficient}
use Rattle.state_model.specs.CoefficientList.{IsScaled, IsProportional, IsNonzero, IsNormal, IsLeastSize, total_weight}
use Rattle.state_model.specs.Row.{rows_of, without}
use Rattle.state_model.specs.StateVector.{Vector, IsSameState, IsOver, IsSize, squares_over}
use Rattle.state_model.specs.Measurement.{weight_of, keep}
use Rattle.state_model.specs.Gate.{Matrix, gate, two_gate}
use Rattle.state_model.specs.Registers.{register_vector}
use Rattle.state_model.specs.Amplitudes.{Amplitudes, vector_of, qubit_at, AreDistinct, HasRows, IsGateList, IsTwoGateList, IsKeptList}
use Rattle.state_model.specs.declared.Two.{Two}

-- a list and a multiple of it stand for one state
abbrev pub MultiplesAreSameStates : Type 0
MultiplesAreSameStates = (qs : List ℕ) (vs us : List Coefficient) → IsScaled vs us → IsSameState (register_vector qs vs) (register_vector qs us)

-- lists that stand for one state are proportional
abbrev pub SameStatesAreProportional : Type 0
SameStatesAreProportional = (a b : Amplitudes) → a.qubits ≡ b.qubits → HasRows a → HasRows b → IsSameState (vector_of a) (vector_of b) → IsProportional a.list b.list

-- a vector over distinct qubits is that of a list
abbrev pub VectorsHaveLists : Type 0
VectorsHaveLists = (qs : List ℕ) (v : Vector) → AreDistinct qs → IsOver qs v → (list : List Coefficient) × ((length list ≡ 2 ^ length qs) × ((x : ℕ) → v x ≡ register_vector qs list x))

-- the weight of a register's vector is the total weight of its list
abbrev pub RegistersHaveTotalWeights : Type 0
RegistersHaveTotalWeights = (a : Amplitudes) → HasRows a → weight_of (vector_of a) (rows_of a.qubits) ≡ total_weight a.list

-- the sum of squares of a register's vector is the x of its list's total weight
abbrev pub RegistersHaveSquares : Type 0
RegistersHaveSquares = (a : Amplitudes) → HasRows a → (total_weight a.list).x ≡ pos (squares_over a.qubits (vector_of a))

-- a list made row by row by a gate stands for the gate's vector
abbrev pub GateListsAreGates : Type 0
GateListsAreGates = (a : Amplitudes) (m : Matrix) (place : ℕ) (list : List Coefficient) → HasRows a → place < length a.qubits → IsGateList m place a.list list → (x : ℕ) → register_vector a.qubits list x ≡ gate m (qubit_at a place) (vector_of a) x

-- a list made row by row by a gate of two qubits stands for the gate's vector
abbrev pub TwoGateListsAreGates : Type 0
TwoGateListsAreGates = (a : Amplitudes) (k : Two) (one two : ℕ) (list : List Coefficient) → HasRows a → one < length a.qubits → two < length a.qubits → IsTwoGateList k one two a.list list
    → (x : ℕ) → register_vector a.qubits list x ≡ two_gate k (qubit_at a one) (qubit_at a two) (vector_of a) x

-- a list of the rows whose bit at a place has the value stands for what is kept of the vector
abbrev pub KeptListsAreKept : Type 0
KeptListsAreKept = (a : Amplitudes) (place : ℕ) (bit : Bool) (list : List Coefficient) → HasRows a → place < length a.qubits → IsKeptList place bit a.list list
    → (x : ℕ) → register_vector (without a.qubits (qubit_at a place)) list x ≡ keep (qubit_at a place) bit (vector_of a) x

-- the least size of a list is the size of its vector
abbrev pub LeastSizesAreSizes : Type 0
LeastSizesAreSizes = (a : Amplitudes) (n : ℕ) → HasRows a → IsNonzero a.list → IsLeastSize a.list (pos n) → IsSize (vector_of a) a.qubits n

-- a reduced and balanced list has the size of its vector
abbrev pub NormalListsHaveSizes : Type 0
NormalListsHaveSizes = (a : Amplitudes) (n : ℕ) → HasRows a → IsNormal a.list → (total_weight a.list).x ≡ pos n → IsSize (vector_of a) a.qubits n
