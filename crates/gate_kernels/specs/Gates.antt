-- What a gate makes of a register.
use Rattle.std.specs.Prelude.{◌≡◌, ℕ, ℤ, pos, nat_abs, ◌<◌, ◌≤ℤ◌, ◌^◌, List, length}
use Rattle.state_model.specs.Coefficient.{Coefficient, scaled}
use Rattle.state_model.specs.CoefficientList.{total_weight}
use Rattle.state_model.specs.StateVector.{Vector, IsSameState, IsSize}
use Rattle.state_model.specs.Gate.{Matrix, matrix, gate}
use Rattle.state_model.specs.Amplitudes.{Amplitudes, vector_of, qubit_at, IsGateList}
use Rattle.state_model.specs.declared.Gate.{Gate}
use Rattle.state_model.specs.declared.Gate.TheVariants.{RotX, RotY, RotZ}
use Rattle.amplitude_register.specs.States.{RegisterState, Next, draft, prepared, empty, next_value, IsKept}

-- at most seven eighths
abbrev pub HasEighths : Gate → Type 0
HasEighths (RotX k) = k < 8
HasEighths (RotY k) = k < 8
HasEighths (RotZ k) = k < 8
HasEighths _ = Unit {0}

-- the vector after a gate on the qubit at a place
abbrev pub gate_at : Gate → ℕ → Amplitudes → Vector
gate_at g place a = gate (matrix g) (qubit_at a place) (vector_of a)

-- the prepared value has the same qubits and stands for the gate's result; all else stays
pub record IsApplied (g : Gate) (place : ℕ) (old new : RegisterState) : Type 0 where
  pub after : new ≡ record old { next = prepared record { qubits = old.value.qubits; list = (next_value new.next).list } }
  pub same : IsSameState (vector_of (next_value new.next)) (gate_at g place old.value)
  pub kept : IsKept (next_value new.next)

-- the size of the gate's result is 2^60 or more, and nothing is prepared; all else stays
pub record IsTooLarge (g : Gate) (place : ℕ) (old new : RegisterState) (size : ℤ) : Type 0 where
  pub after : new ≡ record old { next = empty }
  pub size_is : IsSize (gate_at g place old.value) old.value.qubits (nat_abs size)
  pub large : pos (2 ^ 60) ≤ℤ size

-- a draft, or a prepared value
pub data Kind : Type 0 where
  drafting : Kind
  preparing : Kind

abbrev pub at_kind : Kind → Amplitudes → Next
at_kind drafting a = draft a
at_kind preparing a = prepared a

-- the next value is exactly what a matrix makes of the register's value, with s times its weight; all else stays
pub record IsMade (kind : Kind) (m : Matrix) (s place : ℕ) (old new : RegisterState) : Type 0 where
  pub result : List Coefficient
  pub after : new ≡ record old { next = at_kind kind record { qubits = old.value.qubits; list = result } }
  pub rows : length result ≡ length old.value.list
  pub list : IsGateList m place old.value.list result
  pub weight : total_weight result ≡ scaled s (total_weight old.value.list)
