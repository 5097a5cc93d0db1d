-- What a measured qubit leaves of a register.
use Rattle.std.specs.Prelude.{◌≡◌, ℕ, Bool}
use Rattle.state_model.specs.Coefficient.{zero_coefficient}
use Rattle.state_model.specs.Row.{without}
use Rattle.state_model.specs.StateVector.{IsSameState}
use Rattle.state_model.specs.Measurement.{keep}
use Rattle.state_model.specs.Amplitudes.{Amplitudes, vector_of, qubit_at, IsKeptList}
use Rattle.amplitude_register.specs.States.{RegisterState, draft, prepared, next_value, IsKept}

-- some row whose bit at the place has the value isn't zero
abbrev pub HasRowWith : ℕ → Bool → Amplitudes → Type 0
HasRowWith place bit a = ¬ ((x : ℕ) → keep (qubit_at a place) bit (vector_of a) x ≡ zero_coefficient)

-- the prepared value has the other qubits in their order and stands for the rows with the bit; all else stays
pub record IsTakenOut (place : ℕ) (bit : Bool) (old new : RegisterState) : Type 0 where
  pub after : new ≡ record old { next = prepared record { qubits = without old.value.qubits (qubit_at old.value place); list = (next_value new.next).list } }
  pub same : IsSameState (vector_of (next_value new.next)) (keep (qubit_at old.value place) bit (vector_of old.value))
  pub kept : IsKept (next_value new.next)

-- the draft has the other qubits in their order and exactly the rows with the bit; all else stays
pub record IsDrafted (place : ℕ) (bit : Bool) (old new : RegisterState) : Type 0 where
  pub after : new ≡ record old { next = draft record { qubits = without old.value.qubits (qubit_at old.value place); list = (next_value new.next).list } }
  pub list : IsKeptList place bit old.value.list (next_value new.next).list
