-- What a gate of two qubits makes of a register.
use Rattle.std.specs.Prelude.{◌≡◌, ℕ}
use Rattle.state_model.specs.CoefficientList.{total_weight}
use Rattle.state_model.specs.Gate.{two_gate}
use Rattle.state_model.specs.Amplitudes.{Amplitudes, vector_of, qubit_at}
use Rattle.state_model.specs.declared.Two.{Two}
use Rattle.amplitude_register.specs.States.{RegisterState, Next, empty, draft, prepared, next_value, IsKept}

-- the prepared value where there is one, else the register's
abbrev pub prepared_or : Amplitudes → Next → Amplitudes
prepared_or value empty = value
prepared_or value (draft a) = value
prepared_or value (prepared a) = a

-- what a gate of two qubits begins with
abbrev pub source : RegisterState → Amplitudes
source s = prepared_or s.value s.next

-- the prepared value has the same qubits and is exactly the gate's result, whose weight is that of before; all else stays
pub record IsTwoApplied (k : Two) (p q : ℕ) (old new : RegisterState) : Type 0 where
  pub after : new ≡ record old { next = prepared record { qubits = (source old).qubits; list = (next_value new.next).list } }
  pub vector : (x : ℕ) → vector_of (next_value new.next) x ≡ two_gate k (qubit_at (source old) p) (qubit_at (source old) q) (vector_of (source old)) x
  pub weight : total_weight (next_value new.next).list ≡ total_weight (source old).list
  pub kept : IsKept (next_value new.next)
