-- A step of two qubits, and what it stands for.
use Rattle.std.proofs.Common.{ℕ, ◌<◌, length, sym, subst, refl}
use Rattle.state_model.specs.Amplitudes.{Amplitudes, HasRows}
use Rattle.state_model.specs.declared.Two.{Two}
use Rattle.state_model.proofs.RegisterGates.{two_gate_list}
use Rattle.amplitude_register.specs.States.{RegisterState, Next, empty, draft, prepared, next_value, IsNextKept, IsTwoGateStep}
use Rattle.gate_kernels.specs.Twos.{prepared_or, source, IsTwoApplied}

-- what the gate begins with has its rows
source_rows : (value : Amplitudes) (x : Next) → HasRows value → IsNextKept x → HasRows (prepared_or value x)
source_rows value empty rows kept = rows
source_rows value (draft a) rows kept = rows
source_rows value (prepared a) rows kept = kept.0

pub two_applied : (k : Two) (p q : ℕ) (old new : RegisterState) → HasRows old.value → IsNextKept old.next → p < length (source old).qubits → q < length (source old).qubits
    → IsTwoGateStep k p q record old { next = prepared (source old) } new → IsNextKept new.next → IsTwoApplied k p q old new
two_applied k p q old new rows before l m step after = subst (IsTwoApplied k p q old) (sym step.after) record {
  after = refl;
  vector = two_gate_list (source old) k p q (next_value new.next).list (source_rows old.value old.next rows before) l m step.list;
  weight = step.weight;
  kept = (subst (λ (t : RegisterState). IsNextKept t.next) step.after after).1;
}
