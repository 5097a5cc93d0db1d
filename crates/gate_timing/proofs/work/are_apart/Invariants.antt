use Rattle.std.proofs.Common.{◌≡◌, ℕ, ◌<◌, false, slice_index_or}
use Rattle.state_model.specs.Row.{is_listed}
use Rattle.gate_timing.proofs.work.are_apart.Given as goal

abbrev pub invariant-loop-k : goal.invariant-loop-k
invariant-loop-k l = (i : ℕ) → i < l.k → is_listed l.two.value.qubits (slice_index_or l.numbers i 0) ≡ false
