use Rattle.std.proofs.Common.{length, map, ◌*◌}
use Rattle.state_model.specs.declared.Two.TheVariants.{Cnot}
use Rattle.state_model.specs.Amplitudes.{IsTwoGateRow}
use Rattle.omega_ring.specs.Views.{omega_value}
use Rattle.amplitude_register.proofs.Written.{IsWrittenFrom}
use Rattle.amplitude_register.proofs.two_passes.exchange_runs_into.Given as goal

abbrev pub invariant-loop-k : goal.invariant-loop-k
invariant-loop-k l = IsWrittenFrom (IsTwoGateRow Cnot l.control l.target (map omega_value l.from)) (length l.from) l.list (l.k * l.run)
