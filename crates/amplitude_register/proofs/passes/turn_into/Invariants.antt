use Rattle.std.proofs.Common.{length, map}
use Rattle.state_model.specs.Gate.{matrix}
use Rattle.state_model.specs.declared.Gate.TheVariants.{RotZ}
use Rattle.omega_ring.specs.Views.{omega_value}
use Rattle.state_model.specs.Amplitudes.{IsGateRow}
use Rattle.amplitude_register.proofs.Written.{IsWrittenFrom}
use Rattle.amplitude_register.proofs.passes.turn_into.Given as goal

abbrev pub invariant-loop-row : goal.invariant-loop-row
invariant-loop-row l = IsWrittenFrom (IsGateRow (matrix (RotZ l.eighths)) l.place (map omega_value l.from)) (length l.from) l.list l.row
