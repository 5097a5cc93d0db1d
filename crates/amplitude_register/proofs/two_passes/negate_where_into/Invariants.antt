use Rattle.std.proofs.Common.{length, map}
use Rattle.state_model.specs.declared.Two.TheVariants.{Cphase}
use Rattle.state_model.specs.Amplitudes.{IsTwoGateRow}
use Rattle.omega_ring.specs.Views.{omega_value}
use Rattle.amplitude_register.proofs.Written.{IsWrittenFrom}
use Rattle.amplitude_register.proofs.two_passes.negate_where_into.Given as goal

abbrev pub invariant-loop-row : goal.invariant-loop-row
invariant-loop-row l = IsWrittenFrom (IsTwoGateRow Cphase l.one l.two (map omega_value l.from)) (length l.from) l.list l.row
