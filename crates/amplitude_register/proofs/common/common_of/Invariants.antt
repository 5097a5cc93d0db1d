use Rattle.omega_ring.specs.Views.{omega_value}
use Rattle.amplitude_register.proofs.Folded.{IsFolded}
use Rattle.amplitude_register.proofs.common.common_of.Given as goal

abbrev pub invariant-loop-z : goal.invariant-loop-z
invariant-loop-z l = IsFolded l.list l.z-index (omega_value l.common)
