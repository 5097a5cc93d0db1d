use Rattle.amplitude_register.proofs.Loops.{IsOverUntil}
use Rattle.omega_ring.specs.Views.{omega_value}
use Rattle.amplitude_register.proofs.common.divide_by.Given as goal

abbrev pub invariant-loop-z : goal.invariant-loop-z
invariant-loop-z l = IsOverUntil (omega_value l.fn.u) l.fn.list l.list l.z-index
