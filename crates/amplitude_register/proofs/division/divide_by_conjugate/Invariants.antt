use Rattle.amplitude_register.proofs.Loops.{IsOverUntil}
use Rattle.state_model.specs.Divisors.{delta_conjugate}
use Rattle.amplitude_register.proofs.division.divide_by_conjugate.Given as goal

abbrev pub invariant-loop-z : goal.invariant-loop-z
invariant-loop-z l = IsOverUntil delta_conjugate l.fn.list l.list l.z-index
