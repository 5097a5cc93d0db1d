use Rattle.amplitude_register.proofs.Loops.{IsOverUntil}
use Rattle.state_model.specs.Divisors.{delta}
use Rattle.amplitude_register.proofs.division.divide_by_delta.Given as goal

abbrev pub invariant-loop-z : goal.invariant-loop-z
invariant-loop-z l = IsOverUntil delta l.fn.list l.list l.z-index
