use Rattle.amplitude_register.proofs.Loops.{IsTimesUntil}
use Rattle.state_model.specs.Divisors.{unit_down}
use Rattle.amplitude_register.proofs.balancing.lower.Given as goal

abbrev pub invariant-loop-z : goal.invariant-loop-z
invariant-loop-z l = IsTimesUntil unit_down l.fn.list l.list l.z-index
