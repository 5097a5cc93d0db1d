use Rattle.amplitude_register.proofs.Loops.{IsTimesUntil}
use Rattle.state_model.specs.Divisors.{unit_up}
use Rattle.amplitude_register.proofs.balancing.raise.Given as goal

abbrev pub invariant-loop-z : goal.invariant-loop-z
invariant-loop-z l = IsTimesUntil unit_up l.fn.list l.list l.z-index
