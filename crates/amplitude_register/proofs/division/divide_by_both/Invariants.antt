use Rattle.amplitude_register.proofs.Loops.{IsOverUntil}
use Rattle.state_model.specs.Divisors.{both_deltas}
use Rattle.amplitude_register.proofs.division.divide_by_both.Given as goal

abbrev pub invariant-loop-z : goal.invariant-loop-z
invariant-loop-z l = IsOverUntil both_deltas l.fn.list l.list l.z-index
