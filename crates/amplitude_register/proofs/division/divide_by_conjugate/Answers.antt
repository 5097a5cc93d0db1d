use Rattle.state_model.specs.Divisors.{delta, delta_conjugate}
use Rattle.amplitude_register.proofs.Loops.{over_divides}
use Rattle.amplitude_register.proofs.division.divide_by_conjugate.Goals as goal

pub over_conjugate-requires-clause-divides : goal.over_conjugate-requires-clause-divides
over_conjugate-requires-clause-divides c = over_divides delta delta_conjugate c.args.list.now c.loop-z.list c.loop-z.z-index c.loop-z.invariant c.requires.divides
