use Rattle.std.proofs.Common.{sym}
use Rattle.state_model.specs.Divisors.{delta, delta_conjugate}
use Rattle.omega_ring.specs.Views.{omega_value}
use Rattle.amplitude_register.specs.declared.divisor.Divisor.TheVariants.{One, Delta, Conjugate, Both, BothDelta, BothConjugate, Two}
use Rattle.amplitude_register.proofs.MixedOver.{divides_as, quotient_as, over_one, conjugate_divides, both_first, rest_divides, rest_below, both_then}
use Rattle.amplitude_register.proofs.divisor.Divisor.over.Goals as goal

pub over_conjugate-requires-clause-divides : goal.over_conjugate-requires-clause-divides
over_conjugate-requires-clause-divides c = conjugate_divides (omega_value c.args.z) (divides_as c.args.self Conjugate (omega_value c.args.z) c.in-Conjugate.is c.requires.divides)

pub over_both-requires-in-BothDelta-clause-divides : goal.over_both-requires-in-BothDelta-clause-divides
over_both-requires-in-BothDelta-clause-divides c = both_first delta (omega_value c.args.z) (divides_as c.args.self BothDelta (omega_value c.args.z) c.in-BothDelta.is c.requires.divides)

pub over_delta-requires-in-BothDelta-clause-range : goal.over_delta-requires-in-BothDelta-clause-range
over_delta-requires-in-BothDelta-clause-range c = rest_below (omega_value c.args.z) (omega_value c.over_both-in-BothDelta.result) c.requires.range c.over_both-in-BothDelta.ensures

pub over_delta-requires-in-BothDelta-clause-divides : goal.over_delta-requires-in-BothDelta-clause-divides
over_delta-requires-in-BothDelta-clause-divides c = rest_divides delta (omega_value c.args.z) (omega_value c.over_both-in-BothDelta.result) (divides_as c.args.self BothDelta (omega_value c.args.z) c.in-BothDelta.is c.requires.divides) c.over_both-in-BothDelta.ensures

pub returns-in-BothDelta : goal.returns-in-BothDelta
returns-in-BothDelta c = quotient_as c.args.self BothDelta (omega_value c.args.z) (omega_value c.over_delta-in-BothDelta.result) c.in-BothDelta.is (both_then delta (omega_value c.args.z) (omega_value c.over_both-in-BothDelta.result) (omega_value c.over_delta-in-BothDelta.result) c.over_both-in-BothDelta.ensures c.over_delta-in-BothDelta.ensures)

pub over_both-requires-in-BothConjugate-clause-divides : goal.over_both-requires-in-BothConjugate-clause-divides
over_both-requires-in-BothConjugate-clause-divides c = both_first delta_conjugate (omega_value c.args.z) (divides_as c.args.self BothConjugate (omega_value c.args.z) c.in-BothConjugate.is c.requires.divides)

pub over_conjugate-requires-in-BothConjugate-clause-range : goal.over_conjugate-requires-in-BothConjugate-clause-range
over_conjugate-requires-in-BothConjugate-clause-range c = rest_below (omega_value c.args.z) (omega_value c.over_both-in-BothConjugate.result) c.requires.range c.over_both-in-BothConjugate.ensures

pub over_conjugate-requires-in-BothConjugate-clause-divides : goal.over_conjugate-requires-in-BothConjugate-clause-divides
over_conjugate-requires-in-BothConjugate-clause-divides c = conjugate_divides (omega_value c.over_both-in-BothConjugate.result) (rest_divides delta_conjugate (omega_value c.args.z) (omega_value c.over_both-in-BothConjugate.result) (divides_as c.args.self BothConjugate (omega_value c.args.z) c.in-BothConjugate.is c.requires.divides) c.over_both-in-BothConjugate.ensures)

pub returns-in-BothConjugate : goal.returns-in-BothConjugate
returns-in-BothConjugate c = quotient_as c.args.self BothConjugate (omega_value c.args.z) (omega_value c.over_conjugate-in-BothConjugate.result) c.in-BothConjugate.is (both_then delta_conjugate (omega_value c.args.z) (omega_value c.over_both-in-BothConjugate.result) (omega_value c.over_conjugate-in-BothConjugate.result) c.over_both-in-BothConjugate.ensures c.over_conjugate-in-BothConjugate.ensures)

pub returns-in-One : goal.returns-in-One
returns-in-One c = quotient_as c.args.self One (omega_value c.args.z) (omega_value c.args.z) c.in-One.is (over_one (omega_value c.args.z))
