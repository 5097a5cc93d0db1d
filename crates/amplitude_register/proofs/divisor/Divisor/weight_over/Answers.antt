use Rattle.omega_ring.specs.Views.{weight_value}
use Rattle.amplitude_register.specs.declared.divisor.Divisor.TheVariants.{One, Delta, Conjugate, Both, BothDelta, BothConjugate, Two}
use Rattle.amplitude_register.proofs.MixedOver.{upper_pair, lower_pair, both_pair, weight_as, weight_quotient_as, weight_over_one, upper_weight_even, lower_weight_even, both_weight_even, both_weight_first, rest_weight, rest_weight_below, weight_both_then}
use Rattle.amplitude_register.proofs.divisor.Divisor.weight_over.Goals as goal

pub over_delta-requires-clause-even : goal.over_delta-requires-clause-even
over_delta-requires-clause-even c = upper_weight_even (weight_value c.args.total) (weight_as c.args.self Delta (weight_value c.args.total) c.in-Delta.is c.requires.divides)

pub over_conjugate-requires-clause-even : goal.over_conjugate-requires-clause-even
over_conjugate-requires-clause-even c = lower_weight_even (weight_value c.args.total) (weight_as c.args.self Conjugate (weight_value c.args.total) c.in-Conjugate.is c.requires.divides)

pub over_both-requires-clause-x : goal.over_both-requires-clause-x
over_both-requires-clause-x c = (both_weight_even (weight_value c.args.total) (weight_as c.args.self Both (weight_value c.args.total) c.in-Both.is c.requires.divides)).0

pub over_both-requires-clause-y : goal.over_both-requires-clause-y
over_both-requires-clause-y c = (both_weight_even (weight_value c.args.total) (weight_as c.args.self Both (weight_value c.args.total) c.in-Both.is c.requires.divides)).1

pub over_both-requires-in-BothDelta-clause-x : goal.over_both-requires-in-BothDelta-clause-x
over_both-requires-in-BothDelta-clause-x c = (both_weight_even (weight_value c.args.total) (both_weight_first upper_pair (weight_value c.args.total) (weight_as c.args.self BothDelta (weight_value c.args.total) c.in-BothDelta.is c.requires.divides))).0

pub over_both-requires-in-BothDelta-clause-y : goal.over_both-requires-in-BothDelta-clause-y
over_both-requires-in-BothDelta-clause-y c = (both_weight_even (weight_value c.args.total) (both_weight_first upper_pair (weight_value c.args.total) (weight_as c.args.self BothDelta (weight_value c.args.total) c.in-BothDelta.is c.requires.divides))).1

pub over_delta-requires-in-BothDelta-clause-small : goal.over_delta-requires-in-BothDelta-clause-small
over_delta-requires-in-BothDelta-clause-small c = rest_weight_below (weight_value c.args.total) (weight_value c.over_both-in-BothDelta.result) c.requires.small c.over_both-in-BothDelta.ensures

pub over_delta-requires-in-BothDelta-clause-even : goal.over_delta-requires-in-BothDelta-clause-even
over_delta-requires-in-BothDelta-clause-even c = upper_weight_even (weight_value c.over_both-in-BothDelta.result) (rest_weight upper_pair (weight_value c.args.total) (weight_value c.over_both-in-BothDelta.result) (weight_as c.args.self BothDelta (weight_value c.args.total) c.in-BothDelta.is c.requires.divides) c.over_both-in-BothDelta.ensures)

pub returns-in-BothDelta : goal.returns-in-BothDelta
returns-in-BothDelta c = weight_quotient_as c.args.self BothDelta (weight_value c.args.total) (weight_value c.over_delta-in-BothDelta.result) c.in-BothDelta.is (weight_both_then upper_pair (weight_value c.args.total) (weight_value c.over_both-in-BothDelta.result) (weight_value c.over_delta-in-BothDelta.result) c.over_both-in-BothDelta.ensures c.over_delta-in-BothDelta.ensures)

pub over_both-requires-in-BothConjugate-clause-x : goal.over_both-requires-in-BothConjugate-clause-x
over_both-requires-in-BothConjugate-clause-x c = (both_weight_even (weight_value c.args.total) (both_weight_first lower_pair (weight_value c.args.total) (weight_as c.args.self BothConjugate (weight_value c.args.total) c.in-BothConjugate.is c.requires.divides))).0

pub over_both-requires-in-BothConjugate-clause-y : goal.over_both-requires-in-BothConjugate-clause-y
over_both-requires-in-BothConjugate-clause-y c = (both_weight_even (weight_value c.args.total) (both_weight_first lower_pair (weight_value c.args.total) (weight_as c.args.self BothConjugate (weight_value c.args.total) c.in-BothConjugate.is c.requires.divides))).1

pub over_conjugate-requires-in-BothConjugate-clause-small : goal.over_conjugate-requires-in-BothConjugate-clause-small
over_conjugate-requires-in-BothConjugate-clause-small c = rest_weight_below (weight_value c.args.total) (weight_value c.over_both-in-BothConjugate.result) c.requires.small c.over_both-in-BothConjugate.ensures

pub over_conjugate-requires-in-BothConjugate-clause-even : goal.over_conjugate-requires-in-BothConjugate-clause-even
over_conjugate-requires-in-BothConjugate-clause-even c = lower_weight_even (weight_value c.over_both-in-BothConjugate.result) (rest_weight lower_pair (weight_value c.args.total) (weight_value c.over_both-in-BothConjugate.result) (weight_as c.args.self BothConjugate (weight_value c.args.total) c.in-BothConjugate.is c.requires.divides) c.over_both-in-BothConjugate.ensures)

pub returns-in-BothConjugate : goal.returns-in-BothConjugate
returns-in-BothConjugate c = weight_quotient_as c.args.self BothConjugate (weight_value c.args.total) (weight_value c.over_conjugate-in-BothConjugate.result) c.in-BothConjugate.is (weight_both_then lower_pair (weight_value c.args.total) (weight_value c.over_both-in-BothConjugate.result) (weight_value c.over_conjugate-in-BothConjugate.result) c.over_both-in-BothConjugate.ensures c.over_conjugate-in-BothConjugate.ensures)

pub over_both-requires-in-Two-clause-x : goal.over_both-requires-in-Two-clause-x
over_both-requires-in-Two-clause-x c = (both_weight_even (weight_value c.args.total) (both_weight_first both_pair (weight_value c.args.total) (weight_as c.args.self Two (weight_value c.args.total) c.in-Two.is c.requires.divides))).0

pub over_both-requires-in-Two-clause-y : goal.over_both-requires-in-Two-clause-y
over_both-requires-in-Two-clause-y c = (both_weight_even (weight_value c.args.total) (both_weight_first both_pair (weight_value c.args.total) (weight_as c.args.self Two (weight_value c.args.total) c.in-Two.is c.requires.divides))).1

pub over_both-requires-in-Two-2-clause-small : goal.over_both-requires-in-Two-2-clause-small
over_both-requires-in-Two-2-clause-small c = rest_weight_below (weight_value c.args.total) (weight_value c.over_both-in-Two.result) c.requires.small c.over_both-in-Two.ensures

pub over_both-requires-in-Two-2-clause-x : goal.over_both-requires-in-Two-2-clause-x
over_both-requires-in-Two-2-clause-x c = (both_weight_even (weight_value c.over_both-in-Two.result) (rest_weight both_pair (weight_value c.args.total) (weight_value c.over_both-in-Two.result) (weight_as c.args.self Two (weight_value c.args.total) c.in-Two.is c.requires.divides) c.over_both-in-Two.ensures)).0

pub over_both-requires-in-Two-2-clause-y : goal.over_both-requires-in-Two-2-clause-y
over_both-requires-in-Two-2-clause-y c = (both_weight_even (weight_value c.over_both-in-Two.result) (rest_weight both_pair (weight_value c.args.total) (weight_value c.over_both-in-Two.result) (weight_as c.args.self Two (weight_value c.args.total) c.in-Two.is c.requires.divides) c.over_both-in-Two.ensures)).1

pub returns-in-Two : goal.returns-in-Two
returns-in-Two c = weight_quotient_as c.args.self Two (weight_value c.args.total) (weight_value c.over_both-in-Two-2.result) c.in-Two.is (weight_both_then both_pair (weight_value c.args.total) (weight_value c.over_both-in-Two.result) (weight_value c.over_both-in-Two-2.result) c.over_both-in-Two.ensures c.over_both-in-Two-2.ensures)

pub returns-in-One : goal.returns-in-One
returns-in-One c = weight_quotient_as c.args.self One (weight_value c.args.total) (weight_value c.args.total) c.in-One.is (weight_over_one (weight_value c.args.total))
