use Rattle.std.proofs.Common.{map}
use Rattle.omega_ring.specs.Views.{omega_value}
use Rattle.amplitude_register.specs.declared.divisor.Divisor.TheVariants.{One, Delta, Conjugate, Both, BothDelta, BothConjugate, Two}
use Rattle.amplitude_register.proofs.MixedWrites.{divides_mixed_as, mixed_over_as}
use Rattle.amplitude_register.proofs.mixing.mix_by.Goals as goal

pub mix_over-requires-clause-divides : goal.mix_over-requires-clause-divides
mix_over-requires-clause-divides c = divides_mixed_as c.args.divisor One c.args.place (map omega_value c.args.from.now) c.in-One.is c.requires.divides

pub mix_over-requires-in-Delta-clause-divides : goal.mix_over-requires-in-Delta-clause-divides
mix_over-requires-in-Delta-clause-divides c = divides_mixed_as c.args.divisor Delta c.args.place (map omega_value c.args.from.now) c.in-Delta.is c.requires.divides

pub mix_over-requires-in-Conjugate-clause-divides : goal.mix_over-requires-in-Conjugate-clause-divides
mix_over-requires-in-Conjugate-clause-divides c = divides_mixed_as c.args.divisor Conjugate c.args.place (map omega_value c.args.from.now) c.in-Conjugate.is c.requires.divides

pub mix_over-requires-in-Both-clause-divides : goal.mix_over-requires-in-Both-clause-divides
mix_over-requires-in-Both-clause-divides c = divides_mixed_as c.args.divisor Both c.args.place (map omega_value c.args.from.now) c.in-Both.is c.requires.divides

pub mix_over-requires-in-BothDelta-clause-divides : goal.mix_over-requires-in-BothDelta-clause-divides
mix_over-requires-in-BothDelta-clause-divides c = divides_mixed_as c.args.divisor BothDelta c.args.place (map omega_value c.args.from.now) c.in-BothDelta.is c.requires.divides

pub mix_over-requires-in-BothConjugate-clause-divides : goal.mix_over-requires-in-BothConjugate-clause-divides
mix_over-requires-in-BothConjugate-clause-divides c = divides_mixed_as c.args.divisor BothConjugate c.args.place (map omega_value c.args.from.now) c.in-BothConjugate.is c.requires.divides

pub mix_over-requires-in-Two-clause-divides : goal.mix_over-requires-in-Two-clause-divides
mix_over-requires-in-Two-clause-divides c = divides_mixed_as c.args.divisor Two c.args.place (map omega_value c.args.from.now) c.in-Two.is c.requires.divides

pub returns-in-One : goal.returns-in-One
returns-in-One c = mixed_over_as c.args.divisor One c.args.place (map omega_value c.args.from.now) (map omega_value c.mix_over.new.list) c.in-One.is c.mix_over.ensures

pub returns-in-Delta : goal.returns-in-Delta
returns-in-Delta c = mixed_over_as c.args.divisor Delta c.args.place (map omega_value c.args.from.now) (map omega_value c.mix_over-in-Delta.new.list) c.in-Delta.is c.mix_over-in-Delta.ensures

pub returns-in-Conjugate : goal.returns-in-Conjugate
returns-in-Conjugate c = mixed_over_as c.args.divisor Conjugate c.args.place (map omega_value c.args.from.now) (map omega_value c.mix_over-in-Conjugate.new.list) c.in-Conjugate.is c.mix_over-in-Conjugate.ensures

pub returns-in-Both : goal.returns-in-Both
returns-in-Both c = mixed_over_as c.args.divisor Both c.args.place (map omega_value c.args.from.now) (map omega_value c.mix_over-in-Both.new.list) c.in-Both.is c.mix_over-in-Both.ensures

pub returns-in-BothDelta : goal.returns-in-BothDelta
returns-in-BothDelta c = mixed_over_as c.args.divisor BothDelta c.args.place (map omega_value c.args.from.now) (map omega_value c.mix_over-in-BothDelta.new.list) c.in-BothDelta.is c.mix_over-in-BothDelta.ensures

pub returns-in-BothConjugate : goal.returns-in-BothConjugate
returns-in-BothConjugate c = mixed_over_as c.args.divisor BothConjugate c.args.place (map omega_value c.args.from.now) (map omega_value c.mix_over-in-BothConjugate.new.list) c.in-BothConjugate.is c.mix_over-in-BothConjugate.ensures

pub returns-in-Two : goal.returns-in-Two
returns-in-Two c = mixed_over_as c.args.divisor Two c.args.place (map omega_value c.args.from.now) (map omega_value c.mix_over-in-Two.new.list) c.in-Two.is c.mix_over-in-Two.ensures
