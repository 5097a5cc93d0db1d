use Rattle.amplitude_register.proofs.Fields.{distinct_one}
use Rattle.register_split.proofs.tests.weights_may_be_irrational_until_they_are_balanced.Goals as goal

pub begin-requires-clause-distinct : goal.begin-requires-clause-distinct
begin-requires-clause-distinct b c = distinct_one 3
