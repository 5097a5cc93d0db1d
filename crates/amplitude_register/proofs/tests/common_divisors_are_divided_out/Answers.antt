use Rattle.amplitude_register.proofs.Fields.{distinct_one}
use Rattle.amplitude_register.proofs.tests.common_divisors_are_divided_out.Goals as goal

pub begin-requires-clause-distinct : goal.begin-requires-clause-distinct
begin-requires-clause-distinct b c = distinct_one 7
