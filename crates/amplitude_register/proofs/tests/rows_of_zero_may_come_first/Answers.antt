use Rattle.std.proofs.Common.{rules}
use Rattle.amplitude_register.proofs.Fields.{distinct_two}
use Rattle.amplitude_register.proofs.tests.rows_of_zero_may_come_first.Goals as goal

pub begin-requires-clause-distinct : goal.begin-requires-clause-distinct
begin-requires-clause-distinct b c = distinct_two 7 3 (λ e. cc)

pub seal-requires-clause-nonzero : goal.seal-requires-clause-nonzero
seal-requires-clause-nonzero b c = (2, search rules)
