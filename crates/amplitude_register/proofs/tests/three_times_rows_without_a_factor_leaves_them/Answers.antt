use Rattle.amplitude_register.proofs.Fields.{distinct_two}
use Rattle.amplitude_register.proofs.tests.three_times_rows_without_a_factor_leaves_them.Goals as goal

pub begin-requires-clause-distinct : goal.begin-requires-clause-distinct
begin-requires-clause-distinct b c = distinct_two 7 3 (λ e. cc)
