use Rattle.amplitude_register.proofs.Fields.{distinct_two}
use Rattle.amplitude_register.proofs.tests.a_factor_of_all_rows_but_the_last_stays.Goals as goal

pub begin-requires-clause-distinct : goal.begin-requires-clause-distinct
begin-requires-clause-distinct b c = distinct_two 7 3 (λ e. cc)
