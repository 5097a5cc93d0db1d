use Rattle.amplitude_register.proofs.Fields.{distinct_two}
use Rattle.amplitude_register.proofs.tests.powers_of_delta_go_with_other_factors.Goals as goal

pub begin-requires-clause-distinct : goal.begin-requires-clause-distinct
begin-requires-clause-distinct b c = distinct_two 7 3 (λ e. cc)
