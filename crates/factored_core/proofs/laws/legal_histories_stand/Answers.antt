use Rattle.factored_core.proofs.Homed.{legal_histories_stand}
use Rattle.factored_core.proofs.laws.legal_histories_stand.Goals as goal

pub returns : goal.returns
returns c = legal_histories_stand
