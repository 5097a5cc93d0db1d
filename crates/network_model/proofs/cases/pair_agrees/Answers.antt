-- The case as the definitions compute it.
use Rattle.network_model.proofs.Worked.{worked}
use Rattle.network_model.proofs.cases.pair_agrees.Goals as goal

pub returns : goal.returns
returns c = worked.pair_agrees
