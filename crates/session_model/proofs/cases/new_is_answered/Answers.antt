-- The case as the definitions compute it.
use Rattle.session_model.proofs.Worked.{new_is_answered}
use Rattle.session_model.proofs.cases.new_is_answered.Goals as goal

pub returns : goal.returns
returns c = new_is_answered
