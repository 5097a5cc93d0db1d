-- The case as the definitions compute it.
use Rattle.session_model.proofs.Worked.{hello_is_answered}
use Rattle.session_model.proofs.cases.hello_is_answered.Goals as goal

pub returns : goal.returns
returns c = hello_is_answered
