-- The case as the definitions compute it.
use Rattle.session_model.proofs.Worked.{short_body}
use Rattle.session_model.proofs.cases.short_body.Goals as goal

pub returns : goal.returns
returns c = short_body
