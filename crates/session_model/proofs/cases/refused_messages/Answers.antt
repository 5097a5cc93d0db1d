-- The case as the definitions compute it.
use Rattle.session_model.proofs.Worked.{refused_messages}
use Rattle.session_model.proofs.cases.refused_messages.Goals as goal

pub returns : goal.returns
returns c = refused_messages
