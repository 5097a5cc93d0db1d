-- The case as the definitions compute it.
use Rattle.network_model.proofs.Worked.{teleportation}
use Rattle.network_model.proofs.cases.teleportation.Goals as goal

pub returns : goal.returns
returns c = teleportation
