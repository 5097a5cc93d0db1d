use Rattle.factored_core.proofs.WholeCore.{stands_grown}
use Rattle.factored_core.proofs.laws.core_steps_stand.Goals as goal

pub returns : goal.returns
returns c = stands_grown
