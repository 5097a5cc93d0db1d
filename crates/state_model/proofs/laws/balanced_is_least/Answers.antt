-- The law as it is proved.
use Rattle.state_model.proofs.Least.{least}
use Rattle.state_model.proofs.laws.balanced_is_least.Goals as goal

pub returns : goal.returns
returns c = least
