-- The law as it is proved.
use Rattle.state_model.proofs.Reduced.{product_reduced}
use Rattle.state_model.proofs.laws.product_is_reduced.Goals as goal

pub returns : goal.returns
returns c = product_reduced
