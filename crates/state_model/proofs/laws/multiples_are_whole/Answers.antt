-- The law as it is proved.
use Rattle.state_model.proofs.Euclid.{whole_multiple}
use Rattle.state_model.proofs.laws.multiples_are_whole.Goals as goal

pub returns : goal.returns
returns c = whole_multiple
