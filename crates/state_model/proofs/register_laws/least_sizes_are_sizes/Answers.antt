-- The law as it is proved.
use Rattle.state_model.proofs.RegisterSizes.{least_size}
use Rattle.state_model.proofs.register_laws.least_sizes_are_sizes.Goals as goal

pub returns : goal.returns
returns c = least_size
