-- The law as it is proved.
use Rattle.state_model.proofs.RegisterSizes.{normal_size}
use Rattle.state_model.proofs.register_laws.normal_lists_have_sizes.Goals as goal

pub returns : goal.returns
returns c = normal_size
