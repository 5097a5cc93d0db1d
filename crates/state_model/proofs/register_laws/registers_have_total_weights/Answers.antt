-- The law as it is proved.
use Rattle.state_model.proofs.RegisterSums.{weight_of-register}
use Rattle.state_model.proofs.register_laws.registers_have_total_weights.Goals as goal

pub returns : goal.returns
returns c = weight_of-register
