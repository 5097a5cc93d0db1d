-- The law as it is proved.
use Rattle.state_model.proofs.RegisterLists.{scaled_same}
use Rattle.state_model.proofs.register_laws.multiples_are_same_states.Goals as goal

pub returns : goal.returns
returns c = scaled_same
