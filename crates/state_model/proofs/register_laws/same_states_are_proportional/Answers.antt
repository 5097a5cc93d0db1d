-- The law as it is proved.
use Rattle.state_model.proofs.RegisterLists.{same_states}
use Rattle.state_model.proofs.register_laws.same_states_are_proportional.Goals as goal

pub returns : goal.returns
returns c = same_states
