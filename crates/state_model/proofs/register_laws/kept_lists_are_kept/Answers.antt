-- The law as it is proved.
use Rattle.state_model.proofs.KeptLists.{kept_list}
use Rattle.state_model.proofs.register_laws.kept_lists_are_kept.Goals as goal

pub returns : goal.returns
returns c = kept_list
