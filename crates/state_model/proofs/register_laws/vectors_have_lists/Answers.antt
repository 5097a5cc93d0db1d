-- The law as it is proved.
use Rattle.state_model.proofs.RegisterLists.{list_of, length-list_of, list_of-vector}
use Rattle.state_model.proofs.register_laws.vectors_have_lists.Goals as goal

pub returns : goal.returns
returns c = λ qs v apart over. (list_of qs v, (length-list_of qs v, list_of-vector qs v apart over))
