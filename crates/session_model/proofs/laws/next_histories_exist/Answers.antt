-- The law as it is proved.
use Rattle.session_model.proofs.NextHistories.{next_histories_exist}
use Rattle.session_model.proofs.laws.next_histories_exist.Goals as goal

pub returns : goal.returns
returns c = next_histories_exist
