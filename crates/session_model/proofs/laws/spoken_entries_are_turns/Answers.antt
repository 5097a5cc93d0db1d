-- The law as it is proved.
use Rattle.session_model.proofs.Spoken.{spoken_entries_are_turns}
use Rattle.session_model.proofs.laws.spoken_entries_are_turns.Goals as goal

pub returns : goal.returns
returns c = spoken_entries_are_turns
