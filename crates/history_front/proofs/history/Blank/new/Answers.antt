use Rattle.history_front.proofs.Keeps.{opens}
use Rattle.history_front.proofs.history.Blank.new.Goals as goal

pub of_words-requires : goal.of_words-requires
of_words-requires g c = opens
