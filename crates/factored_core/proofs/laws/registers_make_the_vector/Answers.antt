use Rattle.network_model.specs.History.{after}
use Rattle.network_model.specs.Factored.{homes_after}
use Rattle.factored_core.proofs.WholeVector.{product_is_whole}
use Rattle.factored_core.proofs.laws.registers_make_the_vector.Goals as goal

pub returns : goal.returns
returns c shape h cs all stands = product_is_whole shape (after shape h) (homes_after shape h) cs stands.standing all stands.fit
