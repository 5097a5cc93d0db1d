-- The law as it is proved.
use Rattle.state_model.proofs.RegisterSums.{squares_over-register}
use Rattle.state_model.proofs.register_laws.registers_have_squares.Goals as goal

pub returns : goal.returns
returns c = squares_over-register
