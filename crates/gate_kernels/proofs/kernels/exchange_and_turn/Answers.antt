use Rattle.state_model.specs.Gate.{matrix}
use Rattle.state_model.specs.declared.Gate.TheVariants.{X, RotZ}
use Rattle.gate_kernels.specs.Gates.{preparing}
use Rattle.gate_kernels.proofs.Made.{made_next}
use Rattle.gate_kernels.proofs.kernels.exchange_and_turn.Goals as goal

pub returns-clause-made : goal.returns-clause-made
returns-clause-made c = made_next preparing (matrix (RotZ 4)) (matrix X) 1 1 c.args.place c.args.reg.now c.exchange.new.reg c.turn_rows.new.self c.exchange.ensures.made c.turn_rows.ensures
