use Rattle.state_model.specs.Gate.{matrix}
use Rattle.state_model.specs.Undo.{product}
use Rattle.state_model.specs.declared.Gate.TheVariants.{H, RotZ}
use Rattle.gate_kernels.specs.Gates.{drafting}
use Rattle.gate_kernels.proofs.Matrices.{k_product}
use Rattle.gate_kernels.proofs.Made.{made_first, made_next, made_as}
use Rattle.gate_kernels.proofs.kernels.mix_turned.Goals as goal

pub returns : goal.returns
returns c =
    made_as drafting _ _ 2 c.args.place c.args.reg.now c.turn_rows-2.new.self k_product
    (made_next drafting (matrix (RotZ 2)) (product (matrix H) (matrix (RotZ 6))) 1 2 c.args.place c.args.reg.now c.mix_rows.new.self c.turn_rows-2.new.self
    (made_next drafting (matrix H) (matrix (RotZ 6)) 2 1 c.args.place c.args.reg.now c.turn_rows.new.self c.mix_rows.new.self
    (made_first drafting (matrix (RotZ 6)) 1 c.args.place c.args.reg.now c.begin_same.new.self c.turn_rows.new.self c.begin_same.ensures c.turn_rows.ensures)
    c.mix_rows.ensures)
    c.turn_rows-2.ensures)
