use Rattle.std.proofs.Common.{refl}
use Rattle.state_model.specs.Gate.{matrix}
use Rattle.state_model.specs.Undo.{product}
use Rattle.state_model.specs.declared.Gate.TheVariants.{H, RotZ}
use Rattle.gate_kernels.specs.Gates.{drafting}
use Rattle.gate_kernels.proofs.Matrices.{x_product}
use Rattle.gate_kernels.proofs.Made.{made_first, made_next, made_as}
use Rattle.gate_kernels.proofs.kernels.turn_mixed.Goals as goal

pub returns : goal.returns
returns c =
    made_as drafting _ _ 4 c.args.place c.args.reg.now c.mix_rows.new.self (x_product c.args.eighths)
    (made_next drafting (matrix H) (product (matrix (RotZ c.args.eighths)) (matrix H)) 2 2 c.args.place c.args.reg.now c.turn_rows.new.self c.mix_rows.new.self
    (made_next drafting (matrix (RotZ c.args.eighths)) (matrix H) 1 2 c.args.place c.args.reg.now c.begin_mixed.new.self c.turn_rows.new.self
    (made_first drafting (matrix H) 2 c.args.place c.args.reg.now _ c.begin_mixed.new.self refl c.begin_mixed.ensures)
    c.turn_rows.ensures)
    c.mix_rows.ensures)
