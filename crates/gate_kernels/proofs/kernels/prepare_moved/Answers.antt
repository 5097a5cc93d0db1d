use Rattle.std.proofs.Common.{sym, subst}
use Rattle.state_model.specs.declared.Gate.{Gate}
use Rattle.state_model.specs.declared.Gate.TheVariants.{X, Z, T, RotZ}
use Rattle.gate_kernels.specs.Gates.{preparing, IsApplied}
use Rattle.gate_kernels.proofs.Made.{copied, made_as, applied_same, z_matrix, t_matrix, applied_exactly, applied_y}
use Rattle.gate_kernels.proofs.kernels.prepare_moved.Goals as goal

pub returns-in-X : goal.returns-in-X
returns-in-X c = λ e. subst (λ (t : Gate). IsApplied t c.args.place c.args.reg.now c.exchange.new.reg) (sym c.in-X.is) (applied_exactly X 1 c.args.place c.args.reg.now c.exchange.new.reg c.facts.ensures.rows c.requires.place c.exchange.ensures.made c.exchange.ensures.kept)

pub returns-in-Y : goal.returns-in-Y
returns-in-Y c = λ e. subst (λ (t : Gate). IsApplied t c.args.place c.args.reg.now c.exchange_and_turn.new.reg) (sym c.in-Y.is) (applied_y 1 c.args.place c.args.reg.now c.exchange_and_turn.new.reg c.facts.ensures.rows c.requires.place c.exchange_and_turn.ensures.made c.exchange_and_turn.ensures.kept)

pub returns-in-Z : goal.returns-in-Z
returns-in-Z c = λ e. subst (λ (t : Gate). IsApplied t c.args.place c.args.reg.now c.turn.new.reg) (sym c.in-Z.is) (applied_exactly Z 1 c.args.place c.args.reg.now c.turn.new.reg c.facts.ensures.rows c.requires.place (made_as preparing _ _ 1 c.args.place c.args.reg.now c.turn.new.reg z_matrix c.turn.ensures.made) c.turn.ensures.kept)

pub returns-in-T : goal.returns-in-T
returns-in-T c = λ e. subst (λ (t : Gate). IsApplied t c.args.place c.args.reg.now c.turn-in-T.new.reg) (sym c.in-T.is) (applied_exactly T 1 c.args.place c.args.reg.now c.turn-in-T.new.reg c.facts.ensures.rows c.requires.place (made_as preparing _ _ 1 c.args.place c.args.reg.now c.turn-in-T.new.reg t_matrix c.turn-in-T.ensures.made) c.turn-in-T.ensures.kept)

pub returns-in-RotZ : goal.returns-in-RotZ
returns-in-RotZ c = λ e. subst (λ (t : Gate). IsApplied t c.args.place c.args.reg.now c.turn-in-RotZ.new.reg) (sym c.in-RotZ.is) (applied_exactly (RotZ c.in-RotZ.eighths) 1 c.args.place c.args.reg.now c.turn-in-RotZ.new.reg c.facts.ensures.rows c.requires.place c.turn-in-RotZ.ensures.made c.turn-in-RotZ.ensures.kept)

pub returns-in-I : goal.returns-in-I
returns-in-I c = copied c.args.gate c.args.place c.args.reg.now c.prepare_same.new.self c.in-I.is (applied_same c.args.place c.args.reg.now c.prepare_same.new.self c.facts.ensures.rows c.facts.ensures.kept c.requires.place c.prepare_same.ensures)
