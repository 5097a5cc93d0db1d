use Rattle.held_board.specs.Held.{held_cells}
use Rattle.quantum_hub.proofs.Steps.{same_keeps, step_keeps}
use Rattle.quantum_hub.proofs.making.make.Goals as goal

pub returns-in_default-clause-kept : goal.returns-in_default-clause-kept
returns-in_default-clause-kept g c = same_keeps c.args.shape.now (held_cells c.args.board.now)

pub returns-then-awaits_in_vain-clause-kept : goal.returns-then-awaits_in_vain-clause-kept
returns-then-awaits_in_vain-clause-kept g c = same_keeps c.args.shape.now (held_cells c.args.board.now)

pub returns-clause-kept : goal.returns-clause-kept
returns-clause-kept g c =
    step_keeps c.args.shape.now (held_cells c.args.board.now) (held_cells c.prepare-prepared.new.board) c.prepare-prepared.result c.prepare-prepared.ensures.step
