use Rattle.std.proofs.Common.{ap, ◌∙◌, arith}
use Rattle.core_cells.proofs.Named.{some_step, none_step, none_left}
use Rattle.core_cells.proofs.lent.end_all.Goals as goal
use Rattle.core_cells.proofs.lent.end_all.Goals.{in-Some, in_default}

pub loop-name-preserved : goal.loop-name-preserved
loop-name-preserved g c = elim c.match-name.branch [
  | in-Some w ↦ some_step c.args.ending c.args.names.now c.loop-name.name-index (omega arith) _ _ _ c.loop-name.invariant _ w.in-Some.is (ap g.B.Board.cells w.board-is ∙ w.end.ensures)
  | in_default w ↦ none_step c.args.ending c.args.names.now c.loop-name.name-index (omega arith) _ _ _ c.loop-name.invariant w.in_default.is (ap g.B.Board.cells w.board-is)
]

pub returns : goal.returns
returns g c = none_left c.args.ending c.args.names.now c.loop-name.name-index _ _ (omega arith) c.loop-name.invariant
