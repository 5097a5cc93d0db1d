use Rattle.std.proofs.Common.{sym, subst}
use Rattle.factored_core.specs.Changes.{IsPreparedStep}
use Rattle.factored_core.specs.declared.prepared.Prepared.{Prepared}
use Rattle.factored_core.proofs.TwoActs.{second_there, apart_leaves_node, apart_prepared}
use Rattle.factored_core.proofs.two_qubit_gates.apart.Goals as goal

pub keep-requires-2 : goal.keep-requires-2
keep-requires-2 g c = second_there _ _ _ _ c.requires.ready _ _ _ (c.requires.spots.1) c.requires.apart _ c.keep.ensures

pub prepare_node-requires : goal.prepare_node-requires
prepare_node-requires g c = apart_leaves_node _ _ _ _ c.requires.ready _ _ _ (c.requires.spots.1) c.requires.apart _ c.keep.ensures _ c.keep-2.ensures

pub returns-clause-step : goal.returns-clause-step
returns-clause-step g c =
    subst (λ (p : Prepared). IsPreparedStep c.args.shape.now (g.B.Board.cells c.args.board.now) (g.B.Board.cells c.prepare_node.new.board) p) (sym c.in_both.ensures)
    (apart_prepared _ _ _ _ c.requires.ready _ _ _ (c.requires.spots.1) c.requires.apart _ c.keep.ensures _ c.keep-2.ensures _ c.prepare_node.ensures c.requires.big)
