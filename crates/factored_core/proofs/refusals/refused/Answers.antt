use Rattle.std.proofs.Common.{Some, sym, subst}
use Rattle.core_cells.specs.Nodes.{NodeValues}
use Rattle.factored_core.specs.Changes.{IsPreparedStep}
use Rattle.factored_core.specs.declared.prepared.Prepared.{Prepared}
use Rattle.factored_core.proofs.RefusalSteps.{still_there, refusal_prepared}
use Rattle.factored_core.proofs.refusals.refused.Goals as goal

pub keep_node-requires : goal.keep_node-requires
keep_node-requires g c = still_there _ _ c.args.call.now.node (λ (w : NodeValues). record w { next = Some c.args.own.now }) c.requires.own c.prepare_node.ensures _ c.requires.other

pub returns-clause-step : goal.returns-clause-step
returns-clause-step g c shape ready =
    subst (λ (p : Prepared). IsPreparedStep shape (g.B.Board.cells c.args.board.now) (g.B.Board.cells c.keep_node.new.board) p)
    (sym c.in_nodes.ensures)
    (refusal_prepared _ _ _ _ _ _ ready _ c.prepare_node.ensures _ c.keep_node.ensures)
