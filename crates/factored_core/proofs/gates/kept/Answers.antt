use Rattle.std.proofs.Common.{sym, ap, ◌∙◌, subst}
use Rattle.factored_core.specs.Changes.{IsPreparedStep}
use Rattle.factored_core.specs.declared.prepared.Prepared.{Prepared}
use Rattle.core_cells.specs.Cells.{Cells}
use Rattle.factored_core.proofs.Changed.{some_there}
use Rattle.factored_core.proofs.IdleSteps.{idle_prepared, idle_leaves_node}
use Rattle.factored_core.proofs.gates.kept.Goals as goal

pub keep-requires : goal.keep-requires
keep-requires g c = let at = c.spot_of-spot.ensures.spot in some_there _ at.cell (ap (λ (cs : Cells). cs.slot c.spot_of-spot.result.slot) c.spot_of-spot.ensures.same ∙ at.there)

pub prepare_node-requires : goal.prepare_node-requires
prepare_node-requires g c = idle_leaves_node _ _ _ _ c.requires.ready _ c.requires.number _ c.spot_of-spot.ensures.spot c.requires.kind _ _ c.spot_of-spot.ensures.same c.keep.ensures

pub returns-clause-step : goal.returns-clause-step
returns-clause-step g c =
    subst (λ (p : Prepared). IsPreparedStep c.args.shape.now (g.B.Board.cells c.args.board.now) (g.B.Board.cells c.prepare_node.new.board) p)
    (sym c.in_slot.ensures)
    (idle_prepared _ _ _ _ c.requires.ready _ c.requires.number _ c.spot_of-spot.ensures.spot c.requires.kind _ _ _ c.spot_of-spot.ensures.same c.keep.ensures c.prepare_node.ensures)
