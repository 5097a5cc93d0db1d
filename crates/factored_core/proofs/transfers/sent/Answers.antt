use Rattle.std.proofs.Common.{refl, sym, subst}
use Rattle.factored_core.specs.Changes.{IsPreparedStep}
use Rattle.factored_core.specs.declared.prepared.Prepared.{Prepared}
use Rattle.factored_core.proofs.SendSteps.{send_leaves_other, send_prepared}
use Rattle.factored_core.proofs.transfers.sent.Goals as goal

pub returns-clause-step : goal.returns-clause-step
returns-clause-step g c =
    subst (λ (p : Prepared). IsPreparedStep c.args.shape.now (g.B.Board.cells c.args.board.now) (g.B.Board.cells c.prepare_node-2.new.board) p)
    (sym c.in_nodes.ensures)
    (send_prepared _ _ _ _ c.requires.ready _ c.requires.kind _ c.requires.other _ c.requires.copied _ _ refl _ c.prepare_node.ensures
    c.send.ensures.from _ _ c.prepare_node-2.ensures c.send.ensures.to)

pub prepare_node-requires-2 : goal.prepare_node-requires-2
prepare_node-requires-2 g c =
    send_leaves_other _ _ _ _ c.requires.ready _ c.requires.kind _ c.requires.other _ c.requires.copied _ _ refl _ c.prepare_node.ensures
