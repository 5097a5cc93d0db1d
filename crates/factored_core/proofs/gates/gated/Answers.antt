use Rattle.std.proofs.Common.{None, sym, ap, ◌∙◌, subst}
use Rattle.network_model.specs.declared.CoreReply.{CoreReply}
use Rattle.factored_core.specs.Changes.{IsPreparedStep}
use Rattle.factored_core.specs.Replies.{in_one_slot}
use Rattle.factored_core.specs.declared.prepared.Prepared.{Prepared}
use Rattle.factored_core.proofs.GateActs.{gate_prepared, gate_leaves_node}
use Rattle.factored_core.proofs.gates.gated.Goals as goal

pub prepare_node-requires : goal.prepare_node-requires
prepare_node-requires g c = gate_leaves_node _ _ _ _ c.requires.ready _ _ c.spot_of-spot.ensures.spot _ _ _ _ c.spot_of-spot.ensures.same c.gate-gated.ensures

pub returns-clause-step : goal.returns-clause-step
returns-clause-step g c =
    subst (λ (p : Prepared). IsPreparedStep c.args.shape.now (g.B.Board.cells c.args.board.now) (g.B.Board.cells c.prepare_node.new.board) p)
    (sym (c.in_slot.ensures ∙ ap (λ (r : CoreReply). in_one_slot c.args.call.now None r c.spot_of-spot.result.slot) c.gate_reply.ensures))
    (gate_prepared _ _ _ _ c.requires.ready _ _ c.prepare_node.ensures _ c.requires.number _ c.spot_of-spot.ensures.spot _ c.requires.kind _ _ c.spot_of-spot.ensures.same c.gate-gated.ensures)
