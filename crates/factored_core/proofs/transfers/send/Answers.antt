use Rattle.std.proofs.Common.{IsSome, refl, sym, subst}
use Rattle.core_cells.specs.Cells.{Cells}
use Rattle.network_model.specs.Kinds.{takes_qubit}
use Rattle.factored_core.specs.Ready.{IsReady}
use Rattle.factored_core.proofs.RefusalLines.{found_by, le_by, lt_by, other_sent, other_present, refused_along, refused_missing, refused_alone, refused_send, ready_send}
use Rattle.factored_core.proofs.transfers.send.Goals as goal

pub returns-in_default-clause-step : goal.returns-in_default-clause-step
returns-in_default-clause-step g c =
    c.refused.ensures.step c.args.shape.now
    (unfold takes_qubit in refused_missing _ _ _ _ c.requires.open _ c.requires.kind refl (found_by _ _ _ _ _ _ c.find.ensures c.handles.ensures c.in_default.is))

pub returns-in_default-other_at-clause-step : goal.returns-in_default-other_at-clause-step
returns-in_default-other_at-clause-step g c =
    c.refused-in_default-other_at.ensures.step c.args.shape.now
    (refused_alone _ _ _ _ c.requires.open _ c.requires.kind _ (found_by _ _ _ _ _ _ c.find.ensures c.handles.ensures c.in-Some.is) (other_sent _ _ _ _ _ c.requires.kind c.other_at.ensures c.in_default-other_at.is))

pub held_node-to-requires : goal.held_node-to-requires
held_node-to-requires g c = other_present _ _ _ _ c.requires.open _ (other_sent _ _ _ _ _ c.requires.kind c.other_at.ensures c.in-Some-other_at.is)

pub sent-requires-clause-ready : goal.sent-requires-clause-ready
sent-requires-clause-ready g c =
    subst (λ (d : Cells). IsReady c.args.shape.now c.args.call.now d c.args.own) (sym c.held_node-to.ensures.same)
    (ready_send _ _ _ _ c.requires.open _ c.requires.kind _ (found_by _ _ _ _ _ _ c.find.ensures c.handles.ensures c.in-Some.is) _ (other_sent _ _ _ _ _ c.requires.kind c.other_at.ensures c.in-Some-other_at.is)
    _ c.held_node-to.ensures.copied c.facts.ensures (lt_by _ _ _ _ c.held.ensures.held c.room.ensures.room c.if-held-room.true))

pub sent-requires-clause-other : goal.sent-requires-clause-other
sent-requires-clause-other g c = (other_sent _ _ _ _ _ c.requires.kind c.other_at.ensures c.in-Some-other_at.is)

pub refused-requires-else-held-room-clause-other : goal.refused-requires-else-held-room-clause-other
refused-requires-else-held-room-clause-other g c = subst (λ (d : Cells). IsSome (d.node c.in-Some-other_at.other)) (sym c.held_node-to.ensures.same) (other_present _ _ _ _ c.requires.open _ (other_sent _ _ _ _ _ c.requires.kind c.other_at.ensures c.in-Some-other_at.is))

pub returns-else-held-room-clause-step : goal.returns-else-held-room-clause-step
returns-else-held-room-clause-step g c =
    refused_along c.args.shape.now _ _ _ _ _ _ _ _ c.held_node-to.ensures.same c.refused-else-held-room.ensures.step
    (refused_send _ _ _ _ c.requires.open _ c.requires.kind _ (found_by _ _ _ _ _ _ c.find.ensures c.handles.ensures c.in-Some.is) _ (other_sent _ _ _ _ _ c.requires.kind c.other_at.ensures c.in-Some-other_at.is)
    _ c.held_node-to.ensures.copied c.facts.ensures (le_by _ _ _ _ c.room.ensures.room c.held.ensures.held c.if-held-room.false))
