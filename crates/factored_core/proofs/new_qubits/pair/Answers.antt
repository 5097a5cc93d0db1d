use Rattle.std.proofs.Common.{IsSome, refl, sym, subst}
use Rattle.core_cells.specs.Cells.{Cells}
use Rattle.factored_core.specs.Ready.{IsReady}
use Rattle.factored_core.proofs.RefusalLines.{le_by, lt_by, other_paired, other_present, refused_along, refused_partner, refused_own_room, refused_other_room, refused_limit, ready_pair}
use Rattle.factored_core.proofs.new_qubits.pair.Goals.{then-held-room-via-then-held-room, then-held-room-via-else-held-room+then-held-room-2}
use Rattle.factored_core.proofs.new_qubits.pair.Goals as goal

pub returns-in_default-clause-step : goal.returns-in_default-clause-step
returns-in_default-clause-step g c =
    c.refused.ensures.step c.args.shape.now (refused_partner _ _ _ _ c.requires.open _ c.requires.kind (other_paired _ _ _ _ _ c.requires.kind c.other_at.ensures c.in_default.is))

pub held_node-to-requires : goal.held_node-to-requires
held_node-to-requires g c = other_present _ _ _ _ c.requires.open _ (other_paired _ _ _ _ _ c.requires.kind c.other_at.ensures c.in-Some.is)

pub refused-requires-then-held-room-clause-other : goal.refused-requires-then-held-room-clause-other
refused-requires-then-held-room-clause-other g c = subst (λ (d : Cells). IsSome (d.node c.in-Some.other)) (sym c.held_node-to.ensures.same) (other_present _ _ _ _ c.requires.open _ (other_paired _ _ _ _ _ c.requires.kind c.other_at.ensures c.in-Some.is))

pub returns-then-held-room-clause-step : goal.returns-then-held-room-clause-step
returns-then-held-room-clause-step g c =
    refused_along c.args.shape.now _ _ _ _ _ _ _ _ c.held_node-to.ensures.same c.refused-then-held-room.ensures.step
    (elim c.then-held-room.branch [
      | then-held-room-via-then-held-room w ↦ refused_own_room _ _ _ _ c.requires.open _ c.requires.kind _ (other_paired _ _ _ _ _ c.requires.kind c.other_at.ensures c.in-Some.is) _ c.held_node-to.ensures.copied c.facts.ensures (le_by _ _ _ _ c.room.ensures.room c.held.ensures.held w.if-held-room.true)
      | then-held-room-via-else-held-room+then-held-room-2 w ↦ refused_other_room _ _ _ _ c.requires.open _ c.requires.kind _ (other_paired _ _ _ _ _ c.requires.kind c.other_at.ensures c.in-Some.is) _ c.held_node-to.ensures.copied c.facts.ensures
          (lt_by _ _ _ _ c.held.ensures.held c.room.ensures.room w.if-held-room.false)
          (le_by _ _ _ _ w.room-else-held-room.ensures.room w.held-else-held-room.ensures.held w.if-held-room-2.true)
    ])

pub refused-requires-then-limit-lt2-clause-other : goal.refused-requires-then-limit-lt2-clause-other
refused-requires-then-limit-lt2-clause-other g c = subst (λ (d : Cells). IsSome (d.node c.in-Some.other)) (sym c.held_node-to.ensures.same) (other_present _ _ _ _ c.requires.open _ (other_paired _ _ _ _ _ c.requires.kind c.other_at.ensures c.in-Some.is))

pub returns-then-limit-lt2-clause-step : goal.returns-then-limit-lt2-clause-step
returns-then-limit-lt2-clause-step g c =
    refused_along c.args.shape.now _ _ _ _ _ _ _ _ c.held_node-to.ensures.same c.refused-then-limit-lt2.ensures.step
    (refused_limit _ _ _ _ c.requires.open _ c.requires.kind _ (other_paired _ _ _ _ _ c.requires.kind c.other_at.ensures c.in-Some.is) _ c.held_node-to.ensures.copied c.facts.ensures (lt_by _ _ _ _ c.held.ensures.held c.room.ensures.room c.if-held-room.false)
    (lt_by _ _ _ _ c.held-else-held-room.ensures.held c.room-else-held-room.ensures.room c.if-held-room-2.false) (lt_by _ _ _ _ c.limit.ensures.limit refl c.if-limit-lt2.true))

pub paired-requires-clause-ready : goal.paired-requires-clause-ready
paired-requires-clause-ready g c =
    subst (λ (d : Cells). IsReady c.args.shape.now c.args.call.now d c.args.own) (sym c.held_node-to.ensures.same)
    (ready_pair _ _ _ _ c.requires.open _ c.requires.kind _ (other_paired _ _ _ _ _ c.requires.kind c.other_at.ensures c.in-Some.is) _ c.held_node-to.ensures.copied c.facts.ensures (lt_by _ _ _ _ c.held.ensures.held c.room.ensures.room c.if-held-room.false)
    (lt_by _ _ _ _ c.held-else-held-room.ensures.held c.room-else-held-room.ensures.room c.if-held-room-2.false) (le_by _ _ _ _ refl c.limit.ensures.limit c.if-limit-lt2.false))

pub paired-requires-clause-other : goal.paired-requires-clause-other
paired-requires-clause-other g c = (other_paired _ _ _ _ _ c.requires.kind c.other_at.ensures c.in-Some.is)
