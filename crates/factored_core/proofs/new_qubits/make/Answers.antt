use Rattle.factored_core.proofs.RefusalLines.{le_by, lt_by, refused_make, ready_make}
use Rattle.factored_core.proofs.new_qubits.make.Goals as goal

pub made-requires-clause-ready : goal.made-requires-clause-ready
made-requires-clause-ready g c = ready_make _ _ _ _ c.requires.open c.requires.kind (lt_by _ _ _ _ c.held.ensures.held c.room.ensures.room c.if-held-room.true)

pub returns-else-held-room-clause-step : goal.returns-else-held-room-clause-step
returns-else-held-room-clause-step g c =
    c.refused.ensures.step c.args.shape.now (refused_make _ _ _ _ c.requires.open c.requires.kind (le_by _ _ _ _ c.room.ensures.room c.held.ensures.held c.if-held-room.false))
