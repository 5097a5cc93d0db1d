use Rattle.factored_core.proofs.Changed.{gate_prepares, some_there}
use Rattle.factored_core.proofs.slots.gate.Goals as goal

pub returns : goal.returns
returns g c =
    gate_prepares _ _ _ _ _ c.args.gate c.args.spot.place c.gate_or_same.result c.slot.ensures.value
    (g.met.B.Board.are_put.slot _ _ _ (some_there _ _ c.slot.ensures.value)) c.gate_or_same.ensures
