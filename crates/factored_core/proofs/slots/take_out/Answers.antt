use Rattle.register_split.specs.Removal.{IsTakenOut}
use Rattle.factored_core.proofs.Changed.{prepares, some_there}
use Rattle.factored_core.proofs.slots.take_out.Goals as goal

pub returns : goal.returns
returns g c =
    prepares _ _ _ _ _ (IsTakenOut c.args.spot.place c.args.bit) c.slot.ensures.value
    (g.met.B.Board.are_put.slot _ _ _ (some_there _ _ c.slot.ensures.value)) _ c.prepare_take_out.ensures.after c.prepare_take_out.ensures
