use Rattle.factored_core.specs.Slots.{IsSame}
use Rattle.factored_core.proofs.Changed.{prepares}
use Rattle.factored_core.proofs.slots.keep.Goals as goal

pub returns : goal.returns
returns g c = prepares _ _ _ _ _ IsSame c.slot.ensures.value (g.met.B.Board.are_put.slot _ _ _ c.requires) _ c.prepare_same.ensures c.prepare_same.ensures
