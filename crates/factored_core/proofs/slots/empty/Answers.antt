use Rattle.amplitude_register.specs.States.{no_qubit}
use Rattle.factored_core.specs.Slots.{IsPreparedAs}
use Rattle.factored_core.proofs.Changed.{prepares}
use Rattle.factored_core.proofs.slots.empty.Goals as goal

pub returns : goal.returns
returns g c = prepares _ _ _ _ _ (IsPreparedAs no_qubit) c.slot.ensures.value (g.met.B.Board.are_put.slot _ _ _ c.requires) _ c.prepare_none.ensures c.prepare_none.ensures
