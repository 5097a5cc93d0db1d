use Rattle.amplitude_register.specs.States.{pair_state}
use Rattle.factored_core.specs.Slots.{IsPreparedAs}
use Rattle.factored_core.proofs.Changed.{prepares, some_there}
use Rattle.factored_core.proofs.slots.set_pair.Goals as goal

pub returns : goal.returns
returns g c = prepares _ _ _ _ _ (IsPreparedAs (pair_state c.args.first c.args.second)) c.slot.ensures.value (g.met.B.Board.are_put.slot _ _ _ (some_there _ _ c.slot.ensures.value)) _ c.prepare_pair.ensures c.prepare_pair.ensures
