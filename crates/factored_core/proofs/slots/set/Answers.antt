use Rattle.amplitude_register.specs.States.{basis_state}
use Rattle.factored_core.specs.Slots.{IsPreparedAs}
use Rattle.factored_core.proofs.Changed.{prepares}
use Rattle.factored_core.proofs.slots.set.Goals as goal

pub returns : goal.returns
returns g c = prepares _ _ _ _ _ (IsPreparedAs (basis_state c.args.number c.args.bit)) c.slot.ensures.value (g.met.B.Board.are_put.slot _ _ _ c.requires) _ c.prepare_basis.ensures c.prepare_basis.ensures
