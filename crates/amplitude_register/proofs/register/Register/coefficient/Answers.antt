use Rattle.std.proofs.Common.{ap}
use Rattle.amplitude_register.specs.States.{RegisterState}
use Rattle.amplitude_register.proofs.Fields.{block_room, coefficient_is}
use Rattle.amplitude_register.proofs.register.Register.coefficient.Goals as goal

pub returns : goal.returns
returns c = let i = c.self.invariant in coefficient_is _ _ _ _ c.args.row c.index.result.now (ap (λ (t : RegisterState). t.value) c.self.view_is) c.requires (block_room _ _ i.value) c.index.ensures
