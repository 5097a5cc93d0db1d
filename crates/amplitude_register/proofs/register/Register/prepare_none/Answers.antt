use Rattle.std.proofs.Common.{◌∙◌, refl}
use Rattle.amplitude_register.proofs.Fields.{kept_one, one_weighed}
use Rattle.amplitude_register.proofs.Placed.{next_placed, none_block}
use Rattle.amplitude_register.proofs.register.Register.prepare_none.Goals as goal

pub invariant_of-self : goal.invariant_of-self
invariant_of-self c = let i = c.self.invariant in let b = i.next in next_placed c.self.inside _ _ i (none_block _ _ refl refl (c.write_one.ensures.room ∙ b.room) b.numbers) (one_weighed _ c.write_one.ensures.written, kept_one _ c.write_one.ensures.written)
