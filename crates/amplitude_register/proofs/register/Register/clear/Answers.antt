use Rattle.std.proofs.Common.{◌∙◌, refl}
use Rattle.amplitude_register.proofs.Fields.{kept_one, one_weighed}
use Rattle.amplitude_register.proofs.Placed.{next_placed, value_placed, none_block}
use Rattle.amplitude_register.proofs.register.Register.clear.Goals as goal

pub invariant_of-self : goal.invariant_of-self
invariant_of-self c = let i = c.self.invariant in let b = i.value in next_placed record { limit = c.self.inside.limit; value = _; next = c.self.inside.next; stage = c.self.inside.stage } _ _ (value_placed c.self.inside _ i (none_block _ _ refl refl (c.write_one.ensures.room ∙ b.room) b.numbers) (one_weighed _ c.write_one.ensures.written) (kept_one _ c.write_one.ensures.written)) i.next tt
