use Rattle.std.proofs.Common.{arith, ◌∙◌, refl, ap}
use Rattle.amplitude_register.specs.States.{RegisterState}
use Rattle.amplitude_register.specs.Held.{amplitudes_of, next_of}
use Rattle.amplitude_register.proofs.Fields.{set_basis_is, kept_pair, distinct_pair_weighed, four_le}
use Rattle.amplitude_register.proofs.Placed.{value_placed, two_block}
use Rattle.amplitude_register.proofs.register.Register.set_pair.Goals as goal

pub returns : goal.returns
returns c = set_basis_is c.args.self.now c.self.inside.limit (amplitudes_of c.self.inside.value) (next_of c.self.inside.stage (amplitudes_of c.self.inside.next)) _ _ _ _ c.self.view_is c.write_two.ensures.written c.write_pair.ensures.written

pub write_pair-requires : goal.write_pair-requires
write_pair-requires c = let i = c.self.invariant in let v = i.value in let r = v.room in let p = four_le c.self.inside.limit (let e = ap (λ (t : RegisterState). t.limit) c.self.view_is in omega (arith, e, c.requires.room)) in omega (arith, r, p)

pub invariant_of-self : goal.invariant_of-self
invariant_of-self c = let i = c.self.invariant in let b = i.value in value_placed c.self.inside _ i (two_block _ c.args.p c.args.q _ c.requires.apart (let e = ap (λ (t : RegisterState). t.limit) c.self.view_is in omega (arith, e, c.requires.room)) refl refl (c.write_pair.ensures.room ∙ b.room) c.write_two.ensures.room c.write_two.ensures.written) (distinct_pair_weighed _ c.write_pair.ensures.written) (kept_pair _ c.write_pair.ensures.written)
