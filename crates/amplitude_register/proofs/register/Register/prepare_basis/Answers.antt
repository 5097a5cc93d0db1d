use Rattle.std.proofs.Common.{arith, ◌∙◌, refl}
use Rattle.amplitude_register.specs.Held.{amplitudes_of, next_of}
use Rattle.amplitude_register.proofs.Fields.{next_prepared, kept_basis, basis_weighed, two_le}
use Rattle.amplitude_register.proofs.Placed.{next_placed, one_block}
use Rattle.amplitude_register.proofs.register.Register.prepare_basis.Goals as goal

pub returns : goal.returns
returns c = next_prepared c.args.self.now c.self.inside.limit (amplitudes_of c.self.inside.value) (next_of c.self.inside.stage (amplitudes_of c.self.inside.next)) _ _ _ _ c.self.view_is c.write_number.ensures.written c.write_basis.ensures.written

pub write_basis-requires : goal.write_basis-requires
write_basis-requires c = let i = c.self.invariant in let v = i.next in let r = v.room in let p = two_le c.self.inside.limit i.some in omega (arith, r, p)

pub invariant_of-self : goal.invariant_of-self
invariant_of-self c = let i = c.self.invariant in let b = i.next in next_placed c.self.inside _ _ i (one_block _ c.args.q _ i.some refl refl (c.write_basis.ensures.room ∙ b.room) c.write_number.ensures.room c.write_number.ensures.written) (basis_weighed _ c.args.bit c.write_basis.ensures.written, kept_basis _ c.args.bit c.write_basis.ensures.written)
