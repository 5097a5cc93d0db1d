use Rattle.omega_ring.specs.Views.{omega_value}
use Rattle.amplitude_register.proofs.MixedOver.{even_coordinates, stored_half, short_half, halves}
use Rattle.amplitude_register.proofs.divisor.halved.Goals as goal

pub half_of-requires : goal.half_of-requires
half_of-requires c = let r = c.requires.range in let e = even_coordinates (omega_value c.args.z) c.requires.divides in stored_half c.args.z.a r.a e.a

pub half_of-requires-2 : goal.half_of-requires-2
half_of-requires-2 c = let r = c.requires.range in let e = even_coordinates (omega_value c.args.z) c.requires.divides in stored_half c.args.z.b r.b e.b

pub half_of-requires-3 : goal.half_of-requires-3
half_of-requires-3 c = let r = c.requires.range in let e = even_coordinates (omega_value c.args.z) c.requires.divides in stored_half c.args.z.c r.c e.c

pub half_of-requires-4 : goal.half_of-requires-4
half_of-requires-4 c = let r = c.requires.range in let e = even_coordinates (omega_value c.args.z) c.requires.divides in stored_half c.args.z.d r.d e.d

pub returns : goal.returns
returns c =
    let r = c.requires.range in
    halves (omega_value c.args.z) _
    (short_half c.args.z.a c.half_of.result r.a c.half_of.ensures)
    (short_half c.args.z.b c.half_of-2.result r.b c.half_of-2.ensures)
    (short_half c.args.z.c c.half_of-3.result r.c c.half_of-3.ensures)
    (short_half c.args.z.d c.half_of-4.result r.d c.half_of-4.ensures)
