use Rattle.std.proofs.lemmas.Int.{to_z-of_z}
use mir.Syntax.{w64}
use Rattle.omega_ring.proofs.Parity.{even_test}
use Rattle.omega_ring.proofs.arithmetic.is_even.Goals as goal

pub returns : goal.returns
returns c = rw (to_z-of_z w64 c.args.m c.ranges.m) (even_test c.args.m)
