use Rattle.std.proofs.Common.{arith, ◌<◌, unsigned_abs}
use Rattle.state_model.specs.Divisors.{norm}
use Rattle.omega_ring.specs.Views.{wide_value}
use Rattle.omega_ring.proofs.Greatest.{greatest_at_zero, greatest_step, norm_falls, ready_step}
use Rattle.omega_ring.proofs.coefficients.Wide.+gcd.Goals as goal

pub gcd-requires : goal.gcd-requires
gcd-requires t c =
    let m = c.remainder.ensures.remainder in
    let f : unsigned_abs (norm (wide_value c.balanced.result)) < unsigned_abs (norm (wide_value c.args.u)) = norm_falls (wide_value c.args.u) (wide_value c.remainder.result) (wide_value c.balanced.result) m.smaller c.balanced.ensures.norm in
    (omega (arith, f), (c.requires.right, ready_step (wide_value c.args.u) (wide_value c.remainder.result) (wide_value c.balanced.result) c.requires.right m.smaller c.balanced.ensures.balanced c.balanced.ensures.norm))

pub returns-then-is_zero-clause-greatest : goal.returns-then-is_zero-clause-greatest
returns-then-is_zero-clause-greatest t c = greatest_at_zero (wide_value c.args.self) (wide_value c.args.u) (c.is_zero.ensures.0 c.if-is_zero.true)

pub returns-else-is_zero-clause-greatest : goal.returns-else-is_zero-clause-greatest
returns-else-is_zero-clause-greatest t c = greatest_step (wide_value c.args.self) (wide_value c.args.u) (wide_value c.remainder.result) (wide_value c.balanced.result) (wide_value c.gcd.result) c.remainder.ensures.remainder c.balanced.ensures.associate c.gcd.ensures.greatest
