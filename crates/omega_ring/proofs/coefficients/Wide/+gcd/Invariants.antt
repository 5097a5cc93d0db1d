use Rattle.std.proofs.Common.{unsigned_abs}
use Rattle.state_model.specs.Divisors.{norm}
use Rattle.omega_ring.specs.Views.{wide_value}
use Rattle.omega_ring.proofs.coefficients.Wide.+gcd.Given as goal

abbrev pub decreases-gcd : goal.decreases-gcd
decreases-gcd l = unsigned_abs (norm (wide_value l.u))
