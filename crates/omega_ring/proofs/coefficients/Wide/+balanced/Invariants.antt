use Rattle.std.proofs.Common.{unsigned_abs}
use Rattle.state_model.specs.Coefficient.{weight}
use Rattle.omega_ring.specs.Views.{wide_value}
use Rattle.omega_ring.proofs.coefficients.Wide.+balanced.Given as goal

abbrev pub decreases-balanced : goal.decreases-balanced
decreases-balanced l = unsigned_abs (weight (wide_value l.self)).x
