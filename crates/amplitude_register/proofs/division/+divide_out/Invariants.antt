use Rattle.std.proofs.Common.{unsigned_abs}
use Rattle.state_model.specs.Divisors.{weight_norm}
use Rattle.omega_ring.specs.Views.{weight_value}
use Rattle.amplitude_register.proofs.division.+divide_out.Given as goal

abbrev pub decreases-divide_out : goal.decreases-divide_out
decreases-divide_out l = unsigned_abs (weight_norm (weight_value l.weight))
