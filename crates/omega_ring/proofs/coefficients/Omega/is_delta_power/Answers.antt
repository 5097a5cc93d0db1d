use Rattle.omega_ring.specs.Views.{omega_value}
use Rattle.omega_ring.proofs.DeltaPowers.{power_test}
use Rattle.omega_ring.proofs.coefficients.Omega.is_delta_power.Goals as goal

pub returns : goal.returns
returns c = rw c.is_power_of_two.ensures (power_test (omega_value c.args.self) c.norm.result c.norm.ensures)
