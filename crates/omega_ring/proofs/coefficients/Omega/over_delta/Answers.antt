use Rattle.omega_ring.proofs.Short.{delta_fits, delta_fits_b, over_delta_is}
use Rattle.omega_ring.specs.Views.{omega_value}
use Rattle.omega_ring.proofs.coefficients.Omega.over_delta.Goals as goal

pub overflow_add-c : goal.overflow_add-c
overflow_add-c c = delta_fits (omega_value c.args.self) c.half_sum-d.result c.requires.range c.half_sum-d.ensures

pub returns : goal.returns
returns c = over_delta_is (omega_value c.args.self) c.half_sum-d.result c.requires.range c.half_sum-d.ensures

pub overflow_add-b : goal.overflow_add-b
overflow_add-b c = delta_fits_b (omega_value c.args.self) c.half_sum-d.result c.requires.range c.half_sum-d.ensures
