use Rattle.omega_ring.proofs.Short.{conjugate_parts, over_conjugate_is}
use Rattle.omega_ring.specs.Views.{omega_value}
use Rattle.omega_ring.proofs.coefficients.Omega.over_conjugate.Goals as goal

pub overflow_sub-c : goal.overflow_sub-c
overflow_sub-c c = let p = conjugate_parts (omega_value c.args.self) c.half_sum-half.result c.requires.range c.half_sum-half.ensures in p.fits_c

pub overflow_sub-d : goal.overflow_sub-d
overflow_sub-d c = let p = conjugate_parts (omega_value c.args.self) c.half_sum-half.result c.requires.range c.half_sum-half.ensures in p.fits_d

pub returns : goal.returns
returns c = over_conjugate_is (omega_value c.args.self) c.half_sum-half.result c.requires.range c.half_sum-half.ensures

pub overflow_sub-b : goal.overflow_sub-b
overflow_sub-b c = let p = conjugate_parts (omega_value c.args.self) c.half_sum-half.result c.requires.range c.half_sum-half.ensures in p.fits_b
