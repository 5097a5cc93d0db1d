use Rattle.omega_ring.specs.Views.{omega_value}
use Rattle.register_merge.proofs.Factors.{times_zero, times_one}
use Rattle.register_merge.proofs.rows.product.Goals as goal

pub returns-then-is_zero-clause-value : goal.returns-then-is_zero-clause-value
returns-then-is_zero-clause-value c = times_zero (omega_value c.args.z) (omega_value c.args.factor) (c.is_zero.ensures.0 c.if-is_zero.true)

pub returns-then-is_one-clause-value : goal.returns-then-is_one-clause-value
returns-then-is_one-clause-value c = times_one (omega_value c.args.z) (omega_value c.args.factor) (c.is_one.ensures.0 c.if-is_one.true)
