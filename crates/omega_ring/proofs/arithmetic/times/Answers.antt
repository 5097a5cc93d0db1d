use Rattle.omega_ring.proofs.Stored.{product_back, product_size}
use Rattle.omega_ring.proofs.arithmetic.times.Goals as goal

pub returns-clause-value : goal.returns-clause-value
returns-clause-value c = product_back c.args.m c.args.n c.ranges.m c.ranges.n c.requires.left c.requires.right

pub returns-clause-small : goal.returns-clause-small
returns-clause-small c = rw (product_back c.args.m c.args.n c.ranges.m c.ranges.n c.requires.left c.requires.right) (product_size c.args.m c.args.n c.requires.left c.requires.right)
