use Rattle.omega_ring.proofs.Short.{short_product, short_product_size}
use Rattle.omega_ring.proofs.arithmetic.short_times.Goals as goal

pub returns-clause-value : goal.returns-clause-value
returns-clause-value c = short_product c.args.m c.args.n c.requires.left c.requires.right

pub returns-clause-small : goal.returns-clause-small
returns-clause-small c = rw (short_product c.args.m c.args.n c.requires.left c.requires.right) (short_product_size c.args.m c.args.n c.requires.left c.requires.right)
