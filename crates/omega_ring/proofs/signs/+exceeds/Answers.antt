use Rattle.std.proofs.Common.{arith}
use Rattle.omega_ring.proofs.Descent.{far_above, not_false, not_true, step_above, step_below}
use Rattle.omega_ring.proofs.signs.+exceeds.Goals as goal

pub returns-then-a-b-2-clause-above : goal.returns-then-a-b-2-clause-above
returns-then-a-b-2-clause-above t c = λ e. far_above c.args.a c.args.b c.requires.nonzero (omega arith)

pub returns-else-a-b-2-clause-above : goal.returns-else-a-b-2-clause-above
returns-else-a-b-2-clause-above t c = λ e. step_above c.args.a c.args.b (omega arith) (omega arith) (c.exceeds.ensures.below (not_true _ e))

pub returns-else-a-b-2-clause-below : goal.returns-else-a-b-2-clause-below
returns-else-a-b-2-clause-below t c = λ e. step_below c.args.a c.args.b (omega arith) (omega arith) (c.exceeds.ensures.above (not_false _ e))
