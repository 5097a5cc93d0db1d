use Rattle.std.proofs.Common.{arith}
use Rattle.std.proofs.lemmas.Int.{ints}
use Rattle.state_model.specs.Coefficient.{is_positive}
use Rattle.omega_ring.proofs.Stored.{back_of}
use Rattle.omega_ring.proofs.SignLemmas.{no_root_part, same_signs, other_signs}
use Rattle.omega_ring.proofs.weights.Weight.is_above_zero.Goals as goal

pub returns-then-self-eq0 : goal.returns-then-self-eq0
unfolding is_positive
returns-then-self-eq0 c = rw (back_of c.args.self.x (omega (arith, c.requires.x))) (no_root_part c.args.self.x c.args.self.y (omega (arith, ints)))

pub returns-then-self : goal.returns-then-self
unfolding is_positive
returns-then-self c = rw (back_of c.args.self.y (omega (arith, c.requires.y))) (same_signs c.args.self.x c.args.self.y (rw (back_of c.args.self.x (omega (arith, c.requires.x)), back_of c.args.self.y (omega (arith, c.requires.y))) at c.if-self.true))

pub returns-else-self : goal.returns-else-self
unfolding is_positive
returns-else-self c =
    let x = c.args.self.x in
    let y = c.args.self.y in
    rw (back_of x (omega (arith, c.requires.x)))
    (other_signs x y c.exceeds.result c.unsigned_abs.result c.unsigned_abs-else-self.result (omega (arith, ints, c.requires.x, back_of x (omega (arith, c.requires.x)))) (omega (arith, ints)) (rw (back_of x (omega (arith, c.requires.x)), back_of y (omega (arith, c.requires.y))) at c.if-self.false) (λ e. absurd (omega (arith, ints)))
    c.exceeds.ensures.above c.exceeds.ensures.below)
