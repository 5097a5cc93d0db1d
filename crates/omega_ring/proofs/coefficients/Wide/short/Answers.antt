use Rattle.std.proofs.Common.{arith}
use Rattle.std.proofs.lemmas.Int.{ints}
use Rattle.state_model.proofs.Ring.{same_coordinates}
use Rattle.omega_ring.proofs.coefficients.Wide.short.Goals as goal

pub returns : goal.returns
returns c = let s = c.requires in same_coordinates _ _ (omega (arith, ints, s.a)) (omega (arith, ints, s.b)) (omega (arith, ints, s.c)) (omega (arith, ints, s.d))

pub overflow_cast-result : goal.overflow_cast-result
overflow_cast-result c = let s = c.requires in omega (arith, ints, s.a)

pub overflow_cast-result-2 : goal.overflow_cast-result-2
overflow_cast-result-2 c = let s = c.requires in omega (arith, ints, s.b)

pub overflow_cast-result-3 : goal.overflow_cast-result-3
overflow_cast-result-3 c = let s = c.requires in omega (arith, ints, s.c)

pub overflow_cast-result-4 : goal.overflow_cast-result-4
overflow_cast-result-4 c = let s = c.requires in omega (arith, ints, s.d)
