use Rattle.std.proofs.Common.{arith, ◌∙◌}
use Rattle.std.proofs.lemmas.Int.{ints}
use Rattle.state_model.proofs.Ring.{same_coordinates}
use Rattle.omega_ring.proofs.coefficients.Omega.negated.Goals as goal

pub returns : goal.returns
returns c = let r = c.requires in c.omega.ensures ∙ same_coordinates _ _ (omega (arith, ints, r.a)) (omega (arith, ints, r.b)) (omega (arith, ints, r.c)) (omega (arith, ints, r.d))
