use Rattle.std.proofs.Common.{arith}
use Rattle.std.proofs.lemmas.Int.{ints}
use Rattle.state_model.proofs.Ring.{same_coordinates}
use Rattle.omega_ring.proofs.coefficients.Wide.sub.Goals as goal

pub returns : goal.returns
returns c = same_coordinates _ _ (omega (arith, ints)) (omega (arith, ints)) (omega (arith, ints)) (omega (arith, ints))
