-- The coordinates of entries whose squares sum up to less than 2^60 are below 2^30.
use Rattle.std.proofs.Common.{ℕ, ◌*◌, ◌^◌, ℤ, pos, ◌≤ℤ◌, ◌<ℤ◌, List, arith}
use Rattle.state_model.specs.Coefficient.{weight, Coefficient}
use Rattle.state_model.specs.CoefficientList.{at, total_weight}
use Rattle.omega_ring.specs.Range.{CoordinatesBelow}
use Rattle.state_model.proofs.Inequalities.{order}
use Rattle.omega_ring.proofs.UnitSizes.{coordinates_below}
use Rattle.amplitude_register.proofs.Sums.{entry_below}

below : (x y : ℤ) → x ≤ℤ y → y <ℤ pos (2 ^ 60) → x <ℤ pos (2 ^ 30 * 2 ^ 30)
below x y k h = omega (arith, order)

pub entry_within : (vs : List Coefficient) (i : ℕ) → (total_weight vs).x <ℤ pos (2 ^ 60) → CoordinatesBelow (2 ^ 30) (at vs i)
entry_within vs i h = coordinates_below (2 ^ 30) (at vs i) (below (weight (at vs i)).x (total_weight vs).x (entry_below vs i) h)
