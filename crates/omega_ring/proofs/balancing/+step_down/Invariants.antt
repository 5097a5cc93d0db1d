use Rattle.std.proofs.Common.{unsigned_abs}
use Rattle.omega_ring.proofs.balancing.+step_down.Given as goal

abbrev pub decreases-step_down : goal.decreases-step_down
decreases-step_down l = unsigned_abs l.x
