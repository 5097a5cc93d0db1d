use Rattle.std.proofs.Common.{ℕ, ◌<◌, ◌≤◌, FitsSigned, w64}
use Rattle.omega_ring.specs.Lanes.{place}
use Rattle.omega_ring.proofs.lanes.load.Given as goal

abbrev pub invariant-loop-k : goal.invariant-loop-k
invariant-loop-k l = (j : ℕ) → l.i ≤ j → j < l.k → FitsSigned w64 (place l.list j)
