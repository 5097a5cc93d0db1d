use Rattle.std.proofs.Common.{◌≡◌, length}
use Rattle.omega_ring.specs.Lanes.{AreBelow}
use Rattle.omega_ring.proofs.tests.numbers.Given as goal

abbrev pub invariant-loop-i : goal.invariant-loop-i
invariant-loop-i l = AreBelow 1000 l.list × (length l.list ≡ 4096)
