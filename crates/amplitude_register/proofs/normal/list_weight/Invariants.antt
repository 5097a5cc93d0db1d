use Rattle.std.proofs.Common.{◌≡◌}
use Rattle.amplitude_register.proofs.Sums.{weight_until}
use Rattle.amplitude_register.proofs.normal.list_weight.Given as goal

abbrev pub invariant-loop-z : goal.invariant-loop-z
invariant-loop-z l = record { x : l.x ≡ (weight_until l.list l.z-index).x; y : l.y ≡ (weight_until l.list l.z-index).y }
