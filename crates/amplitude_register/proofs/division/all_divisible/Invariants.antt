use Rattle.std.proofs.Common.{ℕ, ◌<◌, get_or}
use Rattle.state_model.specs.Divisors.{Divides, delta}
use Rattle.omega_ring.specs.Views.{omega_value}
use Rattle.omega_ring.proofs.Entries.{zero_omega}
use Rattle.amplitude_register.proofs.division.all_divisible.Given as goal

abbrev pub invariant-loop-z : goal.invariant-loop-z
invariant-loop-z l = (k : ℕ) → k < l.z-index → Divides delta (omega_value (get_or l.list k zero_omega))
