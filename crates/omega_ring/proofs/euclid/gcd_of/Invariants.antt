use Rattle.std.proofs.Common.{ℕ, ◌<◌, map}
use Rattle.state_model.specs.Coefficient.{Coefficient}
use Rattle.state_model.specs.CoefficientList.{at}
use Rattle.state_model.specs.Divisors.{Divides}
use Rattle.omega_ring.specs.Steps.{IsReady}
use Rattle.omega_ring.specs.Views.{omega_value, wide_value}
use Rattle.omega_ring.proofs.euclid.gcd_of.Given as goal

abbrev pub invariant-loop-z : goal.invariant-loop-z
invariant-loop-z l = record {
  ready : IsReady (wide_value l.common);
  common : (i : ℕ) → i < l.z-index → Divides (wide_value l.common) (at (map omega_value l.list) i);
  greatest : (h : Coefficient) → ((i : ℕ) → i < l.z-index → Divides h (at (map omega_value l.list) i)) → Divides h (wide_value l.common);
}
