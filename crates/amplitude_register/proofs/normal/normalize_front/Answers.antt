use Rattle.std.proofs.Common.{map, take, subst, sym, List}
use Rattle.state_model.specs.CoefficientList.{HasDeltaDivisors}
use Rattle.omega_ring.specs.Views.{omega_value}
use Rattle.omega_ring.specs.declared.coefficients.Omega.{Omega}
use Rattle.amplitude_register.proofs.normal.normalize_front.Goals as goal

pub normalize_part-requires-clause-divisors : goal.normalize_part-requires-clause-divisors
normalize_part-requires-clause-divisors c = subst (λ (xs : List Omega). HasDeltaDivisors (map omega_value (take c.args.rows xs))) (sym c.deref_mut.ensures.value) c.requires.divisors
