use Rattle.std.proofs.Common.{List, MatchOption, map, take, subst}
use Rattle.state_model.specs.CoefficientList.{HasDeltaDivisors}
use Rattle.omega_ring.specs.Views.{omega_value}
use Rattle.omega_ring.specs.declared.coefficients.Omega.{Omega}
use Rattle.amplitude_register.specs.Multiples.{IsGreatestOf}
use Rattle.amplitude_register.proofs.common.common_front.Goals as goal

pub returns : goal.returns
returns c = subst (λ (xs : List Omega). MatchOption c.common_of.result (HasDeltaDivisors (map omega_value (take c.args.rows xs))) (λ u. IsGreatestOf (map omega_value (take c.args.rows xs)) (omega_value u))) c.deref.ensures.value c.common_of.ensures
