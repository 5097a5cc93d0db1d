use Rattle.std.proofs.Common.{arith, rules, IsTrue, refl, sym, ◌∙◌}
use Rattle.std.proofs.lemmas.Int.{ints}
use Rattle.state_model.specs.Coefficient.{is_less, no_weight}
use Rattle.omega_ring.specs.Views.{weight_value}
use Rattle.omega_ring.proofs.SignLemmas.{zero_positive, zero_negative, positive_negative, below_otherwise}
use Rattle.omega_ring.proofs.weights.Weight.sign.Goals as goal

pub returns-then-self-eq0-2-clause-positive : goal.returns-then-self-eq0-2-clause-positive
returns-then-self-eq0-2-clause-positive c = zero_positive (weight_value c.args.self) (omega (arith, ints)) (omega (arith, ints))

pub returns-then-self-eq0-2-clause-negative : goal.returns-then-self-eq0-2-clause-negative
returns-then-self-eq0-2-clause-negative c = zero_negative (weight_value c.args.self) (omega (arith, ints)) (omega (arith, ints))

pub returns-then-is_above_zero-clause-negative : goal.returns-then-is_above_zero-clause-negative
returns-then-is_above_zero-clause-negative c = positive_negative (weight_value c.args.self) (sym c.is_above_zero.ensures ∙ c.if-is_above_zero.true)

pub returns-else-is_above_zero-clause-negative : goal.returns-else-is_above_zero-clause-negative
returns-else-is_above_zero-clause-negative c =
    let n : IsTrue (is_less (weight_value c.args.self) no_weight) = below_otherwise (weight_value c.args.self) (sym c.is_above_zero.ensures ∙ c.if-is_above_zero.false) (λ (e, f). absurd (search rules)) in
    (λ e. n, λ e. refl)
