use Rattle.std.proofs.Common.{rules, arith, sym, ap, ◌∙◌, pos, ◌-ℤ◌, FitsSigned, to_z, of_z}
use Rattle.std.proofs.lemmas.Int.{ints, to_z-of_z}
use mir.Syntax.{w32, w128}
use Rattle.state_model.specs.Coefficient.{Weight}
use Rattle.state_model.specs.Divisors.{unit_weight_down, weight_product}
use Rattle.omega_ring.specs.Views.{weight_value}
use Rattle.state_model.proofs.Balance.{first_down, power_down}
use Rattle.state_model.proofs.Expressions.{same_weight}
use Rattle.omega_ring.proofs.StoredSteps.{weight_back}
use Rattle.omega_ring.proofs.weights.Weight.balance_down.Goals as goal

pub returns-clause-value : goal.returns-clause-value
returns-clause-value c =
    let k = c.step_down-low.result.steps in
    let e : FitsSigned w128 c.step_down-low.result.x = search rules in
    let f : FitsSigned w128 c.step_down-low.result.y = search rules in
    let b = weight_back (weight_value c.args.self) c.requires.positive c.requires.small c.requires.real in
    same_weight _ record { x = c.step_down-low.result.x; y = c.step_down-low.result.y } (to_z-of_z w128 _ e) (to_z-of_z w128 _ f)
    ∙ c.step_down-low.ensures.value
    ∙ ap (λ (w : Weight). weight_product w (unit_weight_down k)) (same_weight _ (weight_value c.args.self) (b.0) (b.1))
    ∙ sym (ap (weight_product (weight_value c.args.self)) (power_down k (to_z w32 (of_z w32 (pos 0 -ℤ to_z w32 k))) (omega (arith, ints, c.step_down-low.ensures.few))))

pub returns-clause-first : goal.returns-clause-first
returns-clause-first c =
    let k = c.step_down-low.result.steps in
    let b = weight_back (weight_value c.args.self) c.requires.positive c.requires.small c.requires.real in
    first_down (weight_value c.args.self) k (to_z w32 (of_z w32 (pos 0 -ℤ to_z w32 k))) (omega (arith, ints, c.step_down-low.ensures.few)) c.requires.positive
    (rw (b.0, b.1) at c.step_down-low.ensures.done) (rw (b.0, b.1) at c.step_down-low.ensures.first)
