use Rattle.std.proofs.Common.{rules, arith, sym, ap, ◌∙◌, FitsSigned, to_z, of_z, neg_ℤ, pos, ◌-ℤ◌, ◌≡◌}
use Rattle.std.proofs.lemmas.Int.{ints, to_z-of_z}
use mir.Syntax.{w32, w128}
use Rattle.state_model.specs.Coefficient.{Weight}
use Rattle.state_model.specs.Divisors.{unit_weight_down, weight_product}
use Rattle.omega_ring.specs.Views.{weight_value}
use Rattle.state_model.proofs.Balance.{first_up, flip, flip_value, power_up, y_below}
use Rattle.state_model.proofs.Expressions.{same_weight}
use Rattle.omega_ring.proofs.StoredSteps.{weight_back}
use Rattle.omega_ring.proofs.weights.Weight.balance_up.Goals as goal

pub returns-clause-value : goal.returns-clause-value
returns-clause-value c =
    let k = c.step_down-low.result.steps in
    let r : Weight = record { x = c.step_down-low.result.x; y = c.step_down-low.result.y } in
    let e : FitsSigned w128 c.step_down-low.result.x = search rules in
    let f : FitsSigned w128 c.step_down-low.result.y = search rules in
    let l = y_below c.args.self.x c.args.self.y c.requires.positive c.requires.real in
    let b = weight_back (weight_value c.args.self) c.requires.positive c.requires.small c.requires.real in
    same_weight _ (flip r) (to_z-of_z w128 _ e) (omega (arith, ints, e, f, c.step_down-low.ensures.balanced))
    ∙ flip_value (weight_value c.args.self) r k (c.step_down-low.ensures.value ∙ ap (λ (w : Weight). weight_product w (unit_weight_down k)) (same_weight _ (flip (weight_value c.args.self)) (b.0) (omega (arith, ints, l.0, l.1, c.requires.small))))
    ∙ sym (ap (weight_product (weight_value c.args.self)) (power_up k (to_z w32 k) (omega (arith, ints, c.step_down-low.ensures.few))))

pub returns-clause-balanced : goal.returns-clause-balanced
returns-clause-balanced c = record { high = omega (arith, ints, c.step_down-low.ensures.balanced); low = omega (arith, ints, c.step_down-low.ensures.balanced) }

pub returns-clause-first : goal.returns-clause-first
returns-clause-first c =
    let k = c.step_down-low.result.steps in
    let l = y_below c.args.self.x c.args.self.y c.requires.positive c.requires.real in
    let b = weight_back (weight_value c.args.self) c.requires.positive c.requires.small c.requires.real in
    let n : to_z w128 (of_z w128 (pos 0 -ℤ to_z w128 (of_z w128 c.args.self.y))) ≡ neg_ℤ c.args.self.y = omega (arith, ints, l.0, l.1, c.requires.small) in
    first_up (weight_value c.args.self) k (to_z w32 k) (omega (arith, ints, c.step_down-low.ensures.few)) c.requires.positive
    (rw (b.0, n) at c.step_down-low.ensures.done) (rw (b.0, n) at c.step_down-low.ensures.first)
