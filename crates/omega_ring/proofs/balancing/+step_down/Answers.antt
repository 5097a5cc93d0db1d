use Rattle.std.proofs.Common.{rules, arith, ◌∙◌, ◌<◌, ◌+ℤ◌, ◌<ℤ◌, FitsSigned, to_z, of_z}
use Rattle.std.proofs.lemmas.Int.{ints, to_z-of_z}
use mir.Syntax.{w128}
use Rattle.state_model.proofs.Balance.{few_steps, steps_along, value_along, unbalanced_along, y_below}
use Rattle.state_model.proofs.Expressions.{same_weight}
use Rattle.omega_ring.specs.Views.{weight_value}
use Rattle.omega_ring.proofs.StoredSteps.{next_stored}
use Rattle.omega_ring.proofs.balancing.+step_down.Goals as goal

pub step_down-rest-requires : goal.step_down-rest-requires
step_down-rest-requires t c =
    let b = y_below c.args.x c.args.y c.requires.positive c.requires.real in
    let n = next_stored c.args.x c.args.y (weight_value c.lowered-next.result) c.ranges.x c.ranges.y (search rules) (search rules) c.lowered-next.ensures c.requires.positive c.requires.real (omega (arith, ints, b.0, b.1, c.requires.small)) in
    (omega (arith, ints, n.positive, n.smaller, c.requires.positive), (n.positive, (omega (arith, ints, n.smaller, c.requires.small), (n.low, n.real))))

pub overflow_add-result : goal.overflow_add-result
overflow_add-result t c =
    let b = y_below c.args.x c.args.y c.requires.positive c.requires.real in
    let n = next_stored c.args.x c.args.y (weight_value c.lowered-next.result) c.ranges.x c.ranges.y (search rules) (search rules) c.lowered-next.ensures c.requires.positive c.requires.real (omega (arith, ints, b.0, b.1, c.requires.small)) in
    let k : c.step_down-rest.result.steps < 124 = few_steps (to_z w128 (of_z w128 c.lowered-next.result.x)) c.step_down-rest.result.steps c.step_down-rest.ensures.steps (omega (arith, ints, n.smaller, c.requires.small)) in
    search (rules, k)

pub returns-else-y-x-clause-value : goal.returns-else-y-x-clause-value
returns-else-y-x-clause-value t c =
    let b = y_below c.args.x c.args.y c.requires.positive c.requires.real in
    let n = next_stored c.args.x c.args.y (weight_value c.lowered-next.result) c.ranges.x c.ranges.y (search rules) (search rules) c.lowered-next.ensures c.requires.positive c.requires.real (omega (arith, ints, b.0, b.1, c.requires.small)) in
    let g : FitsSigned w128 c.step_down-rest.result.x = search rules in
    let h : FitsSigned w128 c.step_down-rest.result.y = search rules in
    same_weight _ record { x = c.step_down-rest.result.x; y = c.step_down-rest.result.y } (to_z-of_z w128 c.step_down-rest.result.x g) (to_z-of_z w128 c.step_down-rest.result.y h)
    ∙ value_along c.args.x c.args.y _ _ _ c.step_down-rest.result.steps n c.step_down-rest.ensures.value

pub returns-else-y-x-clause-done : goal.returns-else-y-x-clause-done
returns-else-y-x-clause-done t c = λ h. absurd (omega (arith, ints))

pub returns-else-y-x-clause-steps : goal.returns-else-y-x-clause-steps
returns-else-y-x-clause-steps t c =
    let b = y_below c.args.x c.args.y c.requires.positive c.requires.real in
    let n = next_stored c.args.x c.args.y (weight_value c.lowered-next.result) c.ranges.x c.ranges.y (search rules) (search rules) c.lowered-next.ensures c.requires.positive c.requires.real (omega (arith, ints, b.0, b.1, c.requires.small)) in
    steps_along c.args.x c.args.y _ _ c.step_down-rest.result.steps n c.requires.positive c.step_down-rest.ensures.done c.step_down-rest.ensures.steps

pub returns-else-y-x-clause-few : goal.returns-else-y-x-clause-few
returns-else-y-x-clause-few t c =
    let b = y_below c.args.x c.args.y c.requires.positive c.requires.real in
    let k = steps_along c.args.x c.args.y _ _ c.step_down-rest.result.steps (next_stored c.args.x c.args.y (weight_value c.lowered-next.result) c.ranges.x c.ranges.y (search rules) (search rules) c.lowered-next.ensures c.requires.positive c.requires.real (omega (arith, ints, b.0, b.1, c.requires.small))) c.requires.positive c.step_down-rest.ensures.done c.step_down-rest.ensures.steps in
    few_steps c.args.x _ k c.requires.small

pub returns-else-y-x-clause-first : goal.returns-else-y-x-clause-first
returns-else-y-x-clause-first t c =
    let b = y_below c.args.x c.args.y c.requires.positive c.requires.real in
    let l : c.args.x <ℤ (c.args.y +ℤ c.args.y) = omega (arith, ints, b.0, b.1, c.requires.small) in
    let n = next_stored c.args.x c.args.y (weight_value c.lowered-next.result) c.ranges.x c.ranges.y (search rules) (search rules) c.lowered-next.ensures c.requires.positive c.requires.real l in
    unbalanced_along c.args.x c.args.y _ _ c.step_down-rest.result.steps n l c.step_down-rest.ensures.first
