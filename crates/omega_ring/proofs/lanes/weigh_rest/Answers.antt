use Rattle.std.proofs.Common.{◌-◌, ◌^◌, take, drop, sym, ap, subst, ◌∙◌, arith}
use Rattle.state_model.specs.Coefficient.{Weight, weight, weight_sum}
use Rattle.state_model.specs.CoefficientList.{at, total_weight}
use Rattle.omega_ring.specs.Range.{PartsBelow}
use Rattle.omega_ring.specs.Views.{weight_value}
use Rattle.omega_ring.specs.Lanes.{lane_values}
use Rattle.omega_ring.proofs.LaneValues.{length-lane_values}
use Rattle.omega_ring.proofs.LaneWeights.{take_small, drop_small, entry_parts, wider, rest_more, rest_whole}
use Rattle.omega_ring.proofs.lanes.weigh_rest.Goals as goal

pub plus-sum-requires-clause-left : goal.plus-sum-requires-clause-left
plus-sum-requires-clause-left c =
    let vs = lane_values c.args.a.now c.args.b.now c.args.c.now c.args.d.now in
    let rest = drop c.args.start vs in
    let n = c.loop-i.i - c.args.start in
    subst (PartsBelow (2 ^ 122)) (sym c.loop-i.invariant) (wider (total_weight (take n rest)) (take_small n rest (drop_small c.args.start vs c.requires.small)))

pub plus-sum-requires-clause-right : goal.plus-sum-requires-clause-right
plus-sum-requires-clause-right c =
    let vs = lane_values c.args.a.now c.args.b.now c.args.c.now c.args.d.now in
    subst (PartsBelow (2 ^ 122)) (sym c.weigh_place.ensures) (wider (weight (at vs c.loop-i.i)) (entry_parts vs c.loop-i.i c.requires.small))

pub loop-i-preserved : goal.loop-i-preserved
loop-i-preserved c =
    let vs = lane_values c.args.a.now c.args.b.now c.args.c.now c.args.d.now in
    let i = c.loop-i.i in
    let l = length-lane_values c.args.a.now c.args.b.now c.args.c.now c.args.d.now c.requires.lengths in
    c.plus-sum.ensures
    ∙ ap (λ (w : Weight). weight_sum w (weight_value c.weigh_place.result)) c.loop-i.invariant
    ∙ ap (weight_sum (total_weight (take (i - c.args.start) (drop c.args.start vs)))) c.weigh_place.ensures
    ∙ rest_more c.args.start i vs c.loop-i.auto.i (omega (arith, l))

pub returns : goal.returns
returns c =
    let vs = lane_values c.args.a.now c.args.b.now c.args.c.now c.args.d.now in
    let l = length-lane_values c.args.a.now c.args.b.now c.args.c.now c.args.d.now c.requires.lengths in
    c.loop-i.invariant ∙ rest_whole c.args.start c.loop-i.i vs (omega (arith, l))
