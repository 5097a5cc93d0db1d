use Rattle.std.proofs.Common.{◌*◌, ◌/◌, ◌^◌, length, take, drop, sym, ap, subst, ◌∙◌}
use Rattle.state_model.specs.Coefficient.{Weight, weight_sum}
use Rattle.state_model.specs.CoefficientList.{total_weight}
use Rattle.omega_ring.specs.Range.{PartsBelow}
use Rattle.omega_ring.specs.Views.{weight_value}
use Rattle.omega_ring.specs.Lanes.{lane_values}
use Rattle.omega_ring.proofs.LaneWeights.{take_small, drop_parts, wider, total_split}
use Rattle.omega_ring.proofs.lanes.weigh_lanes.Goals as goal

pub plus-requires-clause-left : goal.plus-requires-clause-left
plus-requires-clause-left c =
    let vs = lane_values c.args.a.now c.args.b.now c.args.c.now c.args.d.now in
    let n = 8 * (length c.args.a.now / 8) in
    subst (PartsBelow (2 ^ 122)) (sym c.weigh_chunks.ensures) (wider (total_weight (take n vs)) (take_small n vs c.requires.small))

pub plus-requires-clause-right : goal.plus-requires-clause-right
plus-requires-clause-right c =
    let vs = lane_values c.args.a.now c.args.b.now c.args.c.now c.args.d.now in
    let n = 8 * (length c.args.a.now / 8) in
    subst (PartsBelow (2 ^ 122)) (sym c.weigh_rest.ensures) (wider (total_weight (drop n vs)) (drop_parts n vs c.requires.small))

pub returns : goal.returns
returns c =
    let vs = lane_values c.args.a.now c.args.b.now c.args.c.now c.args.d.now in
    let n = 8 * (length c.args.a.now / 8) in
    c.plus.ensures
    ∙ ap (λ (w : Weight). weight_sum w (weight_value c.weigh_rest.result)) c.weigh_chunks.ensures
    ∙ ap (weight_sum (total_weight (take n vs))) c.weigh_rest.ensures
    ∙ total_split n vs
