use Rattle.std.proofs.Common.{rules, ◌^◌, pos, slice_index_or, FitsSigned, w64, sym, ap, subst, ◌∙◌}
use Rattle.state_model.specs.Coefficient.{weight}
use Rattle.omega_ring.specs.Range.{CoordinatesBelow}
use Rattle.omega_ring.specs.Lanes.{lane_values}
use Rattle.omega_ring.proofs.LaneValues.{entry_back}
use Rattle.omega_ring.proofs.LaneWeights.{entry_within}
use Rattle.omega_ring.proofs.lanes.weigh_place.Goals as goal

pub weight-requires : goal.weight-requires
weight-requires c =
    let p : FitsSigned w64 (slice_index_or c.args.a.now c.args.i (pos 0)) = search rules in
    let q : FitsSigned w64 (slice_index_or c.args.b.now c.args.i (pos 0)) = search rules in
    let r : FitsSigned w64 (slice_index_or c.args.c.now c.args.i (pos 0)) = search rules in
    let s : FitsSigned w64 (slice_index_or c.args.d.now c.args.i (pos 0)) = search rules in
    let vs = lane_values c.args.a.now c.args.b.now c.args.c.now c.args.d.now in
    let e = c.wide.ensures ∙ entry_back c.args.a.now c.args.b.now c.args.c.now c.args.d.now c.args.i c.requires.lengths p q r s in
    subst (CoordinatesBelow (2 ^ 61)) (sym e) (entry_within vs c.args.i c.requires.small)

pub returns : goal.returns
returns c =
    let p : FitsSigned w64 (slice_index_or c.args.a.now c.args.i (pos 0)) = search rules in
    let q : FitsSigned w64 (slice_index_or c.args.b.now c.args.i (pos 0)) = search rules in
    let r : FitsSigned w64 (slice_index_or c.args.c.now c.args.i (pos 0)) = search rules in
    let s : FitsSigned w64 (slice_index_or c.args.d.now c.args.i (pos 0)) = search rules in
    c.weight.ensures ∙ ap weight (c.wide.ensures ∙ entry_back c.args.a.now c.args.b.now c.args.c.now c.args.d.now c.args.i c.requires.lengths p q r s)
