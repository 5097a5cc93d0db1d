use Rattle.std.proofs.Common.{rules, FitsSigned, slice_index_or, pos, w64}
use Rattle.omega_ring.proofs.LaneParity.{odd_place}
use Rattle.omega_ring.proofs.lanes.is_odd_place.Goals as goal

pub returns : goal.returns
returns c =
    let p : FitsSigned w64 (slice_index_or c.args.a.now c.args.i (pos 0)) = search rules in
    let q : FitsSigned w64 (slice_index_or c.args.b.now c.args.i (pos 0)) = search rules in
    let r : FitsSigned w64 (slice_index_or c.args.c.now c.args.i (pos 0)) = search rules in
    let s : FitsSigned w64 (slice_index_or c.args.d.now c.args.i (pos 0)) = search rules in
    odd_place c.args.a.now c.args.b.now c.args.c.now c.args.d.now c.args.i p q r s
