use Rattle.std.proofs.Common.{FitsSigned, pos, slice_index_or, rules, arith, w64}
use Rattle.omega_ring.proofs.LaneLoads.{chunk_loaded, fits_more}
use Rattle.omega_ring.proofs.lanes.load.Goals as goal

pub loop-k-preserved : goal.loop-k-preserved
loop-k-preserved c =
    let f : FitsSigned w64 (slice_index_or c.args.list.now c.loop-k.k (pos 0)) = search rules in
    fits_more c.args.list.now c.args.i c.loop-k.k c.loop-k.invariant f

pub returns : goal.returns
returns c = chunk_loaded c.args.i c.args.list.now c.requires (λ j l h. c.loop-k.invariant j l (omega arith))
