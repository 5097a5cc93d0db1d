use Rattle.omega_ring.proofs.LaneAdded.{plus_written, less_written}
use Rattle.omega_ring.proofs.lanes.add_chunk.Goals.{then-minus, else-minus}
use Rattle.omega_ring.proofs.lanes.add_chunk.Goals as goal

pub returns : goal.returns
returns c =
    let r = c.requires in
    elim c.if-minus.branch [
      | then-minus w ↦ less_written c.args.minus c.args.i c.args.out.now c.args.from.now c.if-minus.sum w.if-minus.true w.sum-is r.room r.lengths r.old r.more
      | else-minus w ↦ plus_written c.args.minus c.args.i c.args.out.now c.args.from.now c.if-minus.sum w.if-minus.false w.sum-is r.room r.lengths r.old r.more
    ]
