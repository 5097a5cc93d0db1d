use Rattle.std.proofs.Common.{◌^◌}
use Rattle.omega_ring.proofs.LaneAdded.{below_after}
use Rattle.omega_ring.proofs.lanes.add_rest.Goals as goal

pub add_place-requires-clause-old : goal.add_place-requires-clause-old
add_place-requires-clause-old c = below_after c.args.minus c.args.start c.loop-i.i (2 ^ 61) c.args.out.now c.args.from.now c.loop-i.out c.requires.old c.loop-i.auto.i c.loop-i.invariant
