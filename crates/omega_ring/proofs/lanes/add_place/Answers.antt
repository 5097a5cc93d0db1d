use Rattle.omega_ring.proofs.LaneAdded.{first_below}
use Rattle.omega_ring.proofs.lanes.add_place.Goals as goal

pub plus_or_less-requires-clause-x : goal.plus_or_less-requires-clause-x
plus_or_less-requires-clause-x c = first_below c.args.i c.args.out.now c.requires.old
