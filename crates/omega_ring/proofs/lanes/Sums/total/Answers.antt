use Rattle.state_model.proofs.Expressions.{same_weight}
use Rattle.omega_ring.proofs.LaneWords.{part_total}
use Rattle.omega_ring.proofs.lanes.Sums.total.Goals as goal

pub returns : goal.returns
returns c v h small = same_weight _ v (part_total v.x c.args.self.x h.x small.x) (part_total v.y c.args.self.y h.y small.y)
