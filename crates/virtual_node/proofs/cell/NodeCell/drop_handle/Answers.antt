use Rattle.std.proofs.Common.{length, ap, arith}
use Rattle.virtual_node.proofs.NodeLemmas.{fewer_handles}
use Rattle.virtual_node.proofs.cell.NodeCell.drop_handle.Goals as goal

pub invariant_of-self : goal.invariant_of-self
invariant_of-self c = (
  (let fewer = fewer_handles c.self.inside.handles c.args.app c.args.id in
      let left = ap length c.drop_one.ensures.others in
      let room = c.self.invariant.0 in
      omega arith),
  c.self.invariant.1,
)
