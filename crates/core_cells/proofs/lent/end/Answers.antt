use Rattle.core_cells.specs.Names.{done_by}
use Rattle.core_cells.proofs.Named.{node_on, pool_on, slot_on}
use Rattle.core_cells.proofs.Within.{there}
use Rattle.core_cells.proofs.lent.end.Goals as goal

pub returns-in-Node : goal.returns-in-Node
returns-in-Node g c = node_on (done_by c.args.ending) _ _ c.args.name _ _ _ c.in-Node.is c.node.ensures.value c.end.ensures (g.met.B.Board.are_put.node _ _ _ (there _ _ c.node.ensures.value))

pub returns-in-Pool : goal.returns-in-Pool
returns-in-Pool g c = pool_on (done_by c.args.ending) _ _ c.args.name _ _ c.in-Pool.is c.pool.ensures.value c.end-in-Pool.ensures (g.met.B.Board.are_put.pool _ _ (there _ _ c.pool.ensures.value))

pub returns-in-Slot : goal.returns-in-Slot
returns-in-Slot g c = slot_on (done_by c.args.ending) _ _ c.args.name _ _ _ c.in-Slot.is c.slot.ensures.value c.end-in-Slot.ensures (g.met.B.Board.are_put.slot _ _ _ (there _ _ c.slot.ensures.value))
