use Rattle.std.proofs.Common.{subst}
use Rattle.qubit_handles.specs.Handle.{AreDistinct}
use Rattle.virtual_node.specs.Node.{Node}
use Rattle.virtual_node.proofs.cell.NodeCell.facts.Goals as goal

pub returns : goal.returns
returns c = subst (λ (n : Node). AreDistinct n.handles) c.self.view_is c.facts.ensures
