-- The values of a node's cell.
use Rattle.std.specs.Prelude.{Option}
use Rattle.virtual_node.specs.Node.{Node}

-- what contracts see of a node's cell: its value, and its next value, if one is prepared
pub record NodeValues : Type 0 where
  pub now : Node
  pub next : Option Node
