use Rattle.std.proofs.Common.{◌≡◌, None, replicate}
use Rattle.virtual_node.specs.Node.{empty_node}
use Rattle.core_cells.proofs.owned.empty_nodes.Given as goal

-- the nodes so far
abbrev pub invariant-loop : goal.invariant-loop
invariant-loop l = l.nodes.items ≡ replicate l.counter (record { now = empty_node; next = None })
