use Rattle.std.proofs.Common.{sym, subst}
use Rattle.network_model.specs.Network.{opening}
use Rattle.network_model.specs.Factored.{FitsNode}
use Rattle.virtual_node.specs.Node.{Node, held_map, arrived_map}
use Rattle.core_cells.proofs.OwnedLemmas.{new_node_fits}
use Rattle.core_cells.proofs.cells.NodePair.new.Goals as goal

pub returns-clause-fits : goal.returns-clause-fits
returns-clause-fits c m = subst (λ (n : Node). FitsNode opening m (held_map n) (arrived_map n)) (sym c.new.ensures) (new_node_fits m)
