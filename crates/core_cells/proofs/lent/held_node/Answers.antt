use Rattle.std.proofs.Common.{◌∙◌}
use Rattle.core_cells.proofs.CellLemmas.{put_node_same}
use Rattle.core_cells.proofs.lent.held_node.Goals as goal

pub returns-clause-same : goal.returns-clause-same
returns-clause-same g c = g.met.B.Board.are_put.node _ _ _ c.requires ∙ put_node_same _ _ _ c.node.ensures.value
