use Rattle.std.proofs.Common.{◌∙◌}
use Rattle.core_cells.proofs.CellLemmas.{put_pool_same}
use Rattle.core_cells.proofs.lent.held_pool.Goals as goal

pub returns-clause-same : goal.returns-clause-same
returns-clause-same g c = g.met.B.Board.are_put.pool _ _ c.requires ∙ put_pool_same _ _ c.pool.ensures.value
