use Rattle.std.proofs.Common.{◌∙◌}
use Rattle.core_cells.proofs.CellLemmas.{put_slot_same}
use Rattle.factored_core.proofs.Changed.{some_there}
use Rattle.factored_core.proofs.slots.count.Goals as goal

pub returns-clause-same : goal.returns-clause-same
returns-clause-same g c = g.met.B.Board.are_put.slot _ _ _ (some_there _ _ c.slot-register.ensures.value) ∙ put_slot_same _ _ _ c.slot-register.ensures.value
