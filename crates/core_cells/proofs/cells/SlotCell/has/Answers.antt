use Rattle.std.proofs.Common.{◌∙◌}
use Rattle.core_cells.proofs.RegisterLemmas.{place_tells}
use Rattle.core_cells.proofs.cells.SlotCell.has.Goals as goal

pub returns : goal.returns
returns c = c.is_some.ensures ∙ place_tells _ _ c.place_of.result c.place_of.ensures
