use Rattle.core_cells.proofs.MarkLemmas.{none_listed}
use Rattle.core_cells.proofs.marks.Marks.none.Goals as goal

pub returns : goal.returns
returns c q = none_listed q
