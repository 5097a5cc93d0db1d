use Rattle.std.proofs.Common.{refl}
use Rattle.core_cells.specs.Cells.{forgotten}
use Rattle.factored_core.proofs.WholeCore.{undone}
use Rattle.factored_core.proofs.laws.undone_steps_restore.Goals as goal

pub returns : goal.returns
returns c shape old new p free step = undone shape old new (forgotten new) p free step refl
