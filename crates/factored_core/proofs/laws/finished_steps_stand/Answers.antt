use Rattle.std.proofs.Common.{refl}
use Rattle.core_cells.specs.Cells.{settled}
use Rattle.factored_core.proofs.WholeCore.{core_step, stands_grown}
use Rattle.factored_core.proofs.laws.finished_steps_stand.Goals as goal

pub returns : goal.returns
returns c shape h old new p stands step = stands_grown shape h p.entry old (settled new) stands (core_step shape old new (settled new) p step refl)
