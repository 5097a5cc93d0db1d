use Rattle.core_cells.specs.declared.names.Ending.TheVariants.{Forget}
use Rattle.factored_core.proofs.Finished.{all_done}
use Rattle.factored_core.proofs.ending.undo.Goals as goal

pub returns : goal.returns
returns g c = all_done _ c.args.prepared c.requires Forget _ c.end_all.ensures
