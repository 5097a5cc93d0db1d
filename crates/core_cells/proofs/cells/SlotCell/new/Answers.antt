use Rattle.std.proofs.Common.{sym, subst}
use Rattle.amplitude_register.specs.States.{RegisterState}
use Rattle.network_model.specs.Network.{opening}
use Rattle.network_model.specs.Factored.{FitsSlot}
use Rattle.core_cells.specs.Cells.{register_of}
use Rattle.core_cells.proofs.OwnedLemmas.{new_slot_fits}
use Rattle.core_cells.proofs.cells.SlotCell.new.Goals as goal

pub returns-clause-fits : goal.returns-clause-fits
returns-clause-fits c shape t is = subst (λ (r : RegisterState). FitsSlot shape opening (λ q. 0) t (register_of r)) (sym c.in_ok-new.ensures) (new_slot_fits shape c.args.limit t is)
