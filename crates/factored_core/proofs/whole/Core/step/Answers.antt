use Rattle.std.proofs.Common.{◌<◌, length, sym, subst}
use Rattle.core_cells.specs.Owned.{cells_of}
use Rattle.factored_core.specs.Core.{CoreCells}
use Rattle.factored_core.proofs.Journals.{step_as}
use Rattle.factored_core.proofs.WholeCore.{has_cells, left_after, core_step, core_after}
use Rattle.factored_core.proofs.whole.Core.step.Goals as goal

pub prepare-prepared-requires-clause-has : goal.prepare-prepared-requires-clause-has
prepare-prepared-requires-clause-has g c =
    has_cells c.self.inside.shape c.args.call.now (cells_of c.self.inside.board) c.self.invariant
    (subst (λ (v : CoreCells). c.args.call.now.node < length v.shape.places) (sym c.self.view_is) c.requires.allowed.node)

pub finish-requires : goal.finish-requires
finish-requires g c = left_after c.self.inside.shape _ _ c.prepare-prepared.result c.prepare-prepared.ensures.step

pub invariant_of-self : goal.invariant_of-self
invariant_of-self g c = core_after c.self.inside.shape _ _ _ c.prepare-prepared.result c.self.invariant c.prepare-prepared.ensures.step c.finish.ensures

pub returns-clause-steps : goal.returns-clause-steps
returns-clause-steps g c =
    step_as _ _ (cells_of c.finish.new.board) _ _ c.self.view_is c.entry-entry.ensures
    (core_step c.self.inside.shape _ _ _ c.prepare-prepared.result c.prepare-prepared.ensures.step c.finish.ensures)
