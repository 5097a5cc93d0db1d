use Rattle.std.proofs.Common.{refl}
use Rattle.network_model.specs.Kinds.{takes_qubit}
use Rattle.factored_core.proofs.RefusalLines.{found_by, refused_missing, refused_inexact}
use Rattle.factored_core.proofs.gates.inexact.Goals as goal

pub returns-in-Some-clause-step : goal.returns-in-Some-clause-step
returns-in-Some-clause-step g c = c.refused.ensures.step c.args.shape.now (refused_inexact _ _ _ _ c.requires.open _ (found_by _ _ _ _ _ _ c.find.ensures c.handles.ensures c.in-Some.is) c.requires.kind)

pub returns-in-None-clause-step : goal.returns-in-None-clause-step
returns-in-None-clause-step g c =
    c.refused-in-None.ensures.step c.args.shape.now (unfold takes_qubit in refused_missing _ _ _ _ c.requires.open _ c.requires.kind refl (found_by _ _ _ _ _ _ c.find.ensures c.handles.ensures c.in-None.is))
