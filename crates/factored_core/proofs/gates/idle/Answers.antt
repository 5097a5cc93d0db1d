use Rattle.std.proofs.Common.{ap, refl}
use Rattle.network_model.specs.Kinds.{takes_qubit}
use Rattle.factored_core.proofs.RefusalLines.{found_by, own_present, own_home, refused_missing, ready_idle}
use Rattle.factored_core.proofs.gates.idle.Goals as goal

pub kept-requires-clause-ready : goal.kept-requires-clause-ready
kept-requires-clause-ready g c = ready_idle _ _ _ _ c.requires.open _ (found_by _ _ _ _ _ _ c.find.ensures c.handles.ensures c.in-Some.is) c.requires.kind

pub kept-requires-clause-home : goal.kept-requires-clause-home
kept-requires-clause-home g c = own_home _ _ _ _ c.requires.open _ (found_by _ _ _ _ _ _ c.find.ensures c.handles.ensures c.in-Some.is) (unfold takes_qubit in ap takes_qubit c.requires.kind)

pub refused-requires-clause-own : goal.refused-requires-clause-own
refused-requires-clause-own g c = own_present _ _ _ _ c.requires.open

pub returns-in-None-clause-step : goal.returns-in-None-clause-step
returns-in-None-clause-step g c = c.refused.ensures.step c.args.shape.now (unfold takes_qubit in refused_missing _ _ _ _ c.requires.open _ c.requires.kind refl (found_by _ _ _ _ _ _ c.find.ensures c.handles.ensures c.in-None.is))
