use Rattle.std.proofs.Common.{ap, refl}
use Rattle.network_model.specs.Kinds.{takes_qubit}
use Rattle.factored_core.proofs.RefusalLines.{found_by, own_present, own_home, eighths_of, refused_missing, ready_gate}
use Rattle.factored_core.proofs.gates.one.Goals as goal

pub gated-requires-clause-ready : goal.gated-requires-clause-ready
gated-requires-clause-ready g c = ready_gate _ _ _ _ c.requires.open _ (found_by _ _ _ _ _ _ c.find.ensures c.handles.ensures c.in-Some.is) _ c.requires.kind

pub gated-requires-clause-home : goal.gated-requires-clause-home
gated-requires-clause-home g c = own_home _ _ _ _ c.requires.open _ (found_by _ _ _ _ _ _ c.find.ensures c.handles.ensures c.in-Some.is) (unfold takes_qubit in ap takes_qubit c.requires.kind)

pub gated-requires-clause-eighths : goal.gated-requires-clause-eighths
gated-requires-clause-eighths g c = let r = c.requires.open in eighths_of _ _ (r.range).instr c.requires.kind

pub refused-requires-clause-own : goal.refused-requires-clause-own
refused-requires-clause-own g c = own_present _ _ _ _ c.requires.open

pub returns-in-None-clause-step : goal.returns-in-None-clause-step
returns-in-None-clause-step g c = c.refused.ensures.step c.args.shape.now (unfold takes_qubit in refused_missing _ _ _ _ c.requires.open _ c.requires.kind refl (found_by _ _ _ _ _ _ c.find.ensures c.handles.ensures c.in-None.is))
