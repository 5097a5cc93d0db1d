use Rattle.std.proofs.Common.{refl, ap}
use Rattle.network_model.specs.Kinds.{takes_qubit}
use Rattle.factored_core.proofs.Outcomes.{has_measured, leaves_outcome, leaves_zero}
use Rattle.factored_core.proofs.RefusalLines.{found_by, measure_is, own_home, refused_missing, ready_measurement}
use Rattle.factored_core.proofs.measurements.measure.Goals as goal

pub returns-in_default-clause-step : goal.returns-in_default-clause-step
returns-in_default-clause-step g c =
    c.refused.ensures.step c.args.shape.now (unfold takes_qubit in refused_missing _ _ _ _ c.requires.open _ c.requires.kind refl (found_by _ _ _ _ _ _ c.find.ensures c.handles.ensures c.in_default.is))

pub drawn-measured-requires : goal.drawn-measured-requires
drawn-measured-requires g c = own_home _ _ _ _ c.requires.open _ (found_by _ _ _ _ _ _ c.find.ensures c.handles.ensures c.in-Some.is) (unfold takes_qubit in ap takes_qubit c.requires.kind)

pub taken_out-requires-clause-measured : goal.taken_out-requires-clause-measured
taken_out-requires-clause-measured g c = (has_measured _ _ _ _ _ _ _ c.drawn-measured.ensures.same (ready_measurement _ _ _ _ c.requires.open _ (found_by _ _ _ _ _ _ c.find.ensures c.handles.ensures c.in-Some.is) _ _ c.requires.kind) (found_by _ _ _ _ _ _ c.find.ensures c.handles.ensures c.in-Some.is) c.drawn-measured.ensures.number c.drawn-measured.ensures.measured)

pub left-requires-clause-measured : goal.left-requires-clause-measured
left-requires-clause-measured g c = (has_measured _ _ _ _ _ _ _ c.drawn-measured.ensures.same (ready_measurement _ _ _ _ c.requires.open _ (found_by _ _ _ _ _ _ c.find.ensures c.handles.ensures c.in-Some.is) _ _ c.requires.kind) (found_by _ _ _ _ _ _ c.find.ensures c.handles.ensures c.in-Some.is) c.drawn-measured.ensures.number c.drawn-measured.ensures.measured)

pub left-requires-clause-left : goal.left-requires-clause-left
left-requires-clause-left g c = leaves_outcome c.args.call.now _ (measure_is c.args.call.now _ _ _ _ c.requires.kind c.in-Left.is c.drawn-measured.ensures.told)

pub left-requires-in-Cleared-clause-measured : goal.left-requires-in-Cleared-clause-measured
left-requires-in-Cleared-clause-measured g c = (has_measured _ _ _ _ _ _ _ c.drawn-measured.ensures.same (ready_measurement _ _ _ _ c.requires.open _ (found_by _ _ _ _ _ _ c.find.ensures c.handles.ensures c.in-Some.is) _ _ c.requires.kind) (found_by _ _ _ _ _ _ c.find.ensures c.handles.ensures c.in-Some.is) c.drawn-measured.ensures.number c.drawn-measured.ensures.measured)

pub left-requires-in-Cleared-clause-left : goal.left-requires-in-Cleared-clause-left
left-requires-in-Cleared-clause-left g c = leaves_zero c.args.call.now _ (measure_is c.args.call.now _ _ _ _ c.requires.kind c.in-Cleared.is c.drawn-measured.ensures.told)
