use Rattle.std.proofs.Common.{refl, ap}
use Rattle.network_model.specs.Kinds.{takes_qubit}
use Rattle.factored_core.proofs.RefusalLines.{found_by, own_home, refused_missing, refused_second, refused_equal, ready_two, second_home}
use Rattle.factored_core.proofs.two_qubit_gates.two.Goals as goal

pub returns-in_default-clause-step : goal.returns-in_default-clause-step
returns-in_default-clause-step g c =
    c.refused.ensures.step c.args.shape.now (unfold takes_qubit in refused_missing _ _ _ _ c.requires.open _ c.requires.kind refl (found_by _ _ _ _ _ _ c.find.ensures c.handles.ensures c.in_default.is))

pub returns-in_default-find-clause-step : goal.returns-in_default-find-clause-step
returns-in_default-find-clause-step g c =
    c.refused-in_default-find.ensures.step c.args.shape.now
    (refused_second _ _ _ _ c.requires.open _ _ c.requires.kind _ (found_by _ _ _ _ _ _ c.find.ensures c.handles.ensures c.in-Some.is) (found_by _ _ _ _ _ _ c.find-2.ensures c.handles-2.ensures c.in_default-find.is))

pub returns-then-id-call-clause-step : goal.returns-then-id-call-clause-step
returns-then-id-call-clause-step g c =
    c.refused-then-id-call.ensures.step c.args.shape.now (refused_equal _ _ _ _ c.requires.open _ _ c.requires.kind _ (found_by _ _ _ _ _ _ c.find.ensures c.handles.ensures c.in-Some.is) _ (found_by _ _ _ _ _ _ c.find-2.ensures c.handles-2.ensures c.in-Some-find.is) c.if-id-call.true)

pub both-requires-clause-ready : goal.both-requires-clause-ready
both-requires-clause-ready g c = ready_two _ _ _ _ c.requires.open _ _ c.requires.kind _ (found_by _ _ _ _ _ _ c.find.ensures c.handles.ensures c.in-Some.is) _ (found_by _ _ _ _ _ _ c.find-2.ensures c.handles-2.ensures c.in-Some-find.is) c.if-id-call.false

pub both-requires-clause-first : goal.both-requires-clause-first
both-requires-clause-first g c = own_home _ _ _ _ c.requires.open _ (found_by _ _ _ _ _ _ c.find.ensures c.handles.ensures c.in-Some.is) (unfold takes_qubit in ap takes_qubit c.requires.kind)

pub both-requires-clause-second : goal.both-requires-clause-second
both-requires-clause-second g c = second_home _ _ _ _ c.requires.open _ _ c.requires.kind _ (found_by _ _ _ _ _ _ c.find.ensures c.handles.ensures c.in-Some.is) _ (found_by _ _ _ _ _ _ c.find-2.ensures c.handles-2.ensures c.in-Some-find.is)
