use Rattle.std.proofs.Common.{refl, sym, ap, ◌∙◌, arith}
use Rattle.session_model.specs.Walk.{Connection, call_of}
use Rattle.cqc_session.specs.State.{stage_after_answer}
use Rattle.cqc_session.proofs.Serves.{begins, poll_ends, round_ends, round_goes, goes_ok}
use Rattle.cqc_session.proofs.over_core.serve.Goals as goal

pub loop-ending-init : goal.loop-ending-init
loop-ending-init g c = (
  begins c.args.session.now.connection c.args.session.now.cap c.args.session.now.budget _ _ (g.K.Core.own c.args.core.now) c.args.session.now.work c.requires.fresh c.requires.unread,
  refl,
  refl,
  c.requires.ready,
  refl,
  refl,
  g.met.K.Core.leads_nowhere c.args.core.now,
  c.requires.core,
  omega arith,
  omega arith,
  g.met.L.Link.leads_nowhere _,
)

pub execute-done-requires-clause-ours : goal.execute-done-requires-clause-ours
execute-done-requires-clause-ours g c =
    let kept = c.loop-ending.invariant in
    let turn = c.in-Execute.ensures.turn in
    turn.1.call_is
    ∙ ap (λ (p : Connection). call_of p c.in-Execute.call.app c.in-Execute.call.command) (c.poll.ensures.connection ∙ kept.1 ∙ c.requires.ours ∙ sym kept.5)

pub execute-done-requires-clause-ready : goal.execute-done-requires-clause-ready
execute-done-requires-clause-ready g c = c.loop-ending.invariant.7

pub execute-done-requires-clause-allowed : goal.execute-done-requires-clause-allowed
execute-done-requires-clause-allowed g c = c.in-Execute.ensures.turn.1.allowed

pub returns-in-Some-clause-led : goal.returns-in-Some-clause-led
returns-in-Some-clause-led g c = g.met.K.Core.leads_on _ _ _ c.loop-ending.invariant.6 c.execute-done.ensures.led

pub returns-in-End-clause-served : goal.returns-in-End-clause-served
returns-in-End-clause-served g c =
    let kept = c.loop-ending.invariant in
    poll_ends c.args.session.now.connection c.args.session.now.cap _ _ _ _ _ _ c.loop-ending.session c.poll.new.self _ _ _ (g.K.Core.capacity c.args.core.now) c.in-End.ending
    kept.0 kept.1 kept.2 c.in-End.ensures.turn

pub returns-in-Some-clause-served : goal.returns-in-Some-clause-served
returns-in-Some-clause-served g c =
    let kept = c.loop-ending.invariant in
    let turn = c.in-Execute.ensures.turn in
    round_ends _ c.args.session.now.cap _ _ _ _ _ _ _ _ c.loop-ending.session c.poll.new.self _ _ _ _ _ c.in-Execute.call c.execute-done.result
    c.answer.ensures.left kept.0 kept.1 c.poll.ensures.connection turn c.execute-done.ensures.step
    (g.K.Core.capacity c.args.core.now) c.in-Some.ending kept.4 (c.in-Some.ensures.answered c.in-Execute.call turn.1)

pub loop-ending-preserved : goal.loop-ending-preserved
loop-ending-preserved g c =
    let kept = c.loop-ending.invariant in
    let turn = c.in-Execute.ensures.turn in (
      round_goes _ c.args.session.now.cap _ _ _ _ _ _ _ _ c.loop-ending.session c.poll.new.self _ _ _ _ _ c.in-Execute.call c.execute-done.result
          c.answer.ensures.left kept.0 kept.1 c.poll.ensures.connection turn c.execute-done.ensures.step
          c.answer.new.self.budget c.answer.new.self.work c.answer.ensures.budget (c.in_default.ensures.answered c.in-Execute.call turn.1),
      c.answer.ensures.connection ∙ c.poll.ensures.connection ∙ kept.1,
      c.answer.ensures.cap ∙ c.poll.ensures.cap ∙ kept.2,
      c.answer.ensures.stage ∙ ap stage_after_answer c.in_default.is,
      c.execute-done.ensures.capacity ∙ kept.4,
      c.execute-done.ensures.connection ∙ kept.5,
      g.met.K.Core.leads_on _ _ _ kept.6 c.execute-done.ensures.led,
      goes_ok _ _ _ _ _ c.execute-done.result _ c.execute-done.ensures.still (c.in_default.ensures.answered c.in-Execute.call turn.1),
      omega (arith, c.in-Execute.ensures.cause.0, c.answer.ensures.read_faults),
      omega (arith, c.in-Execute.ensures.cause.1, c.in_default.ensures.cause),
      g.met.L.Link.leads_on _ _ _ (g.met.L.Link.leads_on _ _ _ kept.10 c.poll.ensures.led) c.answer.ensures.led,
    )
