use Rattle.std.proofs.Common.{ap, ◌∙◌}
use Rattle.cqc_session.specs.State.{State}
use Rattle.cqc_session.proofs.Going.{open_with, same_app, after_reply, answer_broke, answer_goes_on}
use Rattle.cqc_session.proofs.session.Session.answer.Goals as goal

pub returns-then-is_err-clause-answered : goal.returns-then-is_err-clause-answered
returns-then-is_err-clause-answered g c = λ call waits.
    let s = c.self.inside in
    let o = open_with s.opened s.program.left s.program.notify call waits.others waits.notify (ap (λ (x : State). x.work) c.self.view_is ∙ waits.work) in
    answer_broke call c.in-Some.app c.args.done _ _ _ _ c.send_link.ensures.sent.0 (same_app s.opened _ _ c.in-Some.is o.open_is) c.write_answer-size.ensures.bytes
    c.send_link.ensures.sent.1 c.if-is_err.ensures.negation

pub returns-in-Ok-clause-answered : goal.returns-in-Ok-clause-answered
returns-in-Ok-clause-answered g c = λ call waits.
    let s = c.self.inside in
    let o = open_with s.opened s.program.left s.program.notify call waits.others waits.notify (ap (λ (x : State). x.work) c.self.view_is ∙ waits.work) in
    answer_goes_on call c.in-Some.app c.args.done _ _ _ _ c.send_link.ensures.sent.0 (same_app s.opened _ _ c.in-Some.is o.open_is) c.write_answer-size.ensures.bytes
    c.send_link.ensures.sent.1 c.args.self.now.connection c.args.self.now.work _ c.in-Ok.reply waits.others waits.notify c.if-is_err.ensures.negation c.in-Ok.is
    waits.work waits.call_is
    (after_reply s.opened s.program.left _ s.program.notify _ call waits.others waits.notify c.in-Ok.reply c.refused.result o c.refused.ensures c.after.ensures.left c.after.ensures.notify)
