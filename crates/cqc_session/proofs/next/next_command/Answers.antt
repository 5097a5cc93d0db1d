use Rattle.std.proofs.Common.{sym, ◌∙◌}
use Rattle.cqc_session.proofs.Going.{not_open, no_done, done_said, done_broke, next_broke, exits}
use Rattle.cqc_session.proofs.next.next_command.Goals as goal

pub returns-in_default-clause-next : goal.returns-in_default-clause-next
returns-in_default-clause-next g c = λ connection n. not_open connection c.args.opened _ _ _ _ n c.in_default.is

pub returns-then-not-done_due-clause-next : goal.returns-then-not-done_due-clause-next
returns-then-not-done_due-clause-next g c = λ connection n.
    no_done connection c.args.opened c.in-Some.app _ _ n c.in-Some.is c.in_default-next.ensures.next _ _ (sym c.done_due.ensures ∙ c.if-not-done_due.true)

pub returns-in_err-say-clause-next : goal.returns-in_err-say-clause-next
returns-in_err-say-clause-next g c = λ connection n.
    let s = c.in_err-say.ensures in
    next_broke connection c.args.opened _ _ _ _ c.from_residual.result c.in_err-say.field-0.0 (exits c.from_residual.result _ c.from_residual.ensures.1) s.fault
    (done_broke connection c.args.opened c.in-Some.app _ _ n c.in-Some.is c.in_default-next.ensures.next _ _ _ _ s.sent.0 (sym c.done_due.ensures ∙ c.if-not-done_due.false) s.left s.sent.1)

pub returns-clause-next : goal.returns-clause-next
returns-clause-next g c = λ connection n.
    let s = c.in_ok-say.ensures in
    done_said connection c.args.opened c.in-Some.app _ _ n c.in-Some.is c.in_default-next.ensures.next _ _ _ _ s.sent.0 (sym c.done_due.ensures ∙ c.if-not-done_due.false) s.left s.sent.1
