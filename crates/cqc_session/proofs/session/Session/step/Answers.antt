use Rattle.std.proofs.Common.{refl}
use Rattle.session_model.specs.Walk.{Connection}
use Rattle.cqc_session.proofs.Going.{exits}
use Rattle.cqc_session.proofs.Steps.{result_broke, step_broke, step_asks, step_halts, step_goes}
use Rattle.cqc_session.proofs.session.Session.step.Goals as goal

pub returns-in_err-app-clause-did : goal.returns-in_err-app-clause-did
returns-in_err-app-clause-did g c =
    let s = c.self.inside in
    step_broke _ c.args.self.now c.self.view_is s.opened s.program.left s.program.notify refl _ _ _ _ c.args.self.now c.from_residual.result c.in_err-app.field-0.0
    (exits c.from_residual.result _ c.from_residual.ensures.1)
    (c.in_err-app.ensures.next (record { seat = s.seat; serial = s.serial; node = s.node }) s.allowance.left)

pub returns-in_err-app-clause-cause : goal.returns-in_err-app-clause-cause
returns-in_err-app-clause-cause g c =
    result_broke c.from_residual.result c.in_err-app.field-0.0 _ _ _ _ (exits c.from_residual.result _ c.from_residual.ensures.1)
    (c.in_err-app.ensures.next c.args.self.now.connection 0).0 c.next_command.ensures.read_faults c.in_err-app.ensures.cause

pub returns-in-Some-clause-did : goal.returns-in-Some-clause-did
returns-in-Some-clause-did g c =
    let s = c.self.inside in
    step_asks _ c.args.self.now c.self.view_is s.opened s.program.left s.program.notify refl _ _ _ _ _ c.in_ok-app.field-0 c.in-Some.is refl
    (c.in_ok-app.ensures.next (record { seat = s.seat; serial = s.serial; node = s.node }) s.allowance.left)

pub returns-in_err-self-inside-clause-did : goal.returns-in_err-self-inside-clause-did
returns-in_err-self-inside-clause-did g c =
    let s = c.self.inside in
    let connection : Connection = record { seat = s.seat; serial = s.serial; node = s.node } in
    let r = c.from_residual-in_err-self-inside in
    step_halts _ c.args.self.now c.self.view_is s.opened s.program.left s.program.notify refl _ _ _ _ _ _ _ c.in_ok-app.field-0
    c.take_message.new.program.left c.take_message.new.program.notify c.in_default.is
    (c.in_ok-app.ensures.next connection s.allowance.left) _ r.result c.in_err-self-inside.field-0.0 (exits r.result _ r.ensures.1)
    (c.in_err-self-inside.ensures.taken connection)

pub returns-clause-did : goal.returns-clause-did
returns-clause-did g c =
    let s = c.self.inside in
    let connection : Connection = record { seat = s.seat; serial = s.serial; node = s.node } in
    step_goes _ c.args.self.now c.self.view_is s.opened s.program.left s.program.notify refl _ _ _ _ _ _ _ c.in_ok-app.field-0 _ _ c.in_default.is
    (c.in_ok-app.ensures.next connection s.allowance.left) c.in_ok-self-inside.field-0 (c.in_ok-self-inside.ensures.taken connection)
