use Rattle.std.proofs.Common.{refl, ◌∙◌}
use Rattle.cqc_session.proofs.Going.{exits}
use Rattle.cqc_session.proofs.Parts.{head_halts, body_halts, opened, answered, broke}
use Rattle.cqc_session.proofs.take.take_message.Goals as goal

pub returns-in_err-read_head-clause-taken : goal.returns-in_err-read_head-clause-taken
returns-in_err-read_head-clause-taken g c = λ connection.
    head_halts connection c.args.allowance.now.cap _ _ _ _ c.from_residual.result c.in_err-read_head.field-0.0
    (exits c.from_residual.result _ c.from_residual.ensures.1) c.in_err-read_head.ensures.head c.read_head.ensures.link.held

pub returns-in_err-take_body-clause-taken : goal.returns-in_err-take_body-clause-taken
returns-in_err-take_body-clause-taken g c = λ connection.
    let r = c.from_residual-in_err-take_body in
    body_halts connection c.args.allowance.now.cap _ _ _ _ c.read_head.new.head c.read_header-header.result _ _ r.result c.in_err-take_body.field-0.0
    (exits r.result _ r.ensures.1) c.read_head.ensures.cap c.in_ok-read_head.ensures.head c.read_head.ensures.eight c.read_header-header.ensures
    c.in_err-take_body.ensures.body (c.take_body.ensures.link.held ∙ c.read_head.ensures.link.held)

pub returns-in_err-take_body-clause-led : goal.returns-in_err-take_body-clause-led
returns-in_err-take_body-clause-led g c = g.met.L.Link.leads_on _ _ _ c.read_head.ensures.link.led c.take_body.ensures.link.led

pub returns-in_err-say-in-Some-clause-taken : goal.returns-in_err-say-in-Some-clause-taken
returns-in_err-say-in-Some-clause-taken g c = λ connection.
    let r = c.from_residual-in_err-say-in-Some in
    let s = c.in_err-say-in-Some.ensures in
    broke connection c.args.allowance.now.cap _ _ _ c.read_head.new.head _ _ c.in_ok-read_head.ensures.head c.read_head.ensures.eight
    (c.take_body.ensures.link.held ∙ c.read_head.ensures.link.held) _ c.read_header-header.result _ c.in-Some.reply s.sent.0 r.result c.in_err-say-in-Some.field-0.0
    (exits r.result _ r.ensures.1) s.fault c.read_header-header.ensures c.in-Some.is c.in_ok-take_body.ensures.body
    (record { left = s.left; budget = refl }) s.sent.1

pub returns-in_err-say-in-Some-clause-led : goal.returns-in_err-say-in-Some-clause-led
returns-in_err-say-in-Some-clause-led g c =
    g.met.L.Link.leads_on _ _ _ (g.met.L.Link.leads_on _ _ _ c.read_head.ensures.link.led c.take_body.ensures.link.led) c.say.ensures.led

pub returns-in-None-clause-taken : goal.returns-in-None-clause-taken
returns-in-None-clause-taken g c = λ connection.
    opened connection c.args.allowance.now.cap _ _ _ c.read_head.new.head _ _ c.in_ok-read_head.ensures.head c.read_head.ensures.eight
    (c.take_body.ensures.link.held ∙ c.read_head.ensures.link.held) c.read_header-header.result _ c.read_header-header.ensures c.in-None.is c.in_ok-take_body.ensures.body

pub returns-in-None-clause-led : goal.returns-in-None-clause-led
returns-in-None-clause-led g c = g.met.L.Link.leads_on _ _ _ c.read_head.ensures.link.led c.take_body.ensures.link.led

pub returns-in_ok-say-in-Some-clause-taken : goal.returns-in_ok-say-in-Some-clause-taken
returns-in_ok-say-in-Some-clause-taken g c = λ connection.
    let s = c.in_ok-say-in-Some.ensures in
    answered connection c.args.allowance.now.cap _ _ _ c.read_head.new.head _ _ c.in_ok-read_head.ensures.head c.read_head.ensures.eight
    (c.take_body.ensures.link.held ∙ c.read_head.ensures.link.held) _ c.read_header-header.result _ c.in-Some.reply s.sent.0 c.read_header-header.ensures c.in-Some.is
    c.in_ok-take_body.ensures.body (record { left = s.left; budget = refl }) s.sent.1

pub returns-in_ok-say-in-Some-clause-led : goal.returns-in_ok-say-in-Some-clause-led
returns-in_ok-say-in-Some-clause-led g c =
    g.met.L.Link.leads_on _ _ _ (g.met.L.Link.leads_on _ _ _ c.read_head.ensures.link.led c.take_body.ensures.link.led) c.say.ensures.led
