use Rattle.std.proofs.Common.{refl, arith, ◌∙◌}
use Rattle.cqc_session.proofs.Going.{stays}
use Rattle.cqc_session.proofs.Steps.{advance_ends, advance_goes}
use Rattle.cqc_session.proofs.session.Session.advance.Goals as goal

pub loop-call-init : goal.loop-call-init
loop-call-init g c = (
  stays c.args.self.now.connection c.args.self.now.work _ _ _ _ c.args.self.now.budget refl refl,
  refl,
  refl,
  omega arith,
  omega arith,
  omega arith,
  g.met.L.Link.leads_nowhere _,
)

pub loop-call-preserved : goal.loop-call-preserved
loop-call-preserved g c =
    let kept = c.loop-call.invariant in
    let went = advance_goes c.args.self.now c.loop-call.self c.step.new.self _ _ _ _ _ _ kept.0 kept.1 c.in-Ok-None.field-0 c.in-Ok-None.field-0-is kept.3 c.in-Ok-None.ensures.did in (
      went.0,
      c.step.ensures.connection ∙ kept.1,
      c.step.ensures.cap ∙ kept.2,
      went.1,
      omega (arith, c.in-Ok-None.ensures.cause.0),
      omega (arith, c.in-Ok-None.ensures.cause.1),
      g.met.L.Link.leads_on _ _ _ kept.6 c.step.ensures.led,
    )

pub returns-in-Err-clause-did : goal.returns-in-Err-clause-did
returns-in-Err-clause-did g c =
    let kept = c.loop-call.invariant in
    advance_ends c.args.self.now c.loop-call.self c.step.new.self _ _ _ _ _ _ kept.0 kept.1 c.in-Err.ending kept.2 c.in-Err.ensures.did
