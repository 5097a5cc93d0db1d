use Rattle.std.proofs.Common.{refl, ap, ◌∙◌}
use Rattle.network_model.specs.declared.Call.{Call}
use Rattle.cqc_server.proofs.SharedCalls.{did_step, worked_one}
use Rattle.cqc_server.proofs.shared.AtWorkCore.execute.Goals as goal

pub returns-clause-step : goal.returns-clause-step
returns-clause-step g c =
    did_step g.N.Framed.shape g.N.Framed.capacity c.args.call.now _ _ _ c.args.self.now.pass.now c.execute-done.new.pass c.execute-done.result
    (ap (λ (k : Call). k.seat) c.requires.ours ∙ c.requires.ready.1) c.execute-done.ensures.answer

pub returns-clause-led : goal.returns-clause-led
returns-clause-led g c =
    let call = c.execute-done.ensures in (
      worked_one g.D.Dice.word g.N.Framed.shape g.N.Framed.capacity c.args.call.now c.execute-done.result _ _
          (ap (λ (k : Call). k.seat) c.requires.ours ∙ c.requires.ready.1) c.requires.ready.3 c.is_err-self.ensures.value
          (call.begun).0 (call.begun).1 (call.begun).2 call.answer call.gave_up (λ is. ((call.timeout is).gave_up).rose),
      refl,
      refl,
      refl,
      call.times,
    )
