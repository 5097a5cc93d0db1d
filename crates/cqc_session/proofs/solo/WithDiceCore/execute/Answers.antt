use Rattle.std.proofs.Common.{refl}
use Rattle.cqc_session.proofs.Solos.{as_executed, served_one}
use Rattle.cqc_session.proofs.solo.WithDiceCore.execute.Goals as goal

pub returns-clause-led : goal.returns-clause-led
returns-clause-led g c = (
  served_one g.D.Dice.word c.args.call.now c.execute.result _ _ c.execute.ensures.key c.execute.ensures.seat c.execute.ensures.serial
      (as_executed g.D.Dice.taken c.args.call.now c.execute.result _ _ _ _ _ c.execute.ensures.step),
  refl,
  refl,
)
