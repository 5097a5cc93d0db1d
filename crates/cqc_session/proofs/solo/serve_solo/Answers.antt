use Rattle.std.proofs.Common.{◌∙◌, rules}
use Rattle.cqc_session.proofs.Solos.{worded_since, worded_as}
use Rattle.cqc_session.proofs.solo.serve_solo.Goals as goal

pub returns-clause-worded : goal.returns-clause-worded
returns-clause-worded g c =
    let led = c.serve.ensures.led in
    worded_as _ g.D.Dice.taken _ c.serve.new.core.solo.now c.solo-1.given.0 c.serve.new.core.dice.now c.dice-1.given.0 (search rules) (search rules)
    (worded_since g.D.Dice.word _ _ _ _ _ led.0 c.begin.ensures.key (c.begin.ensures.seat ∙ c.seat.ensures) (c.begin.ensures.serial ∙ c.serial.ensures) c.begin.ensures.taken)
