use Rattle.std.proofs.Common.{◌∙◌, rules}
use Rattle.cqc_server.proofs.SharedCalls.{worded_since, worded_as}
use Rattle.cqc_server.proofs.shared.serve_session.Goals as goal

pub returns-clause-worded : goal.returns-clause-worded
returns-clause-worded g c =
    worded_as _ _ c.serve.new.core.pass.now c.pass-1.given.0 (search rules)
    (worded_since g.D.Dice.word _ _ _ _ _ (c.serve.ensures.led).0 c.begin.ensures.key (c.begin.ensures.seat ∙ c.seat.ensures)
    (c.begin.ensures.serial ∙ c.serial.ensures) c.begin.ensures.taken)
