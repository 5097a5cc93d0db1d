use Rattle.std.proofs.Common.{◌∙◌, refl, arith}
use Rattle.cqc_server.proofs.Turning.{turn_ends, turn_executes, words_few, cause_counts, answer_writes, answer_ended, dice_stay}
use Rattle.cqc_server.proofs.actor.Actor.turn.Goals as goal

pub execute-done-requires-clause-words : goal.execute-done-requires-clause-words
execute-done-requires-clause-words g c =
    words_few g.W.Dice.word c.args.solo.now.capacity c.args.solo.now.entries _ c.requires.acted c.entries-entries.ensures.few c.entries-entries.ensures.most

pub returns-in-End-clause-turn : goal.returns-in-End-clause-turn
returns-in-End-clause-turn g c =
    let cause = c.in-End.ensures.cause in
    let counts = cause_counts c.in-End.ending _ _ _ _ cause in
    turn_ends g.W.Dice.word c.args.solo.now.shape c.args.solo.now.capacity _ _ c.args.solo.now.entries c.in-End.ending c.requires.going refl refl
    (λ r w read written. record {
      connection = c.poll.ensures.connection;
      cap = c.poll.ensures.cap;
      read = read;
      written = written;
      room = g.met.L.Link.writes_take_room _ _ w c.poll.ensures.led written;
      reads = counts.0;
      writes = counts.1;
    })
    c.in-End.ensures.turn cause

pub returns-in-Execute-clause-turn : goal.returns-in-Execute-clause-turn
returns-in-Execute-clause-turn g c =
    let polled = c.in-Execute.ensures in
    let executed = c.execute-done.ensures in
    let answered = c.answer.ensures in
    turn_executes g.W.Dice.word _ _ c.args.solo.now c.execute-done.new.self c.poll.new.self _ _ c.in-Execute.call c.requires.going
    (λ r w read written. record {
      connection = answered.connection ∙ c.poll.ensures.connection;
      cap = answered.cap ∙ c.poll.ensures.cap;
      read = read;
      written = written;
      room = g.met.L.Link.writes_take_room _ _ w (g.met.L.Link.leads_on _ _ _ c.poll.ensures.led answered.led) written;
      reads = omega (arith, polled.cause.0, answered.read_faults);
      writes = omega (arith, polled.cause.1, answer_writes c.answer.result _ _ answered.cause);
    })
    polled.turn.0 polled.turn.1 c.poll.ensures.connection answered.left answered.budget executed.legal executed.key executed.seat executed.serial
    (λ e ended other. answer_ended c.answer.result e _ _ _ _ _ _ ended other polled.cause.0 answered.read_faults polled.cause.1 answered.cause)
    c.execute-done.result c.answer.result refl answered.stage
    (dice_stay (λ d. record { key = g.W.Dice.key d; seat = g.W.Dice.begun_seat d; serial = g.W.Dice.begun_serial d; taken = g.W.Dice.taken d }) c.execute-done.result _ _ _ _ executed.step)
    (answered.answered c.in-Execute.call polled.turn.1)
