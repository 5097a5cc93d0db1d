use Rattle.std.proofs.Common.{refl, ◌∙◌, arith}
use Rattle.quantum_hub.proofs.Waits.{waited_not, waited_twice}
use Rattle.quantum_hub.proofs.Turns.{turn_along}
use Rattle.quantum_hub.proofs.hub.Hub.turn.Goals as goal

pub loop-init : goal.loop-init
loop-init g c = (tt, tt, waited_not c.args.pass.now c.args.pass.now refl, refl, refl, refl, refl, omega arith)

pub returns-in-Ended-clause-turn : goal.returns-in-Ended-clause-turn
returns-in-Ended-clause-turn g c =
    let i = c.loop.invariant in
    turn_along g.N.Framed.shape g.N.Framed.capacity c.args.call.now g.D.Dice.word (g.D.Dice.key c.args.dice.now) (g.D.Dice.key c.loop.dice) (g.D.Dice.begun_seat c.args.dice.now) (g.D.Dice.begun_seat c.loop.dice) (g.D.Dice.begun_serial c.args.dice.now) (g.D.Dice.begun_serial c.loop.dice) (g.D.Dice.taken c.args.dice.now) (g.D.Dice.taken c.loop.dice) (g.D.Dice.taken c.try_with.new.dice) i.4 i.5 i.6 i.3 c.args.pass.now c.loop.pass c.try_with.new.pass i.2 c.args.awaited c.in-Ended.turn c.in-Ended.ensures.tried

pub loop-preserved-in-Missed : goal.loop-preserved-in-Missed
loop-preserved-in-Missed g c =
    let i = c.loop.invariant in
    let missed = c.in-Missed.ensures.tried in
    let begun = c.in-Missed.ensures.begun in
    (tt, tt, waited_twice c.args.pass.now c.loop.pass c.try_with.new.pass i.2 missed.0, missed.1 ∙ i.3, begun.0 ∙ i.4, begun.1 ∙ i.5, begun.2 ∙ i.6, omega (arith, c.min-missed.ensures))
