use Rattle.std.proofs.Common.{Some, refl, sym, subst, ◌∙◌}
use Rattle.qron_link.specs.Outside.{Rose}
use Rattle.quantum_hub.specs.declared.tries.Turn.TheVariants.{Done, Full}
use Rattle.quantum_hub.proofs.Waits.{waited_not, waited_twice}
use Rattle.quantum_hub.proofs.Asked.{waited_begins, called_begins, were_later, were_asked, were_none, place_now, told_some}
use Rattle.quantum_hub.proofs.Turns.{turn_along, answer_along, answer_begins, answer_finds, receives_so}
use Rattle.quantum_hub.proofs.hub.Hub.execute.Goals as goal

pub returns-in_default-clause-timeout : goal.returns-in_default-clause-timeout
returns-in_default-clause-timeout g c is =
    let found = answer_finds g.N.Framed.shape g.N.Framed.capacity c.args.call.now _ _ _ c.args.pass.now c.finish.new.pass c.finish.result c.finish.ensures.answer is in
    absurd (c.in_default.not-Some found.line (c.line_of.ensures ∙ found.receives))

pub loop-init : goal.loop-init
loop-init g c = (tt, tt, waited_not c.args.pass.now c.args.pass.now refl, refl, refl, refl, refl, c.start.ensures.may_ask, refl, refl, were_none g.N.Framed.shape c.args.call.now c.args.pass.now c.args.pass.now (g.P.Patience.shown c.args.patience.now) (g.P.Patience.shown c.start.new.self) c.start.ensures.shown)

pub returns-in-Done-clause-answer : goal.returns-in-Done-clause-answer
returns-in-Done-clause-answer g c =
    let i = c.loop.invariant in
    (turn_along g.N.Framed.shape g.N.Framed.capacity c.args.call.now g.D.Dice.word (g.D.Dice.key c.args.dice.now) (g.D.Dice.key c.loop.dice) (g.D.Dice.begun_seat c.args.dice.now) (g.D.Dice.begun_seat c.loop.dice) (g.D.Dice.begun_serial c.args.dice.now) (g.D.Dice.begun_serial c.loop.dice) (g.D.Dice.taken c.args.dice.now) (g.D.Dice.taken c.loop.dice) (g.D.Dice.taken c.turn.new.dice) i.4 i.5 i.6 i.3 c.args.pass.now c.loop.pass c.turn.new.pass i.2 (Some c.in-Some.line) (Done c.in-Done.reply) c.in-Done.ensures.turn).0

pub returns-in-Done-clause-waiting : goal.returns-in-Done-clause-waiting
returns-in-Done-clause-waiting g c =
    let begins = called_begins g.N.Framed.shape c.args.call.now _ c.in-Done.reply c.loop.pass c.turn.new.pass (c.in-Done.ensures.turn.0).called in
    receives_so _ c.in-Some.line _ _ (sym c.line_of.ensures ∙ c.in-Some.is)
    (were_later g.N.Framed.shape c.args.call.now c.args.pass.now c.loop.pass c.turn.new.pass begins (g.P.Patience.shown c.loop.patience) c.loop.invariant.10)

pub returns-in-Full-clause-answer : goal.returns-in-Full-clause-answer
returns-in-Full-clause-answer g c =
    let i = c.loop.invariant in
    turn_along g.N.Framed.shape g.N.Framed.capacity c.args.call.now g.D.Dice.word (g.D.Dice.key c.args.dice.now) (g.D.Dice.key c.loop.dice) (g.D.Dice.begun_seat c.args.dice.now) (g.D.Dice.begun_seat c.loop.dice) (g.D.Dice.begun_serial c.args.dice.now) (g.D.Dice.begun_serial c.loop.dice) (g.D.Dice.taken c.args.dice.now) (g.D.Dice.taken c.loop.dice) (g.D.Dice.taken c.turn.new.dice) i.4 i.5 i.6 i.3 c.args.pass.now c.loop.pass c.turn.new.pass i.2 (Some c.in-Some.line) (Full c.in-Full.full) c.in-Full.ensures.turn

pub returns-in-Full-clause-waiting : goal.returns-in-Full-clause-waiting
returns-in-Full-clause-waiting g c =
    let begins = waited_begins c.loop.pass c.turn.new.pass (c.in-Full.ensures.turn).waited in
    receives_so _ c.in-Some.line _ _ (sym c.line_of.ensures ∙ c.in-Some.is)
    (were_later g.N.Framed.shape c.args.call.now c.args.pass.now c.loop.pass c.turn.new.pass begins (g.P.Patience.shown c.loop.patience) c.loop.invariant.10)

pub returns-then-not-again-clause-answer : goal.returns-then-not-again-clause-answer
returns-then-not-again-clause-answer g c =
    let i = c.loop.invariant in
    let empty = c.in-Empty.ensures.turn in
    let begun = c.in-Empty.ensures.begun in
    answer_along g.N.Framed.shape g.N.Framed.capacity c.args.call.now g.D.Dice.word (g.D.Dice.key c.args.dice.now) (g.D.Dice.key c.turn.new.dice) (g.D.Dice.begun_seat c.args.dice.now) (g.D.Dice.begun_seat c.turn.new.dice) (g.D.Dice.begun_serial c.args.dice.now) (g.D.Dice.begun_serial c.turn.new.dice) (g.D.Dice.taken c.args.dice.now) (g.D.Dice.taken c.turn.new.dice) (g.D.Dice.taken c.finish-then-not-again.new.dice) (begun.0 ∙ i.4) (begun.1 ∙ i.5) (begun.2 ∙ i.6) (empty.words ∙ i.3) c.args.pass.now c.turn.new.pass c.finish-then-not-again.new.pass (waited_twice c.args.pass.now c.loop.pass c.turn.new.pass i.2 empty.waited) c.finish-then-not-again.result c.finish-then-not-again.ensures.answer

pub returns-then-not-again-clause-waiting : goal.returns-then-not-again-clause-waiting
returns-then-not-again-clause-waiting g c =
    let i = c.loop.invariant in
    let empty = c.in-Empty.ensures.turn in
    let waited = waited_twice c.args.pass.now c.loop.pass c.turn.new.pass i.2 empty.waited in
    let receives = sym c.line_of.ensures ∙ c.in-Some.is in
    let place = place_now g.N.Framed.shape c.args.call.now c.args.pass.now c.turn.new.pass c.in-Some.line c.in-Empty.entries c.is_pair.result waited receives c.is_pair.ensures empty.all empty.nothing in
    let old = were_later g.N.Framed.shape c.args.call.now c.args.pass.now c.loop.pass c.turn.new.pass (waited_begins c.loop.pass c.turn.new.pass empty.waited) (g.P.Patience.shown c.loop.patience) i.10 in
    let asked = were_asked g.N.Framed.shape c.args.call.now c.args.pass.now c.turn.new.pass _ place (g.P.Patience.shown c.loop.patience) (g.P.Patience.shown c.again.new.self) c.again.ensures.shown old in
    let begins = answer_begins g.N.Framed.shape g.N.Framed.capacity c.args.call.now _ _ _ c.turn.new.pass c.finish-then-not-again.new.pass c.finish-then-not-again.result c.finish-then-not-again.ensures.answer in
    receives_so _ c.in-Some.line _ _ receives
    (were_later g.N.Framed.shape c.args.call.now c.args.pass.now c.turn.new.pass c.finish-then-not-again.new.pass begins (g.P.Patience.shown c.again.new.self) asked)

pub returns-then-not-again-clause-timeout : goal.returns-then-not-again-clause-timeout
returns-then-not-again-clause-timeout g c is = record {
  gave_up = record { rose = subst (λ n. Rose n (g.P.Patience.gave_up c.again.new.self)) (c.loop.invariant.9 ∙ c.start.ensures.gave_up) (c.if-not-again.ensures.gave_up.1); told = told_some _ (g.P.Patience.shown c.loop.patience) (g.P.Patience.shown c.again.new.self) c.again.ensures.shown };
  nothing = answer_finds g.N.Framed.shape g.N.Framed.capacity c.args.call.now _ _ _ c.turn.new.pass c.finish-then-not-again.new.pass c.finish-then-not-again.result c.finish-then-not-again.ensures.answer is;
}

pub loop-preserved : goal.loop-preserved
loop-preserved g c =
    let i = c.loop.invariant in
    let empty = c.in-Empty.ensures.turn in
    let begun = c.in-Empty.ensures.begun in
    let waited = waited_twice c.args.pass.now c.loop.pass c.turn.new.pass i.2 empty.waited in
    let receives = sym c.line_of.ensures ∙ c.in-Some.is in
    let place = place_now g.N.Framed.shape c.args.call.now c.args.pass.now c.turn.new.pass c.in-Some.line c.in-Empty.entries c.is_pair.result waited receives c.is_pair.ensures empty.all empty.nothing in
    let old = were_later g.N.Framed.shape c.args.call.now c.args.pass.now c.loop.pass c.turn.new.pass (waited_begins c.loop.pass c.turn.new.pass empty.waited) (g.P.Patience.shown c.loop.patience) i.10 in (
      tt,
      tt,
      waited,
      empty.words ∙ i.3,
      begun.0 ∙ i.4,
      begun.1 ∙ i.5,
      begun.2 ∙ i.6,
      c.again.ensures.may_ask c.if-not-again.false,
      c.again.ensures.times ∙ i.8,
      c.if-not-again.ensures.gave_up ∙ i.9,
      were_asked g.N.Framed.shape c.args.call.now c.args.pass.now c.turn.new.pass _ place (g.P.Patience.shown c.loop.patience) (g.P.Patience.shown c.again.new.self) c.again.ensures.shown old,
    )
