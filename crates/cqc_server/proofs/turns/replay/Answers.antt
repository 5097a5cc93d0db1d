use Rattle.std.proofs.Common.{◌≤◌, length, map, subst, ap, ◌∙◌, arith}
use Rattle.std.proofs.lemmas.List.{length-map}
use Rattle.factored_core.specs.Core.{Journal}
use Rattle.cqc_server.specs.declared.actor.Actor.{Actor}
use Rattle.cqc_server.specs.Replay.{Seen, AreLed}
use Rattle.cqc_server.proofs.Rows.{led_on}
use Rattle.cqc_server.proofs.Scenes.{all_acted}
use Rattle.cqc_server.proofs.Wholes.{fresh_seen, have_begun, replayed, ends_all_at, all_acted_at}
use Rattle.cqc_server.proofs.turns.replay.Goals as goal

pub take_turns-requires-clause-acted : goal.take_turns-requires-clause-acted
take_turns-requires-clause-acted g c =
    let seen : Actor g.row.L.Denot g.row.W.Denot → Seen = λ a. record { session = a.session; left = g.L.Source.left a.link; held = g.L.Sink.held a.link; room = g.L.Link.room a.link; read_faults = g.L.Source.read_faults a.link; write_faults = g.L.Sink.write_faults a.link; dice = record { key = g.W.Dice.key a.dice; seat = g.W.Dice.begun_seat a.dice; serial = g.W.Dice.begun_serial a.dice; taken = g.W.Dice.taken a.dice }; ending = a.ending } in
    let first = map seen c.args.actors.now in
    have_begun g.W.Dice.word c.args.solo.now.shape c.args.solo.now.capacity c.args.solo.now.entries first _ c.begin_dice.ensures.dice
    (λ n. fresh_seen seen (length c.args.solo.now.shape.places) c.args.actors.now n n (c.requires.begun n))
    (λ n h. c.requires.unused n (omega (arith, h, length-map c.args.actors.now seen)))

pub go_on-requires : goal.go_on-requires
go_on-requires g c = record {
  acted =
      let seen : Actor g.row.L.Denot g.row.W.Denot → Seen = λ a. record { session = a.session; left = g.L.Source.left a.link; held = g.L.Sink.held a.link; room = g.L.Link.room a.link; read_faults = g.L.Source.read_faults a.link; write_faults = g.L.Sink.write_faults a.link; dice = record { key = g.W.Dice.key a.dice; seat = g.W.Dice.begun_seat a.dice; serial = g.W.Dice.begun_serial a.dice; taken = g.W.Dice.taken a.dice }; ending = a.ending } in
      let first = map seen c.args.actors.now in
      let begun = have_begun g.W.Dice.word c.args.solo.now.shape c.args.solo.now.capacity c.args.solo.now.entries first _ c.begin_dice.ensures.dice
      (λ n. fresh_seen seen (length c.args.solo.now.shape.places) c.args.actors.now n n (c.requires.begun n))
      (λ n h. c.requires.unused n (omega (arith, h, length-map c.args.actors.now seen))) in
      all_acted_at g.W.Dice.word c.args.solo.now c.take_turns.new.solo _ c.take_turns.ensures.core
      (all_acted g.W.Dice.word c.args.solo.now.shape c.args.solo.now.capacity _ _ _ _ _ begun c.take_turns.ensures.turns);
}

pub returns-clause-replayed : goal.returns-clause-replayed
returns-clause-replayed g c =
    let seen : Actor g.row.L.Denot g.row.W.Denot → Seen = λ a. record { session = a.session; left = g.L.Source.left a.link; held = g.L.Sink.held a.link; room = g.L.Link.room a.link; read_faults = g.L.Source.read_faults a.link; write_faults = g.L.Sink.write_faults a.link; dice = record { key = g.W.Dice.key a.dice; seat = g.W.Dice.begun_seat a.dice; serial = g.W.Dice.begun_serial a.dice; taken = g.W.Dice.taken a.dice }; ending = a.ending } in
    let first = map seen c.args.actors.now in
    replayed g.W.Dice.word c.args.solo.now.shape c.args.solo.now.capacity c.args.order.now c.args.solo.now.entries c.take_turns.new.solo.entries c.go_on.new.solo.entries
    first _ _ _ c.begin_dice.ensures.dice
    (λ n. fresh_seen seen (length c.args.solo.now.shape.places) c.args.actors.now n n (c.requires.begun n))
    (λ n h. c.requires.unused n (omega (arith, h, length-map c.args.actors.now seen)))
    c.take_turns.ensures.turns
    (ends_all_at g.W.Dice.word c.args.solo.now c.take_turns.new.solo _ _ _ c.take_turns.ensures.core c.go_on.ensures.turns)
    c.go_on.ensures.ended
    (subst (λ (j : Journal). length c.go_on.new.solo.entries ≤ j.capacity) (c.go_on.ensures.core ∙ ap (λ (j : Journal). record j { entries = c.go_on.new.solo.entries }) c.take_turns.ensures.core)
    c.entries-entries.ensures.few)

pub returns-clause-led : goal.returns-clause-led
returns-clause-led g c =
    let on = led_on g.L.Link.was_led g.met.L.Link.leads_on in
    subst (λ ls. AreLed g.L.Link.was_led ls (map (λ a. a.link) c.go_on.new.actors)) c.begin_dice.ensures.links
    (on _ _ _ c.take_turns.ensures.led c.go_on.ensures.led)
