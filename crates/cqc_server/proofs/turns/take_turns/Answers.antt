use Rattle.std.proofs.Common.{◌+◌, ◌≡◌, ◌<◌, List, length, set, map, take, get_or, subst, ap, sym, refl, ◌∙◌, arith, Some}
use Rattle.std.specs.Prelude.{slice_get}
use Rattle.std.proofs.lemmas.List.{map-set}
use Rattle.factored_core.specs.Core.{Journal}
use Rattle.session_model.specs.Turns.{of_order}
use Rattle.cqc_server.specs.declared.actor.Actor.{Actor}
use Rattle.cqc_server.specs.Replay.{Seen, AreLed}
use Rattle.cqc_server.specs.Progress.{AllTakeTurns}
use Rattle.cqc_server.proofs.Rows.{one_more, get_there, led_nowhere, led_put}
use Rattle.cqc_server.proofs.Turning.{takes_at}
use Rattle.cqc_server.proofs.Scenes.{none_yet, next_turn, whole_order, acted_at, all_acted}
use Rattle.cqc_server.proofs.turns.take_turns.Goals as goal

pub loop-place-init : goal.loop-place-init
loop-place-init g c = (
  none_yet g.W.Dice.word c.args.solo.now.shape c.args.solo.now.capacity c.args.solo.now.entries _,
  refl,
  led_nowhere g.L.Link.was_led g.met.L.Link.leads_nowhere _,
)

pub take_turn-requires : goal.take_turn-requires
take_turn-requires g c =
    let seen : Actor g.row.L.Denot g.row.W.Denot → Seen = λ a. record { session = a.session; left = g.L.Source.left a.link; held = g.L.Sink.held a.link; room = g.L.Link.room a.link; read_faults = g.L.Source.read_faults a.link; write_faults = g.L.Sink.write_faults a.link; dice = record { key = g.W.Dice.key a.dice; seat = g.W.Dice.begun_seat a.dice; serial = g.W.Dice.begun_serial a.dice; taken = g.W.Dice.taken a.dice }; ending = a.ending } in
    let kept = c.loop-place.invariant in
    let actors = c.loop-place.actors in
    let place = get_or c.args.order.now c.loop-place.place-index 0 in
    let turn : c.loop-place.place-index < length c.args.order.now = omega arith in
    let within : place < length actors = omega (arith, c.requires.places c.loop-place.place-index 0 turn) in
    let both = acted_at g.W.Dice.word c.args.solo.now c.loop-place.solo place (map seen actors) _ kept.1 (get_there seen actors place c.index-actors-place.result within)
    (all_acted g.W.Dice.word c.args.solo.now.shape c.args.solo.now.capacity _ _ _ _ _ c.requires.acted kept.0) in
    record { acted = both.0; node = both.1 }

pub loop-place-preserved : goal.loop-place-preserved
loop-place-preserved g c =
    let seen : Actor g.row.L.Denot g.row.W.Denot → Seen = λ a. record { session = a.session; left = g.L.Source.left a.link; held = g.L.Sink.held a.link; room = g.L.Link.room a.link; read_faults = g.L.Source.read_faults a.link; write_faults = g.L.Sink.write_faults a.link; dice = record { key = g.W.Dice.key a.dice; seat = g.W.Dice.begun_seat a.dice; serial = g.W.Dice.begun_serial a.dice; taken = g.W.Dice.taken a.dice }; ending = a.ending } in
    let kept = c.loop-place.invariant in
    let i = c.loop-place.place-index in
    let order = c.args.order.now in
    let actors = c.loop-place.actors in
    let place = get_or order i 0 in
    let turn : i < length order = omega arith in
    let within : place < length actors = omega (arith, c.requires.places i 0 turn) in
    let old = get_or actors place c.index-actors-place.result in
    let now = c.take_turn.new.self in
    let there : slice_get (map seen actors) place ≡ Some (seen old) = get_there seen actors place c.index-actors-place.result within in
    let is : map seen (set actors place now) ≡ set (map seen actors) place (seen now) = map-set seen actors place now in (
      subst (λ (ss : List Seen). AllTakeTurns g.W.Dice.word c.args.solo.now.shape c.args.solo.now.capacity (λ ms. of_order ms (take (i + 1) order)) c.args.solo.now.entries c.take_turn.new.solo.entries (map seen c.args.actors.now) ss) (sym is)
          (next_turn g.W.Dice.word c.args.solo.now.shape c.args.solo.now.capacity order i (i + 1) 0 c.args.solo.now.entries c.loop-place.solo.entries c.take_turn.new.solo.entries
          (map seen c.args.actors.now) (map seen actors) (seen old) (seen now) (one_more i) turn there kept.0
          (takes_at g.W.Dice.word _ c.args.solo.now c.loop-place.solo _ _ _ kept.1 c.take_turn.ensures.turn)),
      c.take_turn.ensures.core ∙ ap (λ (j : Journal). record j { entries = c.take_turn.new.solo.entries }) kept.1,
      subst (AreLed g.L.Link.was_led (map (λ a. a.link) c.args.actors.now)) (sym (map-set (λ a. a.link) actors place now))
          (led_put g.L.Link.was_led g.met.L.Link.leads_on place _ (map (λ a. a.link) actors) old.link now.link (get_there (λ a. a.link) actors place c.index-actors-place.result within) c.take_turn.ensures.led kept.2),
    )

pub returns-clause-turns : goal.returns-clause-turns
returns-clause-turns g c =
    let seen : Actor g.row.L.Denot g.row.W.Denot → Seen = λ a. record { session = a.session; left = g.L.Source.left a.link; held = g.L.Sink.held a.link; room = g.L.Link.room a.link; read_faults = g.L.Source.read_faults a.link; write_faults = g.L.Sink.write_faults a.link; dice = record { key = g.W.Dice.key a.dice; seat = g.W.Dice.begun_seat a.dice; serial = g.W.Dice.begun_serial a.dice; taken = g.W.Dice.taken a.dice }; ending = a.ending } in
    whole_order g.W.Dice.word c.args.solo.now.shape c.args.solo.now.capacity c.args.order.now c.loop-place.place-index _ _ _ (map seen c.loop-place.actors) (omega arith) c.loop-place.invariant.0
