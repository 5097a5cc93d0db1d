use Rattle.std.proofs.Common.{◌+◌, ◌≡◌, ◌<◌, List, length, set, map, take, get_or, subst, ap, sym, refl, ◌∙◌, arith, Some}
use Rattle.std.specs.Prelude.{replicate, slice_get, IfSome, IsSome}
use Rattle.std.proofs.lemmas.List.{map-set, length-map}
use Rattle.factored_core.specs.Core.{Journal}
use Rattle.std.specs.List.{flat_map}
use Rattle.cqc_server.specs.declared.actor.Actor.{Actor}
use Rattle.cqc_server.specs.Replay.{Seen, AreLed}
use Rattle.cqc_server.specs.Progress.{AllTakeTurns}
use Rattle.cqc_server.proofs.Rows.{one_more, get_there, led_nowhere, led_put, put_kept, all_kept}
use Rattle.cqc_server.proofs.Turning.{ends_at}
use Rattle.cqc_server.proofs.Scenes.{none_yet, next_end, all_ends, acted_at, all_acted}
use Rattle.cqc_server.proofs.turns.go_on.Goals as goal

pub loop-actor-init : goal.loop-actor-init
loop-actor-init g c = (
  none_yet g.W.Dice.word c.args.solo.now.shape c.args.solo.now.capacity c.args.solo.now.entries _,
  refl,
  led_nowhere g.L.Link.was_led g.met.L.Link.leads_nowhere _,
  λ k h. absurd (omega (arith, h)),
)

pub go_on-requires : goal.go_on-requires
go_on-requires g c =
    let seen : Actor g.row.L.Denot g.row.W.Denot → Seen = λ a. record { session = a.session; left = g.L.Source.left a.link; held = g.L.Sink.held a.link; room = g.L.Link.room a.link; read_faults = g.L.Source.read_faults a.link; write_faults = g.L.Sink.write_faults a.link; dice = record { key = g.W.Dice.key a.dice; seat = g.W.Dice.begun_seat a.dice; serial = g.W.Dice.begun_serial a.dice; taken = g.W.Dice.taken a.dice }; ending = a.ending } in
    let kept = c.loop-actor.invariant in
    let actors = c.loop-actor.actors in
    let within : c.loop-actor.actor-index < length actors = omega arith in
    let both = acted_at g.W.Dice.word c.args.solo.now c.loop-actor.solo c.loop-actor.actor-index (map seen actors) _ kept.1 (get_there seen actors c.loop-actor.actor-index c.actor-item.result within)
    (all_acted g.W.Dice.word c.args.solo.now.shape c.args.solo.now.capacity _ _ _ _ _ c.requires.acted kept.0) in
    record { acted = both.0; node = both.1 }

pub loop-actor-preserved : goal.loop-actor-preserved
loop-actor-preserved g c =
    let seen : Actor g.row.L.Denot g.row.W.Denot → Seen = λ a. record { session = a.session; left = g.L.Source.left a.link; held = g.L.Sink.held a.link; room = g.L.Link.room a.link; read_faults = g.L.Source.read_faults a.link; write_faults = g.L.Sink.write_faults a.link; dice = record { key = g.W.Dice.key a.dice; seat = g.W.Dice.begun_seat a.dice; serial = g.W.Dice.begun_serial a.dice; taken = g.W.Dice.taken a.dice }; ending = a.ending } in
    let kept = c.loop-actor.invariant in
    let i = c.loop-actor.actor-index in
    let actors = c.loop-actor.actors in
    let old = get_or actors i c.actor-item.result in
    let now = c.go_on.new.self in
    let within : i < length actors = omega arith in
    let there : slice_get (map seen actors) i ≡ Some (seen old) = get_there seen actors i c.actor-item.result within in
    let is : map seen (set actors i now) ≡ set (map seen actors) i (seen now) = map-set seen actors i now in (
      subst (λ (ss : List Seen). AllTakeTurns g.W.Dice.word c.args.solo.now.shape c.args.solo.now.capacity (λ ms. flat_map (replicate c.args.solo.now.capacity) (take (i + 1) ms)) c.args.solo.now.entries c.go_on.new.solo.entries (map seen c.args.actors.now) ss) (sym is)
          (next_end g.W.Dice.word c.args.solo.now.shape c.args.solo.now.capacity (replicate c.args.solo.now.capacity) i (i + 1) c.args.solo.now.entries c.loop-actor.solo.entries c.go_on.new.solo.entries
          (map seen c.args.actors.now) (map seen actors) (seen old) (seen now) (one_more i) there kept.0
          (ends_at g.W.Dice.word c.args.solo.now c.loop-actor.solo _ _ _ kept.1 c.go_on.ensures.turns)),
      c.go_on.ensures.core ∙ ap (λ (j : Journal). record j { entries = c.go_on.new.solo.entries }) kept.1,
      subst (AreLed g.L.Link.was_led (map (λ a. a.link) c.args.actors.now)) (sym (map-set (λ a. a.link) actors i now))
          (led_put g.L.Link.was_led g.met.L.Link.leads_on i _ (map (λ a. a.link) actors) old.link now.link (get_there (λ a. a.link) actors i c.actor-item.result within) c.go_on.ensures.led kept.2),
      λ k h. subst (λ (ss : List Seen). IfSome (slice_get ss k) (λ s. IsSome s.ending)) (sym is)
          (put_kept (λ s. IsSome s.ending) (map seen actors) i k (seen now) kept.3 c.go_on.ensures.ended (omega (arith, h))),
    )

pub returns-clause-turns : goal.returns-clause-turns
returns-clause-turns g c =
    let seen : Actor g.row.L.Denot g.row.W.Denot → Seen = λ a. record { session = a.session; left = g.L.Source.left a.link; held = g.L.Sink.held a.link; room = g.L.Link.room a.link; read_faults = g.L.Source.read_faults a.link; write_faults = g.L.Sink.write_faults a.link; dice = record { key = g.W.Dice.key a.dice; seat = g.W.Dice.begun_seat a.dice; serial = g.W.Dice.begun_serial a.dice; taken = g.W.Dice.taken a.dice }; ending = a.ending } in
    all_ends g.W.Dice.word c.args.solo.now.shape c.args.solo.now.capacity (replicate c.args.solo.now.capacity) c.loop-actor.actor-index _ _ _ (map seen c.loop-actor.actors)
    (omega (arith, length-map c.loop-actor.actors seen)) c.loop-actor.invariant.0

pub returns-clause-ended : goal.returns-clause-ended
returns-clause-ended g c =
    let seen : Actor g.row.L.Denot g.row.W.Denot → Seen = λ a. record { session = a.session; left = g.L.Source.left a.link; held = g.L.Sink.held a.link; room = g.L.Link.room a.link; read_faults = g.L.Source.read_faults a.link; write_faults = g.L.Sink.write_faults a.link; dice = record { key = g.W.Dice.key a.dice; seat = g.W.Dice.begun_seat a.dice; serial = g.W.Dice.begun_serial a.dice; taken = g.W.Dice.taken a.dice }; ending = a.ending } in
    all_kept (λ s. IsSome s.ending) (map seen c.loop-actor.actors) (λ k h. c.loop-actor.invariant.3 k (omega (arith, h, length-map c.loop-actor.actors seen)))
