use Rattle.std.proofs.Common.{◌<◌, ◌+◌, List, length, set, map, get_or, ap, sym, ◌∙◌, arith}
use Rattle.std.specs.Prelude.{slice_get}
use Rattle.std.proofs.lemmas.List.{map-set, length-map}
use Rattle.std.proofs.Math.Seq.{map-set_same}
use Rattle.cqc_server.specs.declared.actor.Actor.{Actor}
use Rattle.cqc_server.specs.Replay.{Seen, dice_begun}
use Rattle.cqc_server.proofs.Rows.{one_more, front_more, front_done, get_there}
use Rattle.cqc_server.proofs.turns.begin_dice.Goals as goal

pub loop-actor-preserved : goal.loop-actor-preserved
loop-actor-preserved g c =
    let seen : Actor g.row.L.Denot g.row.W.Denot → Seen = λ a. record { session = a.session; left = g.L.Source.left a.link; held = g.L.Sink.held a.link; room = g.L.Link.room a.link; read_faults = g.L.Source.read_faults a.link; write_faults = g.L.Sink.write_faults a.link; dice = record { key = g.W.Dice.key a.dice; seat = g.W.Dice.begun_seat a.dice; serial = g.W.Dice.begun_serial a.dice; taken = g.W.Dice.taken a.dice }; ending = a.ending } in
    let kept = c.loop-actor.invariant in
    let i = c.loop-actor.actor-index in
    let actors = c.loop-actor.actors in
    let within : i < length actors = omega arith in
    let first = map seen c.args.actors.now in (
      map-set seen actors i c.begin_dice.new.self ∙ ap (λ (ss : List Seen). set ss i (seen c.begin_dice.new.self)) kept.0
          ∙ front_more dice_begun i (i + 1) first (seen (get_or actors i c.actor-item.result)) (seen c.begin_dice.new.self) (one_more i)
          (ap (λ (ss : List Seen). slice_get ss i) (sym kept.0) ∙ get_there seen actors i c.actor-item.result within) c.begin_dice.ensures.dice,
      map-set_same (λ a. a.link) actors i c.begin_dice.new.self c.actor-item.result c.begin_dice.ensures.link ∙ kept.1,
    )

pub returns-clause-dice : goal.returns-clause-dice
returns-clause-dice g c =
    let seen : Actor g.row.L.Denot g.row.W.Denot → Seen = λ a. record { session = a.session; left = g.L.Source.left a.link; held = g.L.Sink.held a.link; room = g.L.Link.room a.link; read_faults = g.L.Source.read_faults a.link; write_faults = g.L.Sink.write_faults a.link; dice = record { key = g.W.Dice.key a.dice; seat = g.W.Dice.begun_seat a.dice; serial = g.W.Dice.begun_serial a.dice; taken = g.W.Dice.taken a.dice }; ending = a.ending } in
    let kept = c.loop-actor.invariant in
    kept.0 ∙ front_done dice_begun c.loop-actor.actor-index (map seen c.args.actors.now) (omega (arith, length-map c.args.actors.now seen))
