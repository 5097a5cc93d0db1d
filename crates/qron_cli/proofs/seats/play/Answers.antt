use Rattle.std.proofs.Common.{◌≡◌, map, length, Some, refl, ap, ◌∙◌, arith, take_at}
use Rattle.session_model.specs.Turns.{actor_end}
use Rattle.cqc_server.specs.InMemory.{planned_actor, shown_end}
use Rattle.factored_core.specs.Core.{Journal}
use Rattle.schedule.specs.Views.{plan}
use Rattle.qron_link.specs.MemLinks.{Memory}
use Rattle.cqc_server.specs.declared.actor.Actor.{Actor}
use Rattle.cqc_server.specs.Replay.{Seen}
use Rattle.qron_cli.specs.Seats.{Seat}
use Rattle.qron_cli.proofs.Seating.{begun_in, none_of, all_placed, all_unused, turns_by, ends_by, models_are, as_many}
use Rattle.qron_cli.proofs.seats.play.Goals as goal

pub replay_in_memory-requires-clause-begun : goal.replay_in_memory-requires-clause-begun
replay_in_memory-requires-clause-begun g c =
    let seat : Actor Memory g.row.H-Dice.Denot → Seat = λ a. record { session = a.session; link = a.link; key = g.H.Dice.Dice.key a.dice; ending = a.ending } in
    begun_in seat _ _ _ _ _ c.args.schedule.plans.items c.deref_mut.ensures.value (ap (λ (j : Journal). length j.shape.places) c.in_ok-solo.ensures) c.in_ok-actors.ensures.seated c.requires.schedule.places

pub replay_in_memory-requires-clause-unused : goal.replay_in_memory-requires-clause-unused
replay_in_memory-requires-clause-unused g c k few = none_of k _ (ap (λ (j : Journal). j.entries) c.in_ok-solo.ensures)

pub replay_in_memory-requires-clause-places : goal.replay_in_memory-requires-clause-places
replay_in_memory-requires-clause-places g c =
    let seat : Actor Memory g.row.H-Dice.Denot → Seat = λ a. record { session = a.session; link = a.link; key = g.H.Dice.Dice.key a.dice; ending = a.ending } in
    rw (c.deref.ensures.value, c.deref_mut.ensures.value) (all_placed seat _ c.in_ok-actors.actors.items c.args.schedule.plans.items c.args.schedule.order.items c.in_ok-actors.ensures.seated c.requires.schedule.order)

pub replay_in_memory-requires-clause-links : goal.replay_in_memory-requires-clause-links
replay_in_memory-requires-clause-links g c =
    let seat : Actor Memory g.row.H-Dice.Denot → Seat = λ a. record { session = a.session; link = a.link; key = g.H.Dice.Dice.key a.dice; ending = a.ending } in
    rw (c.deref_mut.ensures.value) (all_unused seat _ 0 c.in_ok-actors.actors.items (map plan c.args.schedule.plans.items) c.in_ok-actors.ensures.seated c.in_ok-actors.ensures.few)

pub returns-clause-turns : goal.returns-clause-turns
returns-clause-turns g c =
    let seat : Actor Memory g.row.H-Dice.Denot → Seat = λ a. record { session = a.session; link = a.link; key = g.H.Dice.Dice.key a.dice; ending = a.ending } in
    let seen : Actor Memory g.row.H-Dice.Denot → Seen = λ a. record { session = a.session; left = Some a.link.left; held = Some a.link.held; room = Some a.link.room; read_faults = a.link.read_faults; write_faults = a.link.write_faults; dice = record { key = g.H.Dice.Dice.key a.dice; seat = g.H.Dice.Dice.begun_seat a.dice; serial = g.H.Dice.Dice.begun_serial a.dice; taken = g.H.Dice.Dice.taken a.dice }; ending = a.ending } in
    let models = models_are seen seat g.H.Dice.Dice.word _ (λ a. refl) c.in_ok-actors.actors.items _ (map plan c.args.schedule.plans.items) c.deref_mut.ensures.value c.in_ok-actors.ensures.seated in
    turns_by c.args.settings.shape c.args.settings.journal c.in_ok-solo.solo _ _ c.args.schedule.order.items _ _ c.in_ok-solo.ensures models c.deref.ensures.value c.replay_in_memory.ensures.turns

pub returns-clause-ends : goal.returns-clause-ends
returns-clause-ends g c =
    let seat : Actor Memory g.row.H-Dice.Denot → Seat = λ a. record { session = a.session; link = a.link; key = g.H.Dice.Dice.key a.dice; ending = a.ending } in
    let seen : Actor Memory g.row.H-Dice.Denot → Seen = λ a. record { session = a.session; left = Some a.link.left; held = Some a.link.held; room = Some a.link.room; read_faults = a.link.read_faults; write_faults = a.link.write_faults; dice = record { key = g.H.Dice.Dice.key a.dice; seat = g.H.Dice.Dice.begun_seat a.dice; serial = g.H.Dice.Dice.begun_serial a.dice; taken = g.H.Dice.Dice.taken a.dice }; ending = a.ending } in
    let models = models_are seen seat g.H.Dice.Dice.word _ (λ a. refl) c.in_ok-actors.actors.items _ (map plan c.args.schedule.plans.items) c.deref_mut.ensures.value c.in_ok-actors.ensures.seated in
    let new = c.replay_in_memory.new.actors in
    let count : length new ≡ c.in_ok-actors.actors.len =
    omega (arith, as_many seen shown_end (planned_actor g.H.Dice.Dice.word) (λ m. Some (actor_end c.in_ok-solo.solo.capacity c.replay_in_memory.new.solo.entries m)) new _ c.replay_in_memory.ensures.ends, c.deref_mut.ensures.len) in
    ap (λ xs. map shown_end (map seen xs)) (take_at new _ c.in_ok-actors.actors.len count)
    ∙ ends_by c.args.settings.shape c.args.settings.journal c.in_ok-solo.solo _ _ c.replay_in_memory.new.solo.entries _ c.in_ok-solo.ensures models c.replay_in_memory.ensures.ends
