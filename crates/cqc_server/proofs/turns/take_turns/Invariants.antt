use Rattle.std.proofs.Common.{◌≡◌, map, take}
use Rattle.session_model.specs.Turns.{of_order}
use Rattle.cqc_server.specs.Replay.{Seen, AreLed}
use Rattle.cqc_server.specs.Progress.{AllTakeTurns}
use Rattle.cqc_server.proofs.turns.take_turns.Given as goal

abbrev pub invariant-loop-place : goal.invariant-loop-place
invariant-loop-place g l =
    AllTakeTurns g.W.Dice.word l.initial.solo.shape l.initial.solo.capacity (λ ms. of_order ms (take l.place-index l.order)) l.initial.solo.entries l.solo.entries
    (map {B = Seen} (λ a. record { session = a.session; left = g.L.Source.left a.link; held = g.L.Sink.held a.link; room = g.L.Link.room a.link; read_faults = g.L.Source.read_faults a.link; write_faults = g.L.Sink.write_faults a.link; dice = record { key = g.W.Dice.key a.dice; seat = g.W.Dice.begun_seat a.dice; serial = g.W.Dice.begun_serial a.dice; taken = g.W.Dice.taken a.dice }; ending = a.ending }) l.initial.actors)
    (map {B = Seen} (λ a. record { session = a.session; left = g.L.Source.left a.link; held = g.L.Sink.held a.link; room = g.L.Link.room a.link; read_faults = g.L.Source.read_faults a.link; write_faults = g.L.Sink.write_faults a.link; dice = record { key = g.W.Dice.key a.dice; seat = g.W.Dice.begun_seat a.dice; serial = g.W.Dice.begun_serial a.dice; taken = g.W.Dice.taken a.dice }; ending = a.ending }) l.actors)
    × (l.solo ≡ record l.initial.solo { entries = l.solo.entries })
    × AreLed g.L.Link.was_led (map (λ a. a.link) l.initial.actors) (map (λ a. a.link) l.actors)
