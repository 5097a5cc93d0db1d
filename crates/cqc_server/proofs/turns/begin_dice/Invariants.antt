use Rattle.std.proofs.Common.{◌≡◌, map}
use Rattle.cqc_server.specs.Replay.{Seen, dice_begun}
use Rattle.cqc_server.proofs.Rows.{front}
use Rattle.cqc_server.proofs.turns.begin_dice.Given as goal

abbrev pub invariant-loop-actor : goal.invariant-loop-actor
invariant-loop-actor g l =
    (map {B = Seen} (λ a. record { session = a.session; left = g.L.Source.left a.link; held = g.L.Sink.held a.link; room = g.L.Link.room a.link; read_faults = g.L.Source.read_faults a.link; write_faults = g.L.Sink.write_faults a.link; dice = record { key = g.W.Dice.key a.dice; seat = g.W.Dice.begun_seat a.dice; serial = g.W.Dice.begun_serial a.dice; taken = g.W.Dice.taken a.dice }; ending = a.ending }) l.actors
    ≡ front dice_begun l.actor-index (map {B = Seen} (λ a. record { session = a.session; left = g.L.Source.left a.link; held = g.L.Sink.held a.link; room = g.L.Link.room a.link; read_faults = g.L.Source.read_faults a.link; write_faults = g.L.Sink.write_faults a.link; dice = record { key = g.W.Dice.key a.dice; seat = g.W.Dice.begun_seat a.dice; serial = g.W.Dice.begun_serial a.dice; taken = g.W.Dice.taken a.dice }; ending = a.ending }) l.initial.actors))
    × (map (λ a. a.link) l.actors ≡ map (λ a. a.link) l.initial.actors)
