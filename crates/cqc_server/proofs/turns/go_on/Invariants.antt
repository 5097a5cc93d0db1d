use Rattle.std.proofs.Common.{◌≡◌, ℕ, ◌<◌, map, take}
use Rattle.std.specs.Prelude.{replicate, slice_get, IfSome, IsSome}
use Rattle.std.specs.List.{flat_map}
use Rattle.cqc_server.specs.Replay.{Seen, AreLed}
use Rattle.cqc_server.specs.Progress.{AllTakeTurns}
use Rattle.cqc_server.proofs.turns.go_on.Given as goal

abbrev pub invariant-loop-actor : goal.invariant-loop-actor
invariant-loop-actor g l =
    AllTakeTurns g.W.Dice.word l.initial.solo.shape l.initial.solo.capacity (λ ms. flat_map (replicate l.initial.solo.capacity) (take l.actor-index ms)) l.initial.solo.entries l.solo.entries
    (map {B = Seen} (λ a. record { session = a.session; left = g.L.Source.left a.link; held = g.L.Sink.held a.link; room = g.L.Link.room a.link; read_faults = g.L.Source.read_faults a.link; write_faults = g.L.Sink.write_faults a.link; dice = record { key = g.W.Dice.key a.dice; seat = g.W.Dice.begun_seat a.dice; serial = g.W.Dice.begun_serial a.dice; taken = g.W.Dice.taken a.dice }; ending = a.ending }) l.initial.actors)
    (map {B = Seen} (λ a. record { session = a.session; left = g.L.Source.left a.link; held = g.L.Sink.held a.link; room = g.L.Link.room a.link; read_faults = g.L.Source.read_faults a.link; write_faults = g.L.Sink.write_faults a.link; dice = record { key = g.W.Dice.key a.dice; seat = g.W.Dice.begun_seat a.dice; serial = g.W.Dice.begun_serial a.dice; taken = g.W.Dice.taken a.dice }; ending = a.ending }) l.actors)
    × (l.solo ≡ record l.initial.solo { entries = l.solo.entries })
    × AreLed g.L.Link.was_led (map (λ a. a.link) l.initial.actors) (map (λ a. a.link) l.actors)
    × ((k : ℕ) → k < l.actor-index → IfSome (slice_get (map {B = Seen} (λ a. record { session = a.session; left = g.L.Source.left a.link; held = g.L.Sink.held a.link; room = g.L.Link.room a.link; read_faults = g.L.Source.read_faults a.link; write_faults = g.L.Sink.write_faults a.link; dice = record { key = g.W.Dice.key a.dice; seat = g.W.Dice.begun_seat a.dice; serial = g.W.Dice.begun_serial a.dice; taken = g.W.Dice.taken a.dice }; ending = a.ending }) l.actors) k) (λ s. IsSome s.ending))
