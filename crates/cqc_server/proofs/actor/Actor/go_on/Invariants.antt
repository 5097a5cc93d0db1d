use Rattle.std.proofs.Common.{◌≡◌, ℕ}
use Rattle.std.specs.Prelude.{replicate}
use Rattle.cqc_server.specs.Progress.{TakesTurns}
use Rattle.cqc_server.proofs.Turning.{turns_due}
use Rattle.cqc_server.proofs.actor.Actor.go_on.Given as goal

abbrev pub invariant-loop-self : goal.invariant-loop-self
invariant-loop-self g l =
    ((t : ℕ) × TakesTurns g.W.Dice.word l.initial.solo.shape l.initial.solo.capacity (replicate t) l.initial.solo.entries l.solo.entries
    (record { session = l.initial.self.session; left = g.L.Source.left l.initial.self.link; held = g.L.Sink.held l.initial.self.link; room = g.L.Link.room l.initial.self.link; read_faults = g.L.Source.read_faults l.initial.self.link; write_faults = g.L.Sink.write_faults l.initial.self.link; dice = record { key = g.W.Dice.key l.initial.self.dice; seat = g.W.Dice.begun_seat l.initial.self.dice; serial = g.W.Dice.begun_serial l.initial.self.dice; taken = g.W.Dice.taken l.initial.self.dice }; ending = l.initial.self.ending })
    (record { session = l.self.session; left = g.L.Source.left l.self.link; held = g.L.Sink.held l.self.link; room = g.L.Link.room l.self.link; read_faults = g.L.Source.read_faults l.self.link; write_faults = g.L.Sink.write_faults l.self.link; dice = record { key = g.W.Dice.key l.self.dice; seat = g.W.Dice.begun_seat l.self.dice; serial = g.W.Dice.begun_serial l.self.dice; taken = g.W.Dice.taken l.self.dice }; ending = l.self.ending }))
    × (l.solo ≡ record l.initial.solo { entries = l.solo.entries })
    × (l.self.session.connection ≡ l.initial.self.session.connection)
    × g.L.Link.was_led l.initial.self.link l.self.link

abbrev pub decreases-loop-self : goal.decreases-loop-self
decreases-loop-self g l = turns_due l.self.ending l.self.session
