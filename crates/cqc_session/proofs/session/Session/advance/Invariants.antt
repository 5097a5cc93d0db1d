use Rattle.std.proofs.Common.{◌≡◌, ◌≤◌}
use Rattle.cqc_session.specs.Session.{Spoke}
use Rattle.cqc_session.specs.State.{steps_left}
use Rattle.cqc_session.proofs.session.Session.advance.Given as goal

abbrev pub invariant-loop-call : goal.invariant-loop-call
invariant-loop-call g l =
    Spoke l.initial.self.connection l.initial.self.work (g.L.Source.left l.initial.link) (g.L.Source.left l.link) (g.L.Sink.held l.initial.link) (g.L.Sink.held l.link)
    l.initial.self.budget l.self.budget l.self.work
    × (l.self.connection ≡ l.initial.self.connection)
    × (l.self.cap ≡ l.initial.self.cap)
    × (steps_left l.self ≤ steps_left l.initial.self)
    × (g.L.Source.read_faults l.initial.link ≤ g.L.Source.read_faults l.link)
    × (g.L.Sink.write_faults l.initial.link ≤ g.L.Sink.write_faults l.link)
    × g.L.Link.was_led l.initial.link l.link

abbrev pub decreases-loop-call : goal.decreases-loop-call
decreases-loop-call g l = l.self.budget
