use Rattle.std.proofs.Common.{◌≡◌, ◌≤◌}
use Rattle.cqc_session.specs.State.{steps_left}
use Rattle.cqc_session.specs.declared.stage.Stage.TheVariants.{Ready}
use Rattle.cqc_session.specs.Serving.{Serving}
use Rattle.cqc_session.proofs.over_core.serve.Given as goal

abbrev pub invariant-loop-ending : goal.invariant-loop-ending
invariant-loop-ending g l =
    Serving l.initial.session.connection l.initial.session.cap (g.L.Source.left l.initial.link) (g.L.Source.left l.link) (g.L.Sink.held l.initial.link) (g.L.Sink.held l.link)
    l.session.budget (g.K.Core.own l.initial.core) (g.K.Core.own l.core) l.session.work
    × (l.session.connection ≡ l.initial.session.connection)
    × (l.session.cap ≡ l.initial.session.cap)
    × (l.session.stage ≡ Ready)
    × (g.K.Core.capacity l.core ≡ g.K.Core.capacity l.initial.core)
    × (g.K.Core.connection l.core ≡ g.K.Core.connection l.initial.core)
    × g.K.Core.was_led l.initial.core l.core
    × g.K.Core.ready l.core
    × (g.L.Source.read_faults l.initial.link ≤ g.L.Source.read_faults l.link)
    × (g.L.Sink.write_faults l.initial.link ≤ g.L.Sink.write_faults l.link)
    × g.L.Link.was_led l.initial.link l.link

abbrev pub decreases-loop-ending : goal.decreases-loop-ending
decreases-loop-ending g l = steps_left l.session
