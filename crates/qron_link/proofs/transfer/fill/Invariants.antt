use Rattle.std.proofs.Common.{◌≡◌, ◌-◌, ◌≤◌, length}
use Rattle.qron_link.specs.Transfers.{Filling}
use Rattle.qron_link.proofs.transfer.fill.Given as goal

abbrev pub invariant-loop-have : goal.invariant-loop-have
invariant-loop-have g l =
    Filling (g.L.Source.left l.initial.link) (g.L.Source.left l.link) l.initial.budget l.budget l.room l.have
    × (g.L.Source.read_faults l.initial.link ≤ g.L.Source.read_faults l.link)
    × (g.L.Sink.held l.link ≡ g.L.Sink.held l.initial.link)
    × (g.L.Sink.write_faults l.link ≡ g.L.Sink.write_faults l.initial.link)
    × g.L.Link.was_led l.initial.link l.link

abbrev pub decreases-loop-have : goal.decreases-loop-have
decreases-loop-have g l = length l.initial.room - l.have
