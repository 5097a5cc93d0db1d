use Rattle.std.proofs.Common.{◌≡◌, ◌-◌, ◌≤◌, length}
use Rattle.qron_link.specs.Transfers.{Passing}
use Rattle.qron_link.proofs.transfer.skip.Given as goal

abbrev pub invariant-loop-done : goal.invariant-loop-done
invariant-loop-done g l =
    Passing (g.L.Source.left l.initial.link) (g.L.Source.left l.link) l.initial.budget l.budget l.done
    × (l.done ≤ l.size) × (length l.scratch ≡ 512)
    × (g.L.Source.read_faults l.initial.link ≤ g.L.Source.read_faults l.link)
    × (g.L.Sink.held l.link ≡ g.L.Sink.held l.initial.link)
    × (g.L.Sink.write_faults l.link ≡ g.L.Sink.write_faults l.initial.link)
    × g.L.Link.was_led l.initial.link l.link

abbrev pub decreases-loop-done : goal.decreases-loop-done
decreases-loop-done g l = l.size - l.done
