use Rattle.std.proofs.Common.{◌≡◌, ℕ, ◌≤◌, List}
use Rattle.qron_link.specs.Outside.{WasWritten}
use Rattle.qron_link.specs.Transfers.{Took}
use Rattle.cqc_client.proofs.Hearings.{Hearing}
use Rattle.cqc_client.proofs.hearing.hear.Given as goal

abbrev pub invariant-loop-last : goal.invariant-loop-last
invariant-loop-last g l =
    (came : List ℕ) × (shown : List ℕ)
    × Took (g.L.Source.left l.initial.link) (g.L.Source.left l.link) l.initial.budget l.budget came
    × WasWritten (g.S.Sink.held l.initial.out) shown (g.S.Sink.held l.out)
    × Hearing l.last l.app came shown
    × (g.L.Source.read_faults l.initial.link ≤ g.L.Source.read_faults l.link)
    × (g.S.Sink.write_faults l.initial.out ≤ g.S.Sink.write_faults l.out)
    × (g.L.Sink.held l.link ≡ g.L.Sink.held l.initial.link)
    × (g.L.Sink.write_faults l.link ≡ g.L.Sink.write_faults l.initial.link)
    × g.L.Link.was_led l.initial.link l.link
    × g.S.Sink.was_written l.initial.out l.out

abbrev pub decreases-loop-last : goal.decreases-loop-last
decreases-loop-last g l = l.budget
