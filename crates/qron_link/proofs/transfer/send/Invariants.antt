use Rattle.std.proofs.Common.{◌-◌, ◌≤◌, length, take}
use Rattle.qron_link.specs.Outside.{WasWritten}
use Rattle.qron_link.proofs.transfer.send.Given as goal

abbrev pub invariant-loop-done : goal.invariant-loop-done
invariant-loop-done g l =
    (l.done ≤ length l.piece)
    × WasWritten (g.S.Sink.held l.initial.sink) (take l.done l.piece) (g.S.Sink.held l.sink)
    × (g.S.Sink.write_faults l.initial.sink ≤ g.S.Sink.write_faults l.sink)
    × g.S.Sink.was_written l.initial.sink l.sink

abbrev pub decreases-loop-done : goal.decreases-loop-done
decreases-loop-done g l = length l.piece - l.done
