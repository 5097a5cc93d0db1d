use Rattle.std.proofs.Common.{◌≡◌, ◌+◌, ◌≤◌, length, map}
use Rattle.script.specs.Views.{sending_of}
use Rattle.cqc_client.specs.Talk.{Said, Moved, talk_limit}
use Rattle.cqc_client.proofs.Progress.{Progress}
use Rattle.cqc_client.proofs.talking.talk_in.Given as goal

abbrev pub invariant-loop-message : goal.invariant-loop-message
invariant-loop-message g l =
    (said : Said) × Progress (map sending_of l.script) l.message-index said
    × Moved said (g.L.Source.left l.initial.link) (g.L.Source.left l.link) (g.L.Sink.held l.initial.link) (g.L.Sink.held l.link) (g.S.Sink.held l.initial.out) (g.S.Sink.held l.out)
    × (l.budget + length said.read ≡ talk_limit)
    × (l.messages ≡ l.message-index)
    × (length l.room ≡ 65544)
    × (g.L.Source.read_faults l.initial.link ≤ g.L.Source.read_faults l.link)
    × (g.L.Sink.write_faults l.initial.link ≤ g.L.Sink.write_faults l.link)
    × (g.S.Sink.write_faults l.initial.out ≤ g.S.Sink.write_faults l.out)
    × g.L.Link.was_led l.initial.link l.link
    × g.S.Sink.was_written l.initial.out l.out
