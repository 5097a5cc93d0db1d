use Rattle.cqc_server.specs.Watch.{LinkSeen}
use Rattle.qron_cli.proofs.Piping.{journal_served}
use Rattle.qron_cli.proofs.pipe_command.serve_pipe.Goals as goal

pub returns : goal.returns
returns g c =
    let s = c.serve_solo-ending in
    let seen : g.row.L.Denot → LinkSeen = λ link. record { left = g.L.Source.left link; held = g.L.Sink.held link; read_faults = g.L.Source.read_faults link; write_faults = g.L.Sink.write_faults link } in
    let old = c.args.opened.now in
    journal_served (g.D.Dice.word (g.D.Dice.key old.dice)) (seen c.args.link.now) (seen s.new.link) old.solo s.new.solo old.session s.result _
    c.requires.core c.requires.session s.ensures.served s.ensures.cause s.ensures.worded s.ensures.journal
    c.entries-entries.ensures.legal c.entries-entries.ensures.few
