use Rattle.std.proofs.Common.{ap, inl}
use Rattle.node_table.specs.declared.settings.Settings.{Settings}
use Rattle.node_table.specs.Document.{IsInRange}
use Rattle.qron_cli.specs.Files.{SaysSettings, NoSettings}
use Rattle.cqc_server.specs.Watch.{LinkSeen}
use Rattle.qron_cli.specs.Statuses.{status_of}
use Rattle.qron_cli.proofs.Answering.{stopped_at, stopped_by_settings, pipe_with_file}
use Rattle.qron_cli.proofs.pipe_command.run_pipe_with.Goals as goal

pub returns-in_err-settings : goal.returns-in_err-settings
returns-in_err-settings g c =
    let seen : g.row.H-Pipe.Denot → LinkSeen = λ pipe. record { left = g.H.Pipe.Source.left pipe; held = g.H.Pipe.Sink.held pipe; read_faults = g.H.Pipe.Source.read_faults pipe; write_faults = g.H.Pipe.Sink.write_faults pipe } in
    let name = c.args.settings.now in
    let before = g.H.House.facts c.args.house.now in
    inl (stopped_at c.from_residual.result c.in_err-settings.field-0.0 (NoSettings before name) before (g.H.House.facts c.settings_of.new.house) _ _ c.from_residual.ensures.1
    (stopped_by_settings (λ (s : Settings). SaysSettings before name s × IsInRange s) name before (g.H.House.facts c.settings_of.new.house) c.in_err-settings.field-0.0
    c.in_err-settings.ensures.gave) (ap seen c.settings_of.ensures.pipe))

pub returns : goal.returns
returns g c =
    let seen : g.row.H-Pipe.Denot → LinkSeen = λ pipe. record { left = g.H.Pipe.Source.left pipe; held = g.H.Pipe.Sink.held pipe; read_faults = g.H.Pipe.Source.read_faults pipe; write_faults = g.H.Pipe.Sink.write_faults pipe } in
    pipe_with_file g.H.Dice.Dice.word c.args.settings.now c.in_ok-settings.settings
    (g.H.House.facts c.args.house.now) (g.H.House.facts c.settings_of.new.house) (g.H.House.facts c.run_pipe.new.house)
    (seen (g.H.House.pipe_of c.args.house.now)) (seen (g.H.House.pipe_of c.settings_of.new.house)) (seen (g.H.House.pipe_of c.run_pipe.new.house))
    (status_of c.run_pipe.result)
    c.settings_of.ensures.asked c.in_ok-settings.ensures.gave.0 (ap seen c.settings_of.ensures.pipe) c.run_pipe.ensures
