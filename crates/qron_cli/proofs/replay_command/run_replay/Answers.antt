use Rattle.std.proofs.Common.{ap, inl, arith}
use Rattle.node_table.specs.declared.settings.Settings.{Settings}
use Rattle.node_table.specs.Document.{IsInRange}
use Rattle.qron_cli.specs.Files.{SaysSettings, NoSettings}
use Rattle.qron_cli.specs.Replay.{NoReplay}
use Rattle.cqc_server.specs.Watch.{LinkSeen}
use Rattle.qron_cli.specs.Statuses.{status_of, status_for}
use Rattle.qron_cli.proofs.Answering.{stopped_at, stopped_by_settings, stopped_later, replay_with_files}
use Rattle.qron_cli.proofs.replay_command.run_replay.Goals as goal

pub returns-in_err-settings : goal.returns-in_err-settings
returns-in_err-settings g c =
    let seen : g.row.H-Pipe.Denot → LinkSeen = λ pipe. record { left = g.H.Pipe.Source.left pipe; held = g.H.Pipe.Sink.held pipe; read_faults = g.H.Pipe.Source.read_faults pipe; write_faults = g.H.Pipe.Sink.write_faults pipe } in
    let name = c.args.settings.now in
    let before = g.H.House.facts c.args.house.now in
    let after = g.H.House.facts c.settings_of.new.house in
    let why = c.in_err-settings.field-0.0 in
    inl (stopped_at c.from_residual.result why (NoReplay before name c.args.schedule.now) before after _ _ c.from_residual.ensures.1
    (stopped_later (NoSettings before name) (NoReplay before name c.args.schedule.now) before before after (status_for why) (omega arith) inl
    (stopped_by_settings (λ (s : Settings). SaysSettings before name s × IsInRange s) name before after why c.in_err-settings.ensures.gave)) (ap seen c.settings_of.ensures.pipe))

pub returns : goal.returns
returns g c =
    let seen : g.row.H-Pipe.Denot → LinkSeen = λ pipe. record { left = g.H.Pipe.Source.left pipe; held = g.H.Pipe.Sink.held pipe; read_faults = g.H.Pipe.Source.read_faults pipe; write_faults = g.H.Pipe.Sink.write_faults pipe } in
    replay_with_files g.H.Dice.Dice.word c.in_ok-settings.settings c.args.settings.now c.args.schedule.now
    (g.H.House.facts c.args.house.now) (g.H.House.facts c.settings_of.new.house) (g.H.House.facts c.run_with.new.house)
    (seen (g.H.House.pipe_of c.args.house.now)) (seen (g.H.House.pipe_of c.settings_of.new.house)) (seen (g.H.House.pipe_of c.run_with.new.house)) (status_of c.run_with.result)
    c.settings_of.ensures.asked c.in_ok-settings.ensures.gave.0 (ap seen c.settings_of.ensures.pipe) c.run_with.ensures
