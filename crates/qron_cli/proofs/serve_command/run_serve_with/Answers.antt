use Rattle.std.proofs.Common.{ap, inl}
use Rattle.node_table.specs.declared.settings.Settings.{Settings}
use Rattle.node_table.specs.Document.{IsInRange}
use Rattle.cqc_server.specs.Watch.{LinkSeen}
use Rattle.qron_cli.specs.Files.{SaysSettings, NoSettings}
use Rattle.qron_cli.specs.Serve.{left_of}
use Rattle.qron_cli.specs.Statuses.{status_of}
use Rattle.qron_cli.proofs.Answering.{stopped_at, stopped_by_settings}
use Rattle.qron_cli.proofs.ServeLemmas.{serving_did, serve_with_file}
use Rattle.qron_cli.proofs.serve_command.run_serve_with.Goals as goal

pub returns-in_err-settings : goal.returns-in_err-settings
returns-in_err-settings g c =
    let seen : g.row.H-Pipe.Denot → LinkSeen = λ pipe. record { left = g.H.Pipe.Source.left pipe; held = g.H.Pipe.Sink.held pipe; read_faults = g.H.Pipe.Source.read_faults pipe; write_faults = g.H.Pipe.Sink.write_faults pipe } in
    let name = c.args.settings.now in
    let before = g.H.House.facts c.args.house.now in
    inl (stopped_at c.from_residual.result c.in_err-settings.field-0.0 (NoSettings before name) before (g.H.House.facts c.settings_of.new.house) _ _ c.from_residual.ensures.1
    (stopped_by_settings (λ (s : Settings). SaysSettings before name s × IsInRange s) name before (g.H.House.facts c.settings_of.new.house) c.in_err-settings.field-0.0
    c.in_err-settings.ensures.gave) (ap seen c.settings_of.ensures.pipe))

pub returns : goal.returns
returns g c =
    let seen : g.row.H-Pipe.Denot → LinkSeen = λ pipe. record { left = g.H.Pipe.Source.left pipe; held = g.H.Pipe.Sink.held pipe; read_faults = g.H.Pipe.Source.read_faults pipe; write_faults = g.H.Pipe.Sink.write_faults pipe } in
    let before = g.H.House.facts c.args.house.now in
    let between = g.H.House.facts c.settings_of.new.house in
    let old = seen (g.H.House.pipe_of c.args.house.now) in
    let mid = seen (g.H.House.pipe_of c.settings_of.new.house) in
    let new = seen (g.H.House.pipe_of c.run_serve-outcome.new.house) in
    let serving = c.run_serve-outcome.result in
    serve_with_file _ c.args.settings.now c.in_ok-settings.settings (g.H.House.posted c.args.house.now) (g.H.House.posted c.settings_of.new.house) (g.H.House.posted c.run_serve-outcome.new.house)
    before between (g.H.House.facts c.run_serve-outcome.new.house) old mid new (status_of serving.outcome)
    c.settings_of.ensures.asked c.in_ok-settings.ensures.gave.0 (ap seen c.settings_of.ensures.pipe) c.settings_of.ensures.posted
    (serving_did serving.kept (λ r. left_of r.entries.items r.served.items r.ends.items r.posts.items) _ between.keys (g.H.House.posted c.settings_of.new.house) (g.H.House.posted c.run_serve-outcome.new.house)
    c.in_ok-settings.settings between (g.H.House.facts c.run_serve-outcome.new.house) mid new (status_of serving.outcome) c.run_serve-outcome.ensures.none c.run_serve-outcome.ensures.kept c.run_serve-outcome.ensures.reported)
