use Rattle.std.proofs.Common.{ap, inl, Vec, Global}
use Rattle.std.specs.Prelude.{map}
use Rattle.script.specs.Views.{sending_of}
use Rattle.script.specs.declared.reader.Message.{Message}
use Rattle.cqc_server.specs.Watch.{LinkSeen}
use Rattle.qron_cli.specs.Talk.{SaysScript, NoScript, CanTalk}
use Rattle.qron_cli.proofs.Answering.{stopped_at}
use Rattle.qron_cli.proofs.Talks.{stopped_by_script}
use Rattle.qron_cli.proofs.talk_command.run_talk.Goals as goal

pub returns-in_err-messages : goal.returns-in_err-messages
returns-in_err-messages g c =
    let seen : g.row.H-Pipe.Denot → LinkSeen = λ pipe. record { left = g.H.Pipe.Source.left pipe; held = g.H.Pipe.Sink.held pipe; read_faults = g.H.Pipe.Source.read_faults pipe; write_faults = g.H.Pipe.Sink.write_faults pipe } in
    let name = c.args.script.now in
    let before = g.H.House.facts c.args.house.now in
    inl (stopped_at c.from_residual.result c.in_err-messages.field-0.0 (NoScript before name) before (g.H.House.facts c.script_of.new.house) _ _ c.from_residual.ensures.1
    (stopped_by_script (λ (script : Vec Message Global). SaysScript before name (map sending_of script.items) × CanTalk (map sending_of script.items)) name before
    (g.H.House.facts c.script_of.new.house) c.in_err-messages.field-0.0 c.in_err-messages.ensures.gave) (ap seen c.script_of.ensures.pipe))
