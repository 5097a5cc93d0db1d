use Rattle.std.proofs.Common.{ap, inl, subst}
use Rattle.std.proofs.lemmas.Result.{err_from_is_err_and}
use Rattle.schedule.specs.declared.plans.Schedule.{Schedule}
use Rattle.schedule.specs.Views.{plans}
use Rattle.qron_cli.specs.Files.{SaysSchedule}
use Rattle.qron_cli.specs.Seats.{CanPlay}
use Rattle.cqc_server.specs.Watch.{LinkSeen}
use Rattle.qron_cli.specs.Statuses.{status_of}
use Rattle.qron_cli.proofs.Answering.{stopped_by_schedule, replay_with_schedule}
use Rattle.qron_cli.proofs.replay_command.run_with.Goals as goal

pub returns-in_err-schedule : goal.returns-in_err-schedule
returns-in_err-schedule g c =
    let seen : g.row.H-Pipe.Denot → LinkSeen = λ pipe. record { left = g.H.Pipe.Source.left pipe; held = g.H.Pipe.Sink.held pipe; read_faults = g.H.Pipe.Source.read_faults pipe; write_faults = g.H.Pipe.Sink.write_faults pipe } in
    let p = err_from_is_err_and c.from_residual.result c.from_residual.ensures.1 in
    let name = c.args.schedule.now in
    let before = g.H.House.facts c.args.house.now in
    let after = g.H.House.facts c.schedule_of.new.house in
    let nodes = c.nodes-nodes.result in
    rw (p.1, p.2, ← c.nodes-nodes.ensures.nodes)
    (inl (stopped_by_schedule (λ (s : Schedule). SaysSchedule before name nodes (plans s) × CanPlay nodes s) name nodes before after c.in_err-schedule.field-0.0 c.in_err-schedule.ensures.gave, ap seen c.schedule_of.ensures.pipe))

pub returns : goal.returns
returns g c =
    let seen : g.row.H-Pipe.Denot → LinkSeen = λ pipe. record { left = g.H.Pipe.Source.left pipe; held = g.H.Pipe.Sink.held pipe; read_faults = g.H.Pipe.Source.read_faults pipe; write_faults = g.H.Pipe.Sink.write_faults pipe } in
    let name = c.args.schedule.now in
    let before = g.H.House.facts c.args.house.now in
    let s = plans c.in_ok-schedule.schedule in
    replay_with_schedule g.H.Dice.Dice.word c.args.settings name s before (g.H.House.facts c.schedule_of.new.house) (g.H.House.facts c.run_schedule.new.house)
    (seen (g.H.House.pipe_of c.args.house.now)) (seen (g.H.House.pipe_of c.schedule_of.new.house)) (seen (g.H.House.pipe_of c.run_schedule.new.house)) (status_of c.run_schedule.result)
    c.schedule_of.ensures.asked (subst (λ n. SaysSchedule before name n s) c.nodes-nodes.ensures.nodes c.in_ok-schedule.ensures.gave.0) (ap seen c.schedule_of.ensures.pipe) c.run_schedule.ensures
