use Rattle.std.proofs.Common.{sym, ap, ◌∙◌, inr}
use Rattle.cqc_server.specs.Watch.{LinkSeen}
use Rattle.qron_cli.proofs.Answering.{answered}
use Rattle.qron_cli.proofs.pipe_command.run_pipe.Goals as goal

pub returns : goal.returns
returns g c =
    let s = c.serve_pipe-ending in
    let o = c.in_ok-opened in
    let seen : g.row.H-Pipe.Denot → LinkSeen = λ pipe. record { left = g.H.Pipe.Source.left pipe; held = g.H.Pipe.Sink.held pipe; read_faults = g.H.Pipe.Source.read_faults pipe; write_faults = g.H.Pipe.Sink.write_faults pipe } in
    inr (answered g.H.Dice.Dice.word (g.H.House.facts c.args.house.now) c.args.settings o.opened.solo (g.H.Dice.Dice.key o.opened.dice) _ _ _ _ s.result c.outcome_of.result
    s.ensures o.ensures.core o.ensures.key
    (ap seen (c.pipe.ensures.value ∙ c.open_with.ensures.pipe)) (ap seen (sym (g.met.H.House.pipe_is_put _ _))) c.outcome_of.ensures)
