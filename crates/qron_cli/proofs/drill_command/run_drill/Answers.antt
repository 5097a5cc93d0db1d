use Rattle.std.proofs.Common.{map, Some, sym, ap, ◌∙◌, inr}
use Rattle.qron_link.specs.MemLinks.{Memory}
use Rattle.cqc_client.specs.Tally.{lines_of}
use Rattle.cqc_server.specs.declared.actor.Actor.{Actor}
use Rattle.cqc_server.specs.Replay.{Seen}
use Rattle.schedule.specs.Views.{plans}
use Rattle.qron_cli.specs.Drill.{summary_of}
use Rattle.qron_cli.specs.Lines.{ending_in, outcome_of_all}
use Rattle.cqc_server.specs.Watch.{LinkSeen}
use Rattle.qron_cli.specs.Statuses.{status_of}
use Rattle.qron_cli.proofs.DrillLemmas.{drilled_by}
use Rattle.qron_cli.proofs.LineLemmas.{endings_shown}
use Rattle.qron_cli.proofs.Seating.{printed_by}
use Rattle.qron_cli.proofs.drill_command.run_drill.Goals as goal

pub returns : goal.returns
returns g c =
    let seen : Actor Memory g.row.H-Dice.Denot → Seen = λ a. record { session = a.session; left = Some a.link.left; held = Some a.link.held; room = Some a.link.room; read_faults = a.link.read_faults; write_faults = a.link.write_faults; dice = record { key = g.H.Dice.Dice.key a.dice; seat = g.H.Dice.Dice.begun_seat a.dice; serial = g.H.Dice.Dice.begun_serial a.dice; taken = g.H.Dice.Dice.taken a.dice }; ending = a.ending } in
    let side : g.row.H-Pipe.Denot → LinkSeen = λ p. record { left = g.H.Pipe.Source.left p; held = g.H.Pipe.Sink.held p; read_faults = g.H.Pipe.Source.read_faults p; write_faults = g.H.Pipe.Sink.write_faults p } in
    let played = c.in_ok-played in
    let entries = played.played.solo.entries in
    inr (drilled_by g.H.Dice.Dice.word c.args.rounds (g.H.House.facts c.args.house.now) c.drill_settings.result (plans c.in_ok-schedule.schedule)
    (side (g.H.House.pipe_of c.args.house.now)) (side (g.H.House.pipe_of c.print.new.house)) (status_of c.print.result)
    c.drill_settings.ensures.settings c.in_ok-schedule.ensures.plans (record {
      entries = entries;
      turns = played.ensures.turns;
      printed = printed_by _ _ _ _ _ _ _ _
          (c.as_str.ensures.value ∙ c.in_ok-summary.ensures ∙ ap lines_of c.summary_of.ensures ∙ ap (λ ends. lines_of (summary_of c.args.rounds entries ends)) played.ensures.ends)
          (ap status_of (c.outcome.ensures ∙ ap outcome_of_all (sym (endings_shown seen played.played.actors.items) ∙ ap (map ending_in) played.ensures.ends)))
          (ap side played.ensures.pipe)
          c.print.ensures.printed;
    }))
