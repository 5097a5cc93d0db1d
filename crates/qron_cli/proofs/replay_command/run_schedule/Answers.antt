use Rattle.std.proofs.Common.{map, Some, sym, ap, ◌∙◌, inr}
use Rattle.qron_link.specs.MemLinks.{Memory}
use Rattle.cqc_server.specs.declared.actor.Actor.{Actor}
use Rattle.cqc_server.specs.Replay.{Seen}
use Rattle.cqc_server.specs.InMemory.{shown_end}
use Rattle.qron_cli.specs.Lines.{end_lines, ending_in, outcome_of_all}
use Rattle.cqc_server.specs.Watch.{LinkSeen}
use Rattle.qron_cli.specs.Statuses.{status_of}
use Rattle.qron_cli.proofs.LineLemmas.{endings_shown}
use Rattle.qron_cli.proofs.Seating.{printed_by}
use Rattle.qron_cli.proofs.replay_command.run_schedule.Goals as goal

pub returns : goal.returns
returns g c =
    let seen : Actor Memory g.row.H-Dice.Denot → Seen = λ a. record { session = a.session; left = Some a.link.left; held = Some a.link.held; room = Some a.link.room; read_faults = a.link.read_faults; write_faults = a.link.write_faults; dice = record { key = g.H.Dice.Dice.key a.dice; seat = g.H.Dice.Dice.begun_seat a.dice; serial = g.H.Dice.Dice.begun_serial a.dice; taken = g.H.Dice.Dice.taken a.dice }; ending = a.ending } in
    let side : g.row.H-Pipe.Denot → LinkSeen = λ p. record { left = g.H.Pipe.Source.left p; held = g.H.Pipe.Sink.held p; read_faults = g.H.Pipe.Source.read_faults p; write_faults = g.H.Pipe.Sink.write_faults p } in
    let actors = c.in_ok-played.played.actors.items in
    inr (record {
      entries = c.in_ok-played.played.solo.entries;
      turns = c.in_ok-played.ensures.turns;
      printed = printed_by _ _ _ _ _ _ _ _
          (c.as_str.ensures.value ∙ c.in_ok-lines.ensures ∙ ap (λ xs. end_lines 0 (map shown_end (map seen xs))) c.deref.ensures.value ∙ ap (end_lines 0) c.in_ok-played.ensures.ends)
          (ap status_of (c.outcome.ensures ∙ ap outcome_of_all (sym (endings_shown seen actors) ∙ ap (map ending_in) c.in_ok-played.ensures.ends)))
          (ap side c.in_ok-played.ensures.pipe)
          c.print.ensures.printed;
    })
