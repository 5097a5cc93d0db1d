use Rattle.std.proofs.Common.{length, Some, sym, ap, ◌∙◌}
use Rattle.qron_link.specs.MemLinks.{Memory}
use Rattle.cqc_server.specs.declared.actor.Actor.{Actor}
use Rattle.cqc_server.specs.Replay.{Seen}
use Rattle.cqc_server.specs.InMemory.{shown_end}
use Rattle.qron_cli.specs.Drill.{written_in}
use Rattle.qron_cli.proofs.DrillLemmas.{shown_at, shown_past}
use Rattle.qron_cli.proofs.drill_command.bytes_at.Given as given
use Rattle.qron_cli.proofs.drill_command.bytes_at.Goals as goal

abbrev seen : (g : given.Over) → Actor Memory g.row.D.Denot → Seen
seen g a = record { session = a.session; left = Some a.link.left; held = Some a.link.held; room = Some a.link.room; read_faults = a.link.read_faults; write_faults = a.link.write_faults; dice = record { key = g.D.Dice.key a.dice; seat = g.D.Dice.begun_seat a.dice; serial = g.D.Dice.begun_serial a.dice; taken = g.D.Dice.taken a.dice }; ending = a.ending }

pub returns-in-Some : goal.returns-in-Some
returns-in-Some g c =
    let lookup = c.in-Some.ensures.lookup in
    c.bytes_of.ensures ∙ ap (λ end. length (written_in end)) (sym (shown_at shown_end (seen g) c.args.actors.now c.args.seat c.in-Some.actor.now lookup.3.0 lookup.1))

pub returns-in-None : goal.returns-in-None
returns-in-None g c = ap (λ end. length (written_in end)) (sym (shown_past shown_end (seen g) c.args.actors.now c.args.seat c.in-None.ensures.lookup.3))
