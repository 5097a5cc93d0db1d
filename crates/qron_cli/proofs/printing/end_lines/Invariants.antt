use Rattle.std.proofs.Common.{◌≡◌, map, take, string_bytes, Some}
use Rattle.qron_link.specs.MemLinks.{Memory}
use Rattle.cqc_server.specs.declared.actor.Actor.{Actor}
use Rattle.cqc_server.specs.Replay.{Seen}
use Rattle.cqc_server.specs.InMemory.{shown_end}
use Rattle.qron_cli.specs.Lines.{end_lines}
use Rattle.qron_cli.proofs.printing.end_lines.Given as goal

abbrev pub invariant-loop-number : goal.invariant-loop-number
invariant-loop-number g l =
    string_bytes l.text ≡ end_lines 0 (map shown_end (map {A = Actor Memory g.row.D.Denot} {B = Seen}
    (λ a. record { session = a.session; left = Some a.link.left; held = Some a.link.held; room = Some a.link.room; read_faults = a.link.read_faults; write_faults = a.link.write_faults; dice = record { key = g.D.Dice.key a.dice; seat = g.D.Dice.begun_seat a.dice; serial = g.D.Dice.begun_serial a.dice; taken = g.D.Dice.taken a.dice }; ending = a.ending })
    (take l.number l.actors)))
