use Rattle.std.proofs.Common.{◌≡◌, Some, ap, ◌∙◌, get_or, string_bytes}
use Rattle.qron_cli.specs.Lines.{end_line}
use Rattle.qron_link.specs.MemLinks.{Memory}
use Rattle.cqc_server.specs.declared.actor.Actor.{Actor}
use Rattle.cqc_server.specs.Replay.{Seen}
use Rattle.cqc_server.specs.InMemory.{shown_end}
use Rattle.qron_cli.proofs.LineLemmas.{lines_next, pushed}
use Rattle.qron_cli.proofs.printing.end_lines.Goals as goal

pub loop-number-preserved : goal.loop-number-preserved
loop-number-preserved g c =
    let seen : Actor Memory g.row.D.Denot → Seen = λ a. record { session = a.session; left = Some a.link.left; held = Some a.link.held; room = Some a.link.room; read_faults = a.link.read_faults; write_faults = a.link.write_faults; dice = record { key = g.D.Dice.key a.dice; seat = g.D.Dice.begun_seat a.dice; serial = g.D.Dice.begun_serial a.dice; taken = g.D.Dice.taken a.dice }; ending = a.ending } in
    let at : string_bytes c.in-Ok.line ≡ end_line c.loop-number.number (shown_end (seen (get_or c.args.actors.now c.loop-number.number c.index-actors-number.result))) =
    c.in-Ok.ensures ∙ ap (λ a. end_line c.loop-number.number (shown_end (seen a))) c.index-actors-number.is in
    lines_next shown_end seen c.args.actors.now c.loop-number.number c.index-actors-number.result _ _ _ c.loop-number-test.true c.loop-number.invariant (c.as_str.ensures.value ∙ at) (pushed c.push_str.result (string_bytes c.loop-number.text) c.as_str.result.now (string_bytes c.push_str.new.self) c.if-is_err.ensures.value c.push_str.ensures.bytes)
