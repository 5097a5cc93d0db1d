use Rattle.std.proofs.Common.{◌≡◌, [], Ok, sym, arith, rules}
use Rattle.text_lines.specs.Lines.{lines}
use Rattle.text_lines.proofs.LineLemmas.{length-lines-le}
use Rattle.schedule.specs.Schedule.{schedule_of}
use Rattle.schedule.specs.Views.{plans}
use Rattle.schedule.proofs.RangeLemmas.{schedule_of-ranges}
use Rattle.schedule.proofs.reader.read_schedule.Goals as goal

pub loop-line-init : goal.loop-line-init
loop-line-init c =
    let left : c.into_iter-line-iterator.result ≡ lines c.args.text.now = search rules in
    let plans = c.new.ensures.items in
    let order = c.new-2.ensures.items in
    record { read = rw (left, plans, order); counted = rw left (omega (arith, length-lines-le c.args.text.now)) }

pub returns-clause-ranges : goal.returns-clause-ranges
returns-clause-ranges c =
    let ended : c.loop-line.line-iterator ≡ [] = search rules in
    let read : Ok (plans c.loop-line.schedule) ≡ schedule_of c.args.nodes c.args.text.now = rw ended at c.loop-line.invariant.read in
    schedule_of-ranges c.args.nodes c.args.text.now c.loop-line.schedule (sym read)
