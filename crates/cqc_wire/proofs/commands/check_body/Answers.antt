use Rattle.std.proofs.Common.{sym, ◌∙◌}
use Rattle.cqc_wire.proofs.Counting.{counted_none, counted_one, counted_fault}
use Rattle.cqc_wire.proofs.commands.check_body.Goals as goal

pub loop-at-init : goal.loop-at-init
loop-at-init c = counted_none c.args.list.now

pub returns-in-Some : goal.returns-in-Some
returns-in-Some c =
    sym (counted_fault c.args.list.now c.list_from-front.result.now c.loop-at.at c.loop-at.count c.in-Some.fault c.loop-at.invariant c.loop-at-test.true c.list_from-front.ensures (sym c.fault_in.ensures ∙ c.in-Some.is))

pub loop-at-preserved : goal.loop-at-preserved
loop-at-preserved c =
    rw c.size_of_command-at.ensures (counted_one c.args.list.now c.list_from-front.result.now c.loop-at.at c.loop-at.count c.loop-at.invariant c.loop-at-test.true c.list_from-front.ensures (sym c.fault_in.ensures ∙ c.in_default.is))
