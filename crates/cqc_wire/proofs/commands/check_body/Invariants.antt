use Rattle.std.proofs.Common.{◌-◌, length}
use Rattle.cqc_wire.proofs.Counting.{Counted}
use Rattle.cqc_wire.proofs.commands.check_body.Given as goal

abbrev pub invariant-loop-at : goal.invariant-loop-at
invariant-loop-at l = Counted l.list l.at l.count

abbrev pub decreases-loop-at : goal.decreases-loop-at
decreases-loop-at l = length l.list - l.at
