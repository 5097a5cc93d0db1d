use Rattle.std.proofs.Common.{◌≡◌, length}
use Rattle.qron_cli.proofs.real.doors_at.Given as goal

abbrev pub invariant-loop-node : goal.invariant-loop-node
invariant-loop-node g l = length l.doors.items ≡ l.node
