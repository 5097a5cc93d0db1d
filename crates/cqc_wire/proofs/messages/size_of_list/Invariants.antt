use Rattle.cqc_wire.proofs.Rooms.{Sized}
use Rattle.cqc_wire.proofs.messages.size_of_list.Given as goal

abbrev pub invariant-loop-command : goal.invariant-loop-command
invariant-loop-command l = Sized l.list l.command-index l.size
