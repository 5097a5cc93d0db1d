use Rattle.std.proofs.Common.{arith}
use Rattle.cqc_model.proofs.Messages.{list_short}
use Rattle.cqc_wire.proofs.messages.size_of_body.Goals as goal

pub overflow_add-result : goal.overflow_add-result
overflow_add-result c = omega (arith, c.requires, c.size_of_list-in-Factory.ensures, list_short c.args.list.now)
