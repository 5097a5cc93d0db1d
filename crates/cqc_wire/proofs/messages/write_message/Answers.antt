use Rattle.std.proofs.Common.{arith}
use Rattle.cqc_wire.proofs.Rooms.{body_few}
use Rattle.cqc_wire.proofs.messages.write_message.Goals as goal

pub overflow_add-need : goal.overflow_add-need
overflow_add-need c = omega (arith, c.size_of_body-size.ensures, body_few c.args.head.now c.args.list.now c.requires.few)

pub overflow_cast-result : goal.overflow_cast-result
overflow_cast-result c = omega (arith, c.size_of_body-size.ensures, body_few c.args.head.now c.args.list.now c.requires.few)

pub overflow_cast-size : goal.overflow_cast-size
overflow_cast-size c = omega (arith, c.size_of_body-size.ensures, body_few c.args.head.now c.args.list.now c.requires.few)
