use Rattle.std.proofs.Common.{arith, ap, ◌∙◌}
use Rattle.cqc_model.specs.Plan.{command_size}
use Rattle.cqc_wire.proofs.Rooms.{sized_more, sized_all}
use Rattle.cqc_wire.proofs.messages.size_of_list.Goals as goal

pub loop-command-preserved : goal.loop-command-preserved
loop-command-preserved c =
    sized_more c.args.list.now c.loop-command.command-index c.loop-command.size c.size_of_command-size.result _ (omega arith) c.loop-command.invariant
    (c.size_of_command-size.ensures ∙ ap command_size c.number_of.ensures)

pub returns : goal.returns
returns c = sized_all c.args.list.now c.loop-command.command-index c.loop-command.size (omega arith) c.loop-command.invariant
