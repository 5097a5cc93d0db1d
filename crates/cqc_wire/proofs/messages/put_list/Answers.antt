use Rattle.std.proofs.Common.{arith}
use Rattle.cqc_wire.proofs.Rooms.{put_none, put_more, put_all, next_fits, no_command}
use Rattle.cqc_wire.proofs.messages.put_list.Goals as goal

pub loop-command-init : goal.loop-command-init
loop-command-init c = put_none c.args.out.now c.args.at

pub put_command-at-requires : goal.put_command-at-requires
put_command-at-requires c =
    let kept = c.loop-command.invariant in
    omega (arith, c.requires, kept.place, kept.same, next_fits c.args.list.now c.loop-command.command-index no_command (omega arith))

pub loop-command-preserved : goal.loop-command-preserved
loop-command-preserved c =
    put_more c.args.out.now _ _ c.args.list.now c.args.at _ _ c.loop-command.command-index no_command (omega arith) c.loop-command.invariant c.put_command-at.ensures

pub returns : goal.returns
returns c = put_all _ _ c.args.list.now c.args.at _ c.loop-command.command-index (omega arith) c.loop-command.invariant
