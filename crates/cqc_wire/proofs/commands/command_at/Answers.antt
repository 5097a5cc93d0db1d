use Rattle.std.proofs.Common.{arith}
use Rattle.cqc_wire.proofs.CommandLists.{command_at_front}
use Rattle.cqc_wire.proofs.commands.command_at.Goals as goal

pub bounds-front-2 : goal.bounds-front-2
bounds-front-2 c =
    let there = command_at_front c.args.list.now c.list_from-front.result.now c.args.at c.requires.begins c.list_from-front.ensures c.requires.passed in
    omega (arith, there.begins)

pub command_in-requires-clause-begins : goal.command_in-requires-clause-begins
command_in-requires-clause-begins c =
    let there = command_at_front c.args.list.now c.list_from-front.result.now c.args.at c.requires.begins c.list_from-front.ensures c.requires.passed in
    there.begins

pub command_in-requires-clause-whole : goal.command_in-requires-clause-whole
command_in-requires-clause-whole c =
    let there = command_at_front c.args.list.now c.list_from-front.result.now c.args.at c.requires.begins c.list_from-front.ensures c.requires.passed in
    there.whole

pub returns-clause-command : goal.returns-clause-command
returns-clause-command c =
    let there = command_at_front c.args.list.now c.list_from-front.result.now c.args.at c.requires.begins c.list_from-front.ensures c.requires.passed in
    rw (c.command_in.ensures, c.size_of_command-size.ensures) there.others

pub returns-clause-within : goal.returns-clause-within
returns-clause-within c =
    let there = command_at_front c.args.list.now c.list_from-front.result.now c.args.at c.requires.begins c.list_from-front.ensures c.requires.passed in
    rw c.size_of_command-size.ensures there.within
