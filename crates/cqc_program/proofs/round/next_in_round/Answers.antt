use Rattle.std.proofs.Common.{refl, arith}
use Rattle.cqc_program.proofs.Rounds.{at_command, comes_first, comes_on, found, no_more}
use Rattle.cqc_program.proofs.round.next_in_round.Goals as goal

pub loop-at-init : goal.loop-at-init
loop-at-init c = comes_first c.args.body.now c.args.stand c.requires.within c.requires.passed

pub returns-then-copies-gt0 : goal.returns-then-copies-gt0
returns-then-copies-gt0 c =
    let step = c.command_at-step in
    let copies = c.copies_of-copies in
    found c.args.body.now c.args.stand c.loop-at.at step.result.next c.loop-at.noticed _ step.result.command copies.result c.loop-at.invariant
    step.ensures.within (at_command c.args.body.now c.loop-at.at step.result.next step.result.command step.ensures.command) refl copies.ensures.copies
    (omega arith) copies.ensures.allowed

pub loop-at-preserved : goal.loop-at-preserved
loop-at-preserved c =
    let step = c.command_at-step in
    let copies = c.copies_of-copies in
    comes_on c.args.body.now c.args.stand c.loop-at.at step.result.next c.loop-at.noticed _ step.result.command copies.result c.loop-at.invariant
    step.ensures.within (at_command c.args.body.now c.loop-at.at step.result.next step.result.command step.ensures.command) refl copies.ensures.copies
    (omega arith)

pub returns : goal.returns
returns c = no_more c.args.body.now c.args.stand c.loop-at.at c.loop-at.noticed c.loop-at.invariant (omega arith)
