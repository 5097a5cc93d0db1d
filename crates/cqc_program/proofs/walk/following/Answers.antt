use Rattle.std.proofs.Common.{arith}
use Rattle.cqc_program.proofs.Walks.{moved_here, moved_round, some_is_not_none, none_by}
use Rattle.cqc_program.proofs.walk.following.Goals.{then-is_some-via-then-is_some, then-is_some-via-else-is_some+then-next-eq0}
use Rattle.cqc_program.proofs.walk.following.Goals as goal

pub returns-then-is_some : goal.returns-then-is_some
returns-then-is_some c =
    let next = c.next_in_round-next in
    elim c.then-is_some.branch [
      | then-is_some-via-then-is_some w ↦ moved_here c.args.body.now c.args.walk next.result next.ensures (λ e. some_is_not_none next.result.asked _ w.if-is_some.ensures e)
      | then-is_some-via-else-is_some+then-next-eq0 w ↦ moved_here c.args.body.now c.args.walk next.result next.ensures (λ e. w.if-next-eq0.true)
    ]

pub returns : goal.returns
returns c =
    let next = c.next_in_round-next in
    moved_round c.args.body.now c.args.walk next.result c.next_in_round.result _ c.requires.over next.ensures
    (none_by next.result.asked c.if-is_some.ensures) (omega arith) c.next_in_round.ensures
