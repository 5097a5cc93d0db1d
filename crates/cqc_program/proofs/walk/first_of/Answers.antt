use Rattle.std.proofs.Common.{arith}
use Rattle.cqc_program.proofs.Walks.{begins_none, begins_first}
use Rattle.cqc_program.proofs.walk.first_of.Goals as goal

pub returns-then-front-eq0 : goal.returns-then-front-eq0
returns-then-front-eq0 c = rw c.end_of.ensures (begins_none c.args.body.now c.args.front c.requires.passed (omega arith))

pub returns : goal.returns
returns c = begins_first c.args.body.now c.args.front _ c.next_in_round.result c.requires.passed (omega arith) c.next_in_round.ensures
