use Rattle.cqc_program.proofs.Walks.{asks_first}
use Rattle.cqc_program.proofs.walk.Walk.next.Goals as goal

pub returns-clause-next : goal.returns-clause-next
returns-clause-next c = (_, asks_first c.args._body.now c.args.self.now c.in_ok-copies.copies c.requires c.in_ok-copies.was)
