use Rattle.cqc_program.proofs.Walks.{done_is}
use Rattle.cqc_program.proofs.walk.Walk.done_due.Goals as goal

pub returns : goal.returns
returns c = λ body over none. done_is body c.args.self.now over none
