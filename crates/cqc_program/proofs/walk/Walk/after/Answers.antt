use Rattle.cqc_program.proofs.Walks.{over_end, notice_end}
use Rattle.cqc_program.proofs.walk.Walk.after.Goals as goal

pub returns-then-not-ok-clause-over : goal.returns-then-not-ok-clause-over
returns-then-not-ok-clause-over c = rw c.end_of-self.ensures (over_end c.args.body.now c.args.self.now _ c.requires.over)

pub returns-then-not-ok-clause-notify : goal.returns-then-not-ok-clause-notify
returns-then-not-ok-clause-notify c = rw (c.end_of-self.ensures, c.if-not-ok.true) (notice_end c.args.body.now _)
