use Rattle.cqc_program.specs.Walks.{IsOver}
use Rattle.cqc_program.proofs.tests.asks.Given as goal

abbrev pub invariant-loop-wanted : goal.invariant-loop-wanted
invariant-loop-wanted l = IsOver l.body l.walk
