use Rattle.cqc_client.specs.Drill.{IsDrill}
use Rattle.cqc_client.proofs.plan.drill.Given as goal

abbrev pub invariant-loop-round : goal.invariant-loop-round
invariant-loop-round l = IsDrill l.plan l.round
