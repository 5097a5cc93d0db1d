use Rattle.std.proofs.Common.{◌-◌, length}
use Rattle.cqc_program.proofs.Rounds.{Comes}
use Rattle.cqc_program.proofs.round.next_in_round.Given as goal

abbrev pub invariant-loop-at : goal.invariant-loop-at
invariant-loop-at l = Comes l.body l.stand l.at l.noticed

abbrev pub decreases-loop-at : goal.decreases-loop-at
decreases-loop-at l = length l.body - l.at
