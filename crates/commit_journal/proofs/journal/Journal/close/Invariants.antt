use Rattle.std.proofs.Common.{◌≡◌}
use Rattle.commit_journal.proofs.Closing.{AreCompared}
use Rattle.commit_journal.proofs.journal.Journal.close.Given as goal

abbrev pub invariant-loop-place : goal.invariant-loop-place
invariant-loop-place g l = (l.self ≡ l.initial.self) × (l.passes.items ≡ l.initial.passes.items) × AreCompared l.initial.passes.items l.initial.self l.place
