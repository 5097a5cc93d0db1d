use Rattle.std.proofs.Common.{subst}
use Rattle.factored_core.specs.Core.{IsKept}
use Rattle.factored_core.proofs.solo.Solo.facts.Goals as goal

pub returns : goal.returns
returns c = let kept = c.self.invariant in subst IsKept c.self.view_is (record { legal = (kept.0).legal; few = kept.1; most = kept.3 })
