use Rattle.std.proofs.Common.{ℕ, ◌≡◌, ◌<◌, Some, slice_get}
use Rattle.commit_journal.specs.Views.{Worker}
use Rattle.quantum_hub.proofs.site.are_in_order.Given as goal

abbrev pub invariant-loop-place : goal.invariant-loop-place
invariant-loop-place g l = (k : ℕ) (pass : Worker) → k < l.place → slice_get l.passes k ≡ Some pass → pass.seat ≡ k
