use Rattle.std.proofs.Common.{◌≡◌, ℕ, ◌<◌, false, slice_index_or}
use Rattle.core_cells.proofs.marks.Marks.least.Given as goal

-- no mark so far is set
abbrev pub invariant-loop-n : goal.invariant-loop-n
invariant-loop-n l = (j : ℕ) → j < l.n → slice_index_or l.self-inside.marks j false ≡ false
