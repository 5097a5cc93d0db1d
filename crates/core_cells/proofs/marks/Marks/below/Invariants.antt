use Rattle.std.proofs.Common.{◌≡◌, ℕ, nat_lt}
use Rattle.state_model.specs.Row.{is_listed}
use Rattle.core_cells.proofs.marks.Marks.below.Given as goal

-- the numbers so far
abbrev pub invariant-loop-n : goal.invariant-loop-n
invariant-loop-n l = (q : ℕ) → is_listed l.all q ≡ nat_lt q l.n
