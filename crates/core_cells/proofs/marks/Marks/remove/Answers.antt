use Rattle.std.proofs.Common.{arith, ℕ, List, false, slice_set, subst}
use Rattle.core_cells.specs.Marks.{IsWithout, positions}
use Rattle.core_cells.proofs.MarkLemmas.{cleared}
use Rattle.core_cells.proofs.marks.Marks.remove.Goals as goal

pub returns : goal.returns
returns c = let long = c.self.invariant in subst (λ (old : List ℕ). IsWithout c.args.n old (positions (slice_set c.self.inside.marks c.args.n false))) c.self.view_is (cleared c.self.inside.marks c.args.n (omega arith))
