use Rattle.std.proofs.Common.{arith, ℕ, List, true, slice_set, subst}
use Rattle.core_cells.specs.Marks.{IsWith, positions}
use Rattle.core_cells.proofs.MarkLemmas.{marked}
use Rattle.core_cells.proofs.marks.Marks.add.Goals as goal

pub returns : goal.returns
returns c = let long = c.self.invariant in subst (λ (old : List ℕ). IsWith c.args.n old (positions (slice_set c.self.inside.marks c.args.n true))) c.self.view_is (marked c.self.inside.marks c.args.n (omega arith))
