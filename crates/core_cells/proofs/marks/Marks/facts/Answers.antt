use Rattle.std.proofs.Common.{◌≡◌, ◌<◌, true, arith, ℕ, List, subst}
use Rattle.state_model.specs.Row.{is_listed}
use Rattle.core_cells.proofs.MarkLemmas.{listed_below}
use Rattle.core_cells.proofs.marks.Marks.facts.Goals as goal

pub returns : goal.returns
returns c = let long = c.self.invariant in subst (λ (ns : List ℕ). (q : ℕ) → is_listed ns q ≡ true → q < 128) c.self.view_is (λ q is. let below = listed_below c.self.inside.marks q is in omega arith)
