use Rattle.std.proofs.Common.{◌≡◌, arith, ℕ, List, false, subst}
use Rattle.state_model.specs.Row.{is_listed}
use Rattle.core_cells.specs.Marks.{IsLeastListed}
use Rattle.core_cells.proofs.MarkLemmas.{least_marked, nothing_marked}
use Rattle.core_cells.proofs.marks.Marks.least.Goals as goal

pub returns-then-self-n : goal.returns-then-self-n
returns-then-self-n c = subst (λ (ns : List ℕ). IsLeastListed ns c.loop-n.n) c.self.view_is (least_marked c.self.inside.marks c.loop-n.n c.if-self-n.true c.loop-n.invariant)

pub returns : goal.returns
returns c = subst (λ (ns : List ℕ). (q : ℕ) → is_listed ns q ≡ false) c.self.view_is (nothing_marked c.self.inside.marks 128 c.self.invariant (λ j less. c.loop-n.invariant j (omega arith)))
