use Rattle.std.proofs.Common.{◌≡◌, rules, IsSome, slice_get, sym, subst, ◌∙◌}
use Rattle.core_cells.specs.Cells.{Cells}
use Rattle.core_cells.specs.Owned.{cells_of}
use Rattle.core_cells.proofs.tests.new_cells_are_empty.Goals as goal

pub on_slot-requires-clause-there : goal.on_slot-requires-clause-there
on_slot-requires-clause-there g c =
    let there : IsSome (slice_get c.expect-cells.result.slots 3) = search rules in
    let same : cells_of c.held_pool.new.board ≡ cells_of c.expect-cells.result = c.held_pool.ensures.same ∙ c.held_node.ensures.same in
    subst (λ (cs : Cells). IsSome (cs.slot 3)) (sym same) there
