use Rattle.std.proofs.Common.{arith, IsSome, sym, ap, subst, ◌∙◌}
use Rattle.core_cells.specs.Cells.{Cells}
use Rattle.factored_core.specs.Changes.{IsPreparedStep}
use Rattle.factored_core.specs.declared.prepared.Prepared.{Prepared}
use Rattle.factored_core.proofs.Changed.{some_there}
use Rattle.factored_core.proofs.TwoActs.{pool_cell, slot_small, sum_small, product_there, product_places, other_there, pool_there, joined_leaves_node, joined_prepared}
use Rattle.factored_core.proofs.two_qubit_gates.joined.Goals as goal

pub freed-pool-requires-clause-pool : goal.freed-pool-requires-clause-pool
freed-pool-requires-clause-pool g c = let w = pool_cell _ _ _ _ c.requires.ready _ _ _ c.requires.spots in subst (λ (b : Cells). IsSome b.pool) (sym c.count-count.ensures.same) (some_there _ (w.0) (w.1))

pub freed-pool-requires-clause-slot : goal.freed-pool-requires-clause-slot
freed-pool-requires-clause-slot g c = slot_small _ _ _ _ c.requires.ready _ _ _ c.requires.spots c.facts.ensures.slots

pub merge-requires-clause-ready : goal.merge-requires-clause-ready
merge-requires-clause-ready g c x y is_x is_y =
    let e = c.freed-pool.ensures.same ∙ c.count-count.ensures.same in
    c.requires.fits x y (ap (λ (b : Cells). b.slot c.args.one.slot) (sym e) ∙ is_x) (ap (λ (b : Cells). b.slot c.args.two.slot) (sym e) ∙ is_y)

pub overflow_add-count : goal.overflow_add-count
overflow_add-count g c = let h = sum_small _ _ _ _ c.requires.ready _ _ _ c.requires.spots c.requires.apart c.requires.fits _ c.count-count.ensures.few in omega (arith, h)

pub gate-requires-clause-there : goal.gate-requires-clause-there
gate-requires-clause-there g c = product_there _ _ _ _ c.requires.ready _ _ _ c.requires.spots c.requires.apart _ (c.freed-pool.ensures.same ∙ c.count-count.ensures.same) _ c.merge.ensures

pub gate-requires-clause-places : goal.gate-requires-clause-places
gate-requires-clause-places g c =
    product_places _ _ _ _ c.requires.ready _ _ _ c.requires.spots c.requires.apart _ (c.freed-pool.ensures.same ∙ c.count-count.ensures.same) _ c.merge.ensures
    _ (c.count-count.ensures.count _ (c.requires.spots.first_spot).there)

pub empty-requires : goal.empty-requires
empty-requires g c =
    other_there _ _ _ _ c.requires.ready _ _ _ c.requires.spots c.requires.apart _ (c.freed-pool.ensures.same ∙ c.count-count.ensures.same) _ c.merge.ensures
    _ (c.count-count.ensures.count _ (c.requires.spots.first_spot).there) _ c.gate.ensures

pub prepare_pool-requires : goal.prepare_pool-requires
prepare_pool-requires g c =
    let w = pool_cell _ _ _ _ c.requires.ready _ _ _ c.requires.spots in
    pool_there _ _ _ _ c.requires.ready _ _ _ c.requires.spots c.requires.apart _ (c.freed-pool.ensures.same ∙ c.count-count.ensures.same) _ c.merge.ensures
    _ (c.count-count.ensures.count _ (c.requires.spots.first_spot).there) _ c.gate.ensures _ c.empty.ensures (w.0) (w.1)

pub prepare_node-requires : goal.prepare_node-requires
prepare_node-requires g c =
    let w = pool_cell _ _ _ _ c.requires.ready _ _ _ c.requires.spots in
    joined_leaves_node _ _ _ _ c.requires.ready _ _ _ c.requires.spots c.requires.apart _ (c.freed-pool.ensures.same ∙ c.count-count.ensures.same) _ c.merge.ensures
    _ (c.count-count.ensures.count _ (c.requires.spots.first_spot).there) _ c.gate.ensures _ c.empty.ensures (w.0) (w.1)
    _ (c.freed-pool.ensures.freed (w.0) (ap (λ (b : Cells). b.pool) c.count-count.ensures.same ∙ w.1)) _ c.prepare_pool.ensures

pub returns-clause-step : goal.returns-clause-step
returns-clause-step g c =
    let w = pool_cell _ _ _ _ c.requires.ready _ _ _ c.requires.spots in
    subst (λ (p : Prepared). IsPreparedStep c.args.shape.now (g.B.Board.cells c.args.board.now) (g.B.Board.cells c.prepare_node.new.board) p) (sym c.in_both.ensures)
    (joined_prepared _ _ _ _ c.requires.ready _ _ _ c.requires.spots c.requires.apart _ (c.freed-pool.ensures.same ∙ c.count-count.ensures.same) _ c.merge.ensures
    _ (c.count-count.ensures.count _ (c.requires.spots.first_spot).there) _ c.gate.ensures _ c.empty.ensures (w.0) (w.1)
    _ (c.freed-pool.ensures.freed (w.0) (ap (λ (b : Cells). b.pool) c.count-count.ensures.same ∙ w.1)) _ c.prepare_pool.ensures c.requires.fits _ c.prepare_node.ensures)
