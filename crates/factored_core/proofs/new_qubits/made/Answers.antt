use Rattle.std.proofs.Common.{sym, subst, IsSome}
use Rattle.factored_core.specs.Changes.{IsPreparedStep}
use Rattle.factored_core.specs.declared.prepared.Prepared.{Prepared}
use Rattle.core_cells.specs.Cells.{Cells}
use Rattle.factored_core.proofs.Vacant.{pool_there, number_free, slot_free}
use Rattle.factored_core.proofs.MakeSteps.{new_touches, new_leaves_node, new_leaves_slot, new_prepared}
use Rattle.factored_core.proofs.new_qubits.made.Goals as goal

pub held_pool-pool-requires : goal.held_pool-pool-requires
held_pool-pool-requires g c = pool_there _ _ _ _ c.requires.ready (new_touches _ c.requires.kind)

pub take_least-vacancy-requires-clause-number : goal.take_least-vacancy-requires-clause-number
take_least-vacancy-requires-clause-number g c =
    number_free _ _ _ _ c.requires.ready (new_touches _ c.requires.kind) _ c.held_pool-pool.ensures.copied c.requires.room c.facts.ensures

pub take_least-vacancy-requires-clause-slot : goal.take_least-vacancy-requires-clause-slot
take_least-vacancy-requires-clause-slot g c =
    slot_free _ _ _ _ c.requires.ready (new_touches _ c.requires.kind) _ c.held_pool-pool.ensures.copied c.requires.room c.facts.ensures

pub prepare_pool-requires : goal.prepare_pool-requires
prepare_pool-requires g c = subst (λ (d : Cells). IsSome d.pool) (sym c.held_pool-pool.ensures.same) (pool_there _ _ _ _ c.requires.ready (new_touches _ c.requires.kind))

pub prepare_node-requires : goal.prepare_node-requires
prepare_node-requires g c =
    new_leaves_node _ _ _ _ c.requires.ready c.requires.kind _ c.held_pool-pool.ensures.copied _ _ c.take_least-vacancy.ensures _ c.give-id.ensures.id _ _ c.held_pool-pool.ensures.same c.prepare_pool.ensures

pub set-requires : goal.set-requires
set-requires g c =
    new_leaves_slot _ _ _ _ c.requires.ready c.requires.kind _ c.held_pool-pool.ensures.copied _ _ c.take_least-vacancy.ensures _ c.give-id.ensures.id _ _ c.held_pool-pool.ensures.same c.prepare_pool.ensures
    _ _ c.give-id.ensures.node c.prepare_node.ensures

pub returns-clause-step : goal.returns-clause-step
returns-clause-step g c =
    subst (λ (p : Prepared). IsPreparedStep c.args.shape.now (g.B.Board.cells c.args.board.now) (g.B.Board.cells c.set.new.board) p)
    (sym c.in_new_slot.ensures)
    (new_prepared _ _ _ _ c.requires.ready c.requires.kind _ c.held_pool-pool.ensures.copied _ _ c.take_least-vacancy.ensures _ c.give-id.ensures.id _ _ c.held_pool-pool.ensures.same c.prepare_pool.ensures
    _ _ c.give-id.ensures.node c.prepare_node.ensures _ c.set.ensures)
