use Rattle.std.proofs.Common.{sym, subst, IsSome}
use Rattle.factored_core.specs.Changes.{IsPreparedStep}
use Rattle.factored_core.specs.declared.prepared.Prepared.{Prepared}
use Rattle.core_cells.specs.Cells.{Cells}
use Rattle.factored_core.proofs.Vacant.{pool_there, number_free, slot_free}
use Rattle.factored_core.proofs.PairSteps.{pair_touches, second_free, pair_leaves_own, pair_leaves_other, pair_leaves_slot, pair_prepared}
use Rattle.factored_core.proofs.new_qubits.paired.Goals as goal

pub held_pool-pool-requires : goal.held_pool-pool-requires
held_pool-pool-requires g c = pool_there _ _ _ _ c.requires.ready (pair_touches _ _ c.requires.kind)

pub take_pair-vacancy-requires-clause-number : goal.take_pair-vacancy-requires-clause-number
take_pair-vacancy-requires-clause-number g c =
    number_free _ _ _ _ c.requires.ready (pair_touches _ _ c.requires.kind) _ c.held_pool-pool.ensures.copied c.requires.own_room c.facts.ensures

pub take_pair-vacancy-requires-clause-slot : goal.take_pair-vacancy-requires-clause-slot
take_pair-vacancy-requires-clause-slot g c =
    slot_free _ _ _ _ c.requires.ready (pair_touches _ _ c.requires.kind) _ c.held_pool-pool.ensures.copied c.requires.own_room c.facts.ensures

pub take_pair-vacancy-requires-clause-second : goal.take_pair-vacancy-requires-clause-second
take_pair-vacancy-requires-clause-second g c =
    second_free _ _ _ _ c.requires.ready _ c.requires.kind _ c.requires.other _ c.requires.copied _ c.held_pool-pool.ensures.copied c.requires.own_room c.facts.ensures
    c.requires.other_room
    c.facts-2.ensures

pub prepare_pool-requires : goal.prepare_pool-requires
prepare_pool-requires g c = subst (λ (d : Cells). IsSome d.pool) (sym c.held_pool-pool.ensures.same) (pool_there _ _ _ _ c.requires.ready (pair_touches _ _ c.requires.kind))

pub prepare_node-requires : goal.prepare_node-requires
prepare_node-requires g c =
    pair_leaves_own _ _ _ _ c.requires.ready _ c.requires.kind _ c.requires.other _ c.requires.copied _ c.held_pool-pool.ensures.copied
    _ _ c.take_pair-vacancy.ensures _ c.pair-id.ensures.id _ _ c.pair_info-info.ensures.1 c.pair_info-info.ensures.2
    _ _ c.held_pool-pool.ensures.same c.prepare_pool.ensures

pub prepare_node-requires-2 : goal.prepare_node-requires-2
prepare_node-requires-2 g c =
    pair_leaves_other _ _ _ _ c.requires.ready _ c.requires.kind _ c.requires.other _ c.requires.copied _ c.held_pool-pool.ensures.copied
    _ _ c.take_pair-vacancy.ensures _ c.pair-id.ensures.id _ _ c.pair_info-info.ensures.1 c.pair_info-info.ensures.2
    _ _ c.held_pool-pool.ensures.same c.prepare_pool.ensures _ _ c.pair-id.ensures.from c.prepare_node.ensures

pub set_pair-requires-clause-there : goal.set_pair-requires-clause-there
set_pair-requires-clause-there g c =
    pair_leaves_slot _ _ _ _ c.requires.ready _ c.requires.kind _ c.requires.other _ c.requires.copied _ c.held_pool-pool.ensures.copied
    _ _ c.take_pair-vacancy.ensures _ c.pair-id.ensures.id _ _ c.pair_info-info.ensures.1 c.pair_info-info.ensures.2
    _ _ c.held_pool-pool.ensures.same c.prepare_pool.ensures _ _ c.pair-id.ensures.from c.prepare_node.ensures _ _ c.pair-id.ensures.to c.prepare_node-2.ensures c.requires.limit

pub returns-clause-step : goal.returns-clause-step
returns-clause-step g c =
    subst (λ (p : Prepared). IsPreparedStep c.args.shape.now (g.B.Board.cells c.args.board.now) (g.B.Board.cells c.set_pair.new.board) p)
    (sym c.in_new_slot.ensures)
    (pair_prepared _ _ _ _ c.requires.ready _ c.requires.kind _ c.requires.other _ c.requires.copied _ c.held_pool-pool.ensures.copied
    _ _ c.take_pair-vacancy.ensures _ c.pair-id.ensures.id _ _ c.pair_info-info.ensures.1 c.pair_info-info.ensures.2
    _ _ c.held_pool-pool.ensures.same c.prepare_pool.ensures _ _ c.pair-id.ensures.from c.prepare_node.ensures _ _ c.pair-id.ensures.to c.prepare_node-2.ensures _ c.set_pair.ensures)
