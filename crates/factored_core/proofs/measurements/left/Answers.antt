use Rattle.std.proofs.Common.{refl}
use Rattle.factored_core.proofs.MeasurementActs.{pool_there, pool_left, spot_there, slot_left, can_take_out, none_free, alone_prepared, moved_prepared, free_still}
use Rattle.factored_core.proofs.measurements.left.Goals as goal

pub held_pool-pool-requires : goal.held_pool-pool-requires
held_pool-pool-requires g c = pool_there _ _ _ _ _ c.requires.measured (c.requires.left).after (c.requires.left).kind

-- ---- it is alone
pub prepare_pool-requires : goal.prepare_pool-requires
prepare_pool-requires g c = pool_left _ _ _ _ _ c.requires.measured (c.requires.left).after (c.requires.left).kind _ _ _ c.held_pool-pool.ensures.same c.prepare_node.ensures

pub set-requires : goal.set-requires
set-requires g c =
    slot_left _ _ _ _ _ c.requires.measured (c.requires.left).after (c.requires.left).kind _ _ _ _ _ c.held_pool-pool.ensures.same c.prepare_node.ensures c.prepare_pool.ensures
    _ (spot_there _ _ _ _ _ c.requires.measured (c.requires.left).after (c.requires.left).kind)

pub returns-then-measured-clause-step : goal.returns-then-measured-clause-step
returns-then-measured-clause-step g c =
    alone_prepared _ _ _ _ _ c.requires.measured (c.requires.left).after (c.requires.left).kind _ _ _ _ _ c.held_pool-pool.ensures.same c.prepare_node.ensures c.prepare_pool.ensures
    _ _ _ (c.requires.left).left c.if-measured.true refl c.held_pool-pool.ensures.copied c.set.ensures c.step_of.ensures

-- ---- it moves out
pub unreachable-requires : goal.unreachable-requires
unreachable-requires g c = none_free _ _ _ _ _ c.requires.measured (c.requires.left).after (c.requires.left).kind c.if-measured.false _ c.held_pool-pool.ensures.copied c.in_default.ensures

pub prepare_pool-requires-2 : goal.prepare_pool-requires-2
prepare_pool-requires-2 g c = pool_left _ _ _ _ _ c.requires.measured (c.requires.left).after (c.requires.left).kind _ _ _ c.held_pool-pool.ensures.same c.prepare_node-2.ensures

pub take_out-requires : goal.take_out-requires
take_out-requires g c = can_take_out _ _ _ _ _ c.requires.measured (c.requires.left).after (c.requires.left).kind _ _ _ _ _ c.held_pool-pool.ensures.same c.prepare_node-2.ensures c.prepare_pool-2.ensures

pub set-requires-2 : goal.set-requires-2
set-requires-2 g c =
    free_still _ _ _ _ _ c.requires.measured (c.requires.left).after (c.requires.left).kind _ _ _ _ _ c.held_pool-pool.ensures.same c.prepare_node-2.ensures c.prepare_pool-2.ensures
    _ (c.requires.left).left _ _ _ c.held_pool-pool.ensures.copied c.in-Some.ensures c.take_out.ensures

pub returns-clause-step : goal.returns-clause-step
returns-clause-step g c =
    moved_prepared _ _ _ _ _ c.requires.measured (c.requires.left).after (c.requires.left).kind _ _ _ _ _ c.held_pool-pool.ensures.same c.prepare_node-2.ensures c.prepare_pool-2.ensures
    _ _ _ _ _ _ (c.requires.left).left c.if-measured.false refl c.held_pool-pool.ensures.copied c.in-Some.ensures c.take_slot.ensures c.take_out.ensures c.set-2.ensures c.step_of-2.ensures
