use Rattle.std.proofs.Common.{refl}
use Rattle.factored_core.proofs.MeasurementActs.{pool_there, number_small, slot_small, pool_left, can_take_out, taken_prepared}
use Rattle.factored_core.proofs.measurements.taken_out.Goals as goal

pub held_pool-requires : goal.held_pool-requires
held_pool-requires g c = pool_there _ _ _ _ _ c.requires.measured _ c.requires.taken

pub given_back-pool-requires-clause-number : goal.given_back-pool-requires-clause-number
given_back-pool-requires-clause-number g c = number_small _ _ _ _ _ c.requires.measured _ c.requires.taken c.facts.ensures.slots

pub given_back-pool-requires-clause-slot : goal.given_back-pool-requires-clause-slot
given_back-pool-requires-clause-slot g c = slot_small _ _ _ _ _ c.requires.measured _ c.requires.taken c.facts.ensures.slots

pub prepare_pool-requires : goal.prepare_pool-requires
prepare_pool-requires g c = pool_left _ _ _ _ _ c.requires.measured _ c.requires.taken _ _ _ c.held_pool.ensures.same c.prepare_node.ensures

pub take_out-requires : goal.take_out-requires
take_out-requires g c = can_take_out _ _ _ _ _ c.requires.measured _ c.requires.taken _ _ _ _ _ c.held_pool.ensures.same c.prepare_node.ensures c.prepare_pool.ensures

pub returns-clause-step : goal.returns-clause-step
returns-clause-step g c =
    taken_prepared _ _ _ _ _ c.requires.measured _ c.requires.taken _ _ _ _ _ c.held_pool.ensures.same c.prepare_node.ensures c.prepare_pool.ensures
    _ _ _ refl c.drop_handle.ensures.others c.held_pool.ensures.copied c.given_back-pool.ensures c.take_out.ensures c.step_of.ensures
