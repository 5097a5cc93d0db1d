use Rattle.std.proofs.Common.{◌≡◌, replicate}
use Rattle.core_cells.specs.Cells.{empty_slot}
use Rattle.core_cells.proofs.owned.empty_slots.Given as goal

-- the slots so far
abbrev pub invariant-loop : goal.invariant-loop
invariant-loop l = l.slots.items ≡ replicate l.counter (empty_slot l.limit)
