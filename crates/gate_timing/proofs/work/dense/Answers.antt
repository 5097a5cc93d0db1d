use Rattle.std.proofs.Common.{[], ◌∷◌}
use Rattle.gate_timing.proofs.Dense.{twelve, distinct_take}
use Rattle.gate_timing.proofs.work.dense.Goals as goal

pub open-requires-clause-distinct : goal.open-requires-clause-distinct
open-requires-clause-distinct c = distinct_take c.args.count (0 ∷ 1 ∷ 2 ∷ 3 ∷ 4 ∷ 5 ∷ 6 ∷ 7 ∷ 8 ∷ 9 ∷ 10 ∷ 11 ∷ []) twelve
