use Rattle.gate_timing.proofs.Dense.{six_more}
use Rattle.gate_timing.proofs.work.dense_six.Goals as goal

pub open-requires-clause-distinct : goal.open-requires-clause-distinct
open-requires-clause-distinct c = six_more
