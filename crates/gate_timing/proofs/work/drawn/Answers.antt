use Rattle.std.proofs.Common.{arith}
use Rattle.gate_timing.proofs.Drawn.{drawn_row}
use Rattle.omega_ring.specs.Views.{weight_value}
use Rattle.gate_timing.proofs.work.drawn.Goals as goal

pub returns : goal.returns
returns c = drawn_row c.args.reg.now.value c.args.place c.args.word c.outcome.result (weight_value c.weights-split.result.one) (weight_value c.weights-split.result.whole) c.facts.ensures.rows c.facts.ensures.kept (omega arith) c.weights-split.ensures.one c.weights-split.ensures.whole c.outcome.ensures
