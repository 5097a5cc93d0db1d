use Rattle.factored_core.proofs.WholeCore.{opened_core, opened_stands}
use Rattle.factored_core.proofs.whole.Core.open.Goals as goal

pub invariant_of-result : goal.invariant_of-result
invariant_of-result c = opened_core c.args.shape _ c.facts.ensures.limit c.in_ok-board.ensures

pub returns-clause-stands : goal.returns-clause-stands
returns-clause-stands c = opened_stands c.args.shape _ c.facts.ensures.limit c.in_ok-board.ensures
