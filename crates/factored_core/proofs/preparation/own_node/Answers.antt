use Rattle.factored_core.proofs.RefusalLines.{open_is}
use Rattle.factored_core.proofs.preparation.own_node.Goals as goal

pub returns-clause-open : goal.returns-clause-open
returns-clause-open g c = open_is _ _ _ _ _ c.held_node-own.ensures.same c.requires.has c.held_node-own.ensures.copied c.requires.stands c.requires.unprepared c.call_ranges.ensures c.requires.allowed c.facts.ensures
