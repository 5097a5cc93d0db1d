use Rattle.factored_core.proofs.PairLemmas.{joined_prepares}
use Rattle.factored_core.proofs.pairs.merge.Goals as goal

pub returns : goal.returns
returns g c y there = joined_prepares _ _ c.args.one c.args.two c.requires.there.0 c.requires.there.1 y there c.on_two.ensures
