use Rattle.factored_core.proofs.PairLemmas.{judged_same}
use Rattle.factored_core.proofs.pairs.verdict.Goals as goal

pub returns-clause-same : goal.returns-clause-same
returns-clause-same g c = judged_same _ _ c.args.one c.args.two c.requires.there.0 c.requires.there.1 c.requires.there.2 c.on_two.result c.on_two.ensures

pub returns-clause-verdict : goal.returns-clause-verdict
returns-clause-verdict g c x y there_x there_y = (c.on_two.ensures x y there_x there_y).2.2
