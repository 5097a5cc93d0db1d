use Rattle.factored_core.specs.Pairs.{IsTwoGated}
use Rattle.factored_core.proofs.Changed.{prepares}
use Rattle.factored_core.proofs.PairLemmas.{kept_rows}
use Rattle.factored_core.proofs.pairs.gate.Goals as goal

pub returns : goal.returns
returns g c = prepares _ _ _ _ _ (IsTwoGated c.args.gate c.args.p c.args.q) c.slot.ensures.value (g.met.B.Board.are_put.slot _ _ _ c.requires.there) _ c.prepare_two.ensures.after
    (record { applied = c.prepare_two.ensures; rows = kept_rows c.slot.result.now.register _ _ c.prepare_two.ensures.after c.facts.ensures.next })
