use Rattle.std.proofs.Common.{sym, ap, subst, ◌∙◌}
use Rattle.core_cells.specs.Cells.{Cells}
use Rattle.register_merge.specs.Merging.{IsVerdict}
use Rattle.register_merge.specs.declared.verdicts.Merge.{Merge}
use Rattle.factored_core.specs.Ready.{IsReady}
use Rattle.factored_core.specs.Pairs.{AreSpots}
use Rattle.factored_core.proofs.TwoActs.{spots_are, pair_at}
use Rattle.factored_core.proofs.two_qubit_gates.both.Goals as goal

pub verdict-requires-clause-ready : goal.verdict-requires-clause-ready
verdict-requires-clause-ready g c x y is_x is_y =
    pair_at _ _ _ _ c.requires.ready _ _ _ (spots_are _ _ _ _ _ _ _ c.requires.operands c.spot_of-one.ensures.same _ _ c.spot_of-one.ensures.spot c.spot_of-two.ensures.spot)
    c.if-one-two.false _ (c.spot_of-two.ensures.same ∙ c.spot_of-one.ensures.same) x y is_x is_y

pub joined-requires-clause-fits : goal.joined-requires-clause-fits
joined-requires-clause-fits g c x y is_x is_y =
    let e = c.verdict.ensures.same in record {
      pair = pair_at _ _ _ _ c.requires.ready _ _ _ (spots_are _ _ _ _ _ _ _ c.requires.operands c.spot_of-one.ensures.same _ _ c.spot_of-one.ensures.spot c.spot_of-two.ensures.spot)
          c.if-one-two.false _ (e ∙ c.spot_of-two.ensures.same ∙ c.spot_of-one.ensures.same) x y is_x is_y;
      fits = subst (λ (v : Merge). IsVerdict v x.register y.register) c.in-Fits.is
          (c.verdict.ensures.verdict x y (ap (λ (b : Cells). b.slot c.spot_of-one.result.slot) (sym e) ∙ is_x) (ap (λ (b : Cells). b.slot c.spot_of-two.result.slot) (sym e) ∙ is_y));
    }

pub apart-requires : goal.apart-requires
apart-requires g c =
    let same = c.verdict.ensures.same in
    let e = same ∙ c.spot_of-two.ensures.same ∙ c.spot_of-one.ensures.same in
    let spots = spots_are _ _ _ _ _ _ _ c.requires.operands c.spot_of-one.ensures.same _ _ c.spot_of-one.ensures.spot c.spot_of-two.ensures.spot in record {
      ready = subst (λ (b : Cells). IsReady c.args.shape.now c.args.call.now b c.args.own.now) (sym e) c.requires.ready;
      spots = (c.args.gate, subst (λ (b : Cells). AreSpots c.args.call.now b c.args.own.now c.args.gate c.spot_of-one.result c.spot_of-two.result) (sym e) spots);
      apart = c.if-one-two.false;
      big = λ x y is_x is_y. record {
        pair = pair_at _ _ _ _ c.requires.ready _ _ _ spots c.if-one-two.false _ e x y is_x is_y;
        verdict = c.verdict.result;
        is = c.verdict.ensures.verdict x y (ap (λ (b : Cells). b.slot c.spot_of-one.result.slot) (sym same) ∙ is_x) (ap (λ (b : Cells). b.slot c.spot_of-two.result.slot) (sym same) ∙ is_y);
        refuses = c.in_default.not-Fits;
      };
    }
