use Rattle.std.proofs.Common.{rules, suc, ◌≤◌, length, refl, ap, subst, ◌∙◌}
use Rattle.std.specs.Prelude.{IsSome}
use Rattle.factored_core.specs.Core.{Journal}
use Rattle.cqc_server.proofs.Turning.{begins, once_more, to_its_end, takes_at}
use Rattle.cqc_server.proofs.actor.Actor.go_on.Goals as goal

pub loop-self-init : goal.loop-self-init
loop-self-init g c = (
  (0, begins g.W.Dice.word c.args.solo.now.shape c.args.solo.now.capacity c.args.solo.now.entries _),
  refl,
  refl,
  g.met.L.Link.leads_nowhere _,
)

pub loop-self-preserved : goal.loop-self-preserved
loop-self-preserved g c =
    let kept = c.loop-self.invariant in
    let turn = c.take_turn.ensures in (
      (
        suc kept.0.0,
        once_more g.W.Dice.word c.args.solo.now.shape c.args.solo.now.capacity kept.0.0 c.args.solo.now.entries c.loop-self.solo.entries c.take_turn.new.solo.entries _ _ _ kept.0.1
            (takes_at g.W.Dice.word _ c.args.solo.now c.loop-self.solo _ _ _ kept.1 turn.turn),
      ),
      turn.core ∙ ap (λ (j : Journal). record j { entries = c.take_turn.new.solo.entries }) kept.1,
      turn.connection ∙ kept.2,
      g.met.L.Link.leads_on _ _ _ kept.3 turn.led,
    )

pub returns-clause-turns : goal.returns-clause-turns
returns-clause-turns g c =
    let kept = c.loop-self.invariant in
    let some : IsSome c.loop-self.self.ending = search rules in
    to_its_end g.W.Dice.word c.args.solo.now.shape c.args.solo.now.capacity kept.0.0 c.args.solo.now.entries c.loop-self.solo.entries _ _ some
    (subst (λ (j : Journal). length c.loop-self.solo.entries ≤ j.capacity) kept.1 c.entries-entries.ensures.few) kept.0.1
