use Rattle.std.proofs.Common.{◌<◌, length, refl, arith}
use Rattle.factored_core.proofs.Journals.{stands_as, grown_fits, executed}
use Rattle.factored_core.proofs.WholeCore.{stands_grown}
use Rattle.factored_core.proofs.solo.Solo.execute.Goals as goal

pub invariant_of-self : goal.invariant_of-self
invariant_of-self g c =
    let s = c.self.inside in
    let kept = c.self.invariant in
    let room : length s.journal.items < s.capacity = omega arith in (
      stands_as s.core.shape _ _ _ _ c.step-entry.ensures.shape c.in-Ok.ensures.items
          (stands_grown s.core.shape s.journal.items c.step-entry.result _ _ kept.0 c.step-entry.ensures.steps),
      grown_fits s.journal.items _ c.step-entry.result s.capacity c.in-Ok.ensures.items room,
      omega (arith, kept.2, c.in-Ok.ensures.capacity),
      kept.3,
    )

pub returns-clause-step : goal.returns-clause-step
returns-clause-step g c =
    let s = c.self.inside in
    let room : length s.journal.items < s.capacity = omega arith in
    executed c.args.call.now c.step-entry.result _ _ _ _ _ _ c.self.view_is c.step-entry.ensures.call room c.step-entry.ensures.word c.step-entry.ensures.shape refl c.in-Ok.ensures.items

pub returns-clause-legal : goal.returns-clause-legal
returns-clause-legal g c =
    let s = c.self.inside in
    (stands_as s.core.shape _ _ _ _ c.step-entry.ensures.shape c.in-Ok.ensures.items
    (stands_grown s.core.shape s.journal.items c.step-entry.result _ _ c.self.invariant.0 c.step-entry.ensures.steps)).legal
