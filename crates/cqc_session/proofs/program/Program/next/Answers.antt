use Rattle.std.proofs.Common.{◌≡◌, List, [], ◌∷◌, ap, subst, ◌∙◌}
use Rattle.std.specs.Prelude.{MatchOption}
use Rattle.cqc_model.specs.declared.Command.{Command}
use Rattle.cqc_session.specs.Body.{Program}
use Rattle.cqc_session.proofs.Programs.{over_in, left_is}
use Rattle.cqc_session.proofs.program.Program.next.Goals as goal

pub next-requires : goal.next-requires
next-requires c =
    let s = c.self.inside in
    over_in s.room.items c.deref.result.now s.size s.walk c.in-Some.walk c.deref.ensures.value c.in-Some.is c.self.invariant.2

pub returns-in-Some-clause-next : goal.returns-in-Some-clause-next
returns-in-Some-clause-next c =
    let s = c.self.inside in
    let is = left_is s.room.items c.deref.result.now s.size s.walk c.in-Some.walk c.deref.ensures.value c.in-Some.is ∙ ap (λ (p : Program). p.left) c.self.view_is in
    subst (λ (l : List Command). MatchOption c.next.result (l ≡ []) (λ k. (others : List Command) × (l ≡ k ∷ others))) is c.next.ensures.next
