use Rattle.std.proofs.Common.{sym, ◌∙◌}
use Rattle.state_model.proofs.Booleans.{clash}
use Rattle.omega_ring.proofs.Short.{difference_is}
use Rattle.state_model.proofs.Delta.{both_even, even_both}
use Rattle.omega_ring.specs.Views.{omega_value}
use Rattle.omega_ring.proofs.coefficients.Omega.both_divide.Goals as goal

pub returns-then-is_even : goal.returns-then-is_even
returns-then-is_even c =
    let r = c.requires in
    let s = difference_is c.args.self.a c.args.self.c r.a r.c in
    let t = difference_is c.args.self.b c.args.self.d r.b r.d in (
      λ h. let e = c.is_even.ensures.0 c.if-is_even.true in let f = c.is_even-then-is_even.ensures.0 h in even_both (omega_value c.args.self) (e.0, sym s ∙ e.1) (f.0, sym t ∙ f.1),
      λ d. let e = (both_even (omega_value c.args.self) d).1 in c.is_even-then-is_even.ensures.1 (e.0, t ∙ e.1),
    )

pub returns-else-is_even : goal.returns-else-is_even
returns-else-is_even c =
    let r = c.requires in
    let s = difference_is c.args.self.a c.args.self.c r.a r.c in (
      λ h. absurd (clash (sym h ∙ c.if-is_even.false)),
      λ d. let e = (both_even (omega_value c.args.self) d).0 in c.is_even.ensures.1 (e.0, s ∙ e.1),
    )
