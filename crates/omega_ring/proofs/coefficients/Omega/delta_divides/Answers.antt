use Rattle.std.proofs.Common.{sym, ◌∙◌}
use Rattle.state_model.proofs.Delta.{even_from_divides, divides_from_even}
use Rattle.omega_ring.proofs.Short.{sum_is}
use Rattle.omega_ring.specs.Views.{omega_value}
use Rattle.omega_ring.proofs.coefficients.Omega.delta_divides.Goals as goal

pub returns : goal.returns
returns c =
    let r = c.requires in
    let s = sum_is c.args.self.a c.args.self.b c.args.self.c c.args.self.d r.a r.b r.c r.d in (
      λ t. let e = c.is_even.ensures.0 t in divides_from_even (omega_value c.args.self) (e.0, sym s ∙ e.1),
      λ d. let e = even_from_divides (omega_value c.args.self) d in c.is_even.ensures.1 (e.0, s ∙ e.1),
    )
