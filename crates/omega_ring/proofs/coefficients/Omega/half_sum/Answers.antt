use Rattle.std.proofs.Common.{rules, ◌≡◌, ◌+ℤ◌, ℤ, ◌∙◌, sym, ap, FitsSigned}
use Rattle.std.proofs.lemmas.Int.{to_z-of_z}
use mir.Syntax.{w64}
use Rattle.omega_ring.proofs.Short.{sum_is, short}
use Rattle.omega_ring.specs.Views.{omega_value}
use Rattle.state_model.proofs.Delta.{even_from_divides}
use Rattle.omega_ring.proofs.coefficients.Omega.half_sum.Goals as goal

pub half_of-requires : goal.half_of-requires
half_of-requires c = let e = even_from_divides (omega_value c.args.self) c.requires.divides in let r = c.requires.range in (e.0, sum_is c.args.self.a c.args.self.b c.args.self.c c.args.self.d r.a r.b r.c r.d ∙ e.1)

pub returns : goal.returns
returns c =
    let r = c.requires.range in
    let fits : FitsSigned w64 c.half_of.result = search rules in
    let e : c.half_of.result ≡ short c.half_of.result = sym (to_z-of_z w64 c.half_of.result fits) in
    sym (sum_is c.args.self.a c.args.self.b c.args.self.c c.args.self.d r.a r.b r.c r.d) ∙ c.half_of.ensures ∙ ap (λ (t : ℤ). t +ℤ t) e
