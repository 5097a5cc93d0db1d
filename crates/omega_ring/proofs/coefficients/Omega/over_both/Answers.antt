use Rattle.std.proofs.Common.{sym, ◌∙◌}
use Rattle.omega_ring.proofs.Short.{difference_is, over_both_is}
use Rattle.state_model.proofs.Delta.{both_even}
use Rattle.omega_ring.specs.Views.{omega_value}
use Rattle.omega_ring.proofs.coefficients.Omega.over_both.Goals as goal

pub half_of-a-requires : goal.half_of-a-requires
half_of-a-requires c = let e = (both_even (omega_value c.args.self) c.requires.divides).0 in let r = c.requires.range in (e.0, difference_is c.args.self.a c.args.self.c r.a r.c ∙ e.1)

pub half_of-b-requires : goal.half_of-b-requires
half_of-b-requires c = let e = (both_even (omega_value c.args.self) c.requires.divides).1 in let r = c.requires.range in (e.0, difference_is c.args.self.b c.args.self.d r.b r.d ∙ e.1)

pub returns : goal.returns
returns c =
    let r = c.requires.range in
    over_both_is (omega_value c.args.self) c.half_of-a.result c.half_of-b.result c.requires.range
    (sym (difference_is c.args.self.a c.args.self.c r.a r.c) ∙ c.half_of-a.ensures)
    (sym (difference_is c.args.self.b c.args.self.d r.b r.d) ∙ c.half_of-b.ensures)
