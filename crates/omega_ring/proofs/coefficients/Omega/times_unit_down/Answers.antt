use Rattle.std.proofs.Common.{◌∙◌, sym, arith}
use Rattle.std.proofs.lemmas.Int.{ints}
use Rattle.state_model.proofs.Delta.{⊗-unit_down}
use Rattle.omega_ring.specs.Views.{omega_value}
use Rattle.state_model.proofs.Ring.{same_coordinates}
use Rattle.omega_ring.proofs.coefficients.Omega.times_unit_down.Goals as goal

pub returns : goal.returns
returns c =
    let r = c.requires in
    same_coordinates _ _ (omega (arith, ints, r.a, r.b, r.c, r.d)) (omega (arith, ints, r.a, r.b, r.c, r.d)) (omega (arith, ints, r.a, r.b, r.c, r.d)) (omega (arith, ints, r.a, r.b, r.c, r.d))
    ∙ sym (⊗-unit_down (omega_value c.args.self))
