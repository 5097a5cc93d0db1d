use Rattle.std.proofs.Common.{rules, FitsSigned, sym, ap, ◌∙◌, ◌≡◌}
use Rattle.std.proofs.lemmas.Int.{to_z-of_z}
use mir.Syntax.{w128}
use Rattle.state_model.specs.Coefficient.{conjugate}
use Rattle.omega_ring.specs.Steps.{inner, turn_back}
use Rattle.omega_ring.specs.Views.{wide_value}
use Rattle.state_model.proofs.Ring.{same_coordinates}
use Rattle.omega_ring.proofs.Sizes.{rows, ⊗-rows}
use Rattle.omega_ring.proofs.coefficients.Wide.product.Goals as goal

pub returns : goal.returns
returns c =
    let z = wide_value c.args.self in
    let v = wide_value c.args.v in
    let f1 : FitsSigned w128 c.dot.result = search rules in
    let f2 : FitsSigned w128 c.dot-2.result = search rules in
    let f3 : FitsSigned w128 c.dot-3.result = search rules in
    let f4 : FitsSigned w128 c.dot-4.result = search rules in
    let t1 : wide_value c.turn-one.result ≡ turn_back v = c.turn-one.ensures in
    let t2 : wide_value c.turn-two.result ≡ turn_back (turn_back v) = c.turn-two.ensures ∙ ap turn_back t1 in
    let t3 : wide_value c.turn-three.result ≡ turn_back (turn_back (turn_back v)) = c.turn-three.ensures ∙ ap turn_back t2 in
    same_coordinates _ (rows z v)
    (to_z-of_z w128 c.dot.result f1 ∙ c.dot.ensures ∙ ap (inner z) c.conj.ensures)
    (to_z-of_z w128 c.dot-2.result f2 ∙ c.dot-2.ensures ∙ ap (inner z) (c.conj-2.ensures ∙ ap conjugate t1))
    (to_z-of_z w128 c.dot-3.result f3 ∙ c.dot-3.ensures ∙ ap (inner z) (c.conj-3.ensures ∙ ap conjugate t2))
    (to_z-of_z w128 c.dot-4.result f4 ∙ c.dot-4.ensures ∙ ap (inner z) (c.conj-4.ensures ∙ ap conjugate t3))
    ∙ sym (⊗-rows z v)
