use Rattle.std.proofs.Common.{arith, ◌∙◌}
use Rattle.std.proofs.lemmas.Int.{ints}
use Rattle.omega_ring.specs.Views.{omega_value}
use Rattle.state_model.proofs.Ring.{same_coordinates}
use Rattle.state_model.proofs.Roots.{at_power, root_0, root_1, root_2, root_3, root_4, root_5, root_6, root_7}
use Rattle.omega_ring.proofs.coefficients.Omega.times_root.Goals as goal

pub returns-in-0 : goal.returns-in-0
returns-in-0 c = at_power (omega_value c.args.self) _ c.args.k 0 (omega arith) (c.omega.ensures ∙ same_coordinates _ _ (omega (arith, ints)) (omega (arith, ints)) (omega (arith, ints)) (omega (arith, ints)) ∙ root_0 (omega_value c.args.self))

pub returns-in-1 : goal.returns-in-1
returns-in-1 c = at_power (omega_value c.args.self) _ c.args.k 1 (omega arith) (c.omega-in-1.ensures ∙ same_coordinates _ _ (omega (arith, ints)) (omega (arith, ints)) (omega (arith, ints)) (omega (arith, ints)) ∙ root_1 (omega_value c.args.self))

pub returns-in-2 : goal.returns-in-2
returns-in-2 c = at_power (omega_value c.args.self) _ c.args.k 2 (omega arith) (c.omega-in-2.ensures ∙ same_coordinates _ _ (omega (arith, ints)) (omega (arith, ints)) (omega (arith, ints)) (omega (arith, ints)) ∙ root_2 (omega_value c.args.self))

pub returns-in-3 : goal.returns-in-3
returns-in-3 c = at_power (omega_value c.args.self) _ c.args.k 3 (omega arith) (c.omega-in-3.ensures ∙ same_coordinates _ _ (omega (arith, ints)) (omega (arith, ints)) (omega (arith, ints)) (omega (arith, ints)) ∙ root_3 (omega_value c.args.self))

pub returns-in-4 : goal.returns-in-4
returns-in-4 c = at_power (omega_value c.args.self) _ c.args.k 4 (omega arith) (c.omega-in-4.ensures ∙ same_coordinates _ _ (omega (arith, ints)) (omega (arith, ints)) (omega (arith, ints)) (omega (arith, ints)) ∙ root_4 (omega_value c.args.self))

pub returns-in-5 : goal.returns-in-5
returns-in-5 c = at_power (omega_value c.args.self) _ c.args.k 5 (omega arith) (c.omega-in-5.ensures ∙ same_coordinates _ _ (omega (arith, ints)) (omega (arith, ints)) (omega (arith, ints)) (omega (arith, ints)) ∙ root_5 (omega_value c.args.self))

pub returns-in-6 : goal.returns-in-6
returns-in-6 c = at_power (omega_value c.args.self) _ c.args.k 6 (omega arith) (c.omega-in-6.ensures ∙ same_coordinates _ _ (omega (arith, ints)) (omega (arith, ints)) (omega (arith, ints)) (omega (arith, ints)) ∙ root_6 (omega_value c.args.self))

pub returns-in_default : goal.returns-in_default
returns-in_default c = at_power (omega_value c.args.self) _ c.args.k 7 (omega arith) (c.omega-in_default.ensures ∙ same_coordinates _ _ (omega (arith, ints)) (omega (arith, ints)) (omega (arith, ints)) (omega (arith, ints)) ∙ root_7 (omega_value c.args.self))
