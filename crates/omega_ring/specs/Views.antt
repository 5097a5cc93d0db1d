-- The coefficients and weights that the types stand for.
use Rattle.std.specs.Prelude.{List, map}
use Rattle.state_model.specs.Coefficient.{Coefficient, coefficient, Weight}
use Rattle.omega_ring.specs.declared.coefficients.Omega.{Omega}
use Rattle.omega_ring.specs.declared.coefficients.Wide.{Wide}
use Rattle.omega_ring.specs.declared.weights.Weight.{Weight as Pair}

-- the coefficient in 64 bits
abbrev pub omega_value : Omega → Coefficient
omega_value z = coefficient z.a z.b z.c z.d

-- the coefficient in 128 bits
abbrev pub wide_value : Wide → Coefficient
wide_value z = coefficient z.a z.b z.c z.d

-- the number x + y √2
abbrev pub weight_value : Pair → Weight
weight_value p = record { x = p.x; y = p.y }

-- the coefficients of a list
abbrev pub omega_values : List Omega → List Coefficient
omega_values zs = map omega_value zs
