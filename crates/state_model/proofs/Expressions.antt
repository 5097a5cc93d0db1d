-- Coefficients and weights whose coordinates are expressions, so that an equation between coefficients is proved by multiplying out.
--     Quad, Pair      the expressions of a coefficient's and a weight's coordinates
--     equal_quads     two coefficients with one expansion are equal
--     equal_pairs     two weights with one expansion are equal
use Rattle.std.proofs.Common.{◌≡◌, ℕ, ◌+◌, ℤ, pos, List, ◌∷◌}
use Rattle.state_model.specs.Coefficient.{Coefficient, Weight}
use Rattle.state_model.proofs.Ring.{same_coordinates}
use Rattle.state_model.proofs.Polynomial.{Term, var, number, plus, times, minus, less, value, expand, equal}

pub same_weight : (v w : Weight) → v.x ≡ w.x → v.y ≡ w.y → v ≡ w
same_weight v w p q = λ i. record { x = p i; y = q i }

pub record Quad : Type 0 where
  pub a : Term
  pub b : Term
  pub c : Term
  pub d : Term

pub record Pair : Type 0 where
  pub x : Term
  pub y : Term

abbrev pub quad : ℕ → Quad
quad i = record { a = var i; b = var (i + 1); c = var (i + 2); d = var (i + 3) }

abbrev pub pair : ℕ → Pair
pair i = record { x = var i; y = var (i + 1) }

-- a whole number
abbrev pub constant_quad : ℤ → Quad
constant_quad n = record { a = number n; b = number (pos 0); c = number (pos 0); d = number (pos 0) }

abbrev pub add_quad : Quad → Quad → Quad
add_quad z u = record { a = plus z.a u.a; b = plus z.b u.b; c = plus z.c u.c; d = plus z.d u.d }

abbrev pub sub_quad : Quad → Quad → Quad
sub_quad z u = record { a = less z.a u.a; b = less z.b u.b; c = less z.c u.c; d = less z.d u.d }

abbrev pub mul_quad : Quad → Quad → Quad
mul_quad z u = record {
  a = less (less (less (times z.a u.a) (times z.b u.d)) (times z.c u.c)) (times z.d u.b);
  b = less (less (plus (times z.a u.b) (times z.b u.a)) (times z.c u.d)) (times z.d u.c);
  c = less (plus (plus (times z.a u.c) (times z.b u.b)) (times z.c u.a)) (times z.d u.d);
  d = plus (plus (plus (times z.a u.d) (times z.b u.c)) (times z.c u.b)) (times z.d u.a);
}

abbrev pub conj_quad : Quad → Quad
conj_quad z = record { a = z.a; b = minus z.d; c = minus z.c; d = minus z.b }

abbrev pub weight_quad : Quad → Pair
weight_quad z = record {
  x = plus (plus (plus (times z.a z.a) (times z.b z.b)) (times z.c z.c)) (times z.d z.d);
  y = less (plus (plus (times z.a z.b) (times z.b z.c)) (times z.c z.d)) (times z.d z.a);
}

abbrev pub mul_pair : Pair → Pair → Pair
mul_pair v w = record { x = plus (times v.x w.x) (times (number (pos 2)) (times v.y w.y)); y = plus (times v.x w.y) (times v.y w.x) }

abbrev pub norm_pair : Pair → Term
norm_pair v = less (times v.x v.x) (times (number (pos 2)) (times v.y v.y))

abbrev pub quad_value : List ℤ → Quad → Coefficient
quad_value env z = record { a = value env z.a; b = value env z.b; c = value env z.c; d = value env z.d }

abbrev pub pair_value : List ℤ → Pair → Weight
pair_value env v = record { x = value env v.x; y = value env v.y }

pub equal_quads : (env : List ℤ) (z u : Quad) → expand z.a ≡ expand u.a → expand z.b ≡ expand u.b → expand z.c ≡ expand u.c → expand z.d ≡ expand u.d → quad_value env z ≡ quad_value env u
equal_quads env z u p q r s = same_coordinates (quad_value env z) (quad_value env u) (equal env z.a u.a p) (equal env z.b u.b q) (equal env z.c u.c r) (equal env z.d u.d s)

pub equal_pairs : (env : List ℤ) (v w : Pair) → expand v.x ≡ expand w.x → expand v.y ≡ expand w.y → pair_value env v ≡ pair_value env w
equal_pairs env v w p q = same_weight (pair_value env v) (pair_value env w) (equal env v.x w.x p) (equal env v.y w.y q)

abbrev pub coordinates : Coefficient → List ℤ → List ℤ
coordinates z env = z.a ∷ z.b ∷ z.c ∷ z.d ∷ env
