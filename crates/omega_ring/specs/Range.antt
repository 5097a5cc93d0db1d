-- How large coordinates and the parts of weights may be.
use Rattle.std.specs.Prelude.{ℕ, ◌<◌, ◌≤◌, unsigned_abs, FitsSigned}
use Rattle.std.specs.Int.{w64}
use Rattle.state_model.specs.Coefficient.{Coefficient, Weight}

-- all coordinates lie strictly between -n and n
pub record CoordinatesBelow (n : ℕ) (z : Coefficient) : Type 0 where
  pub a : unsigned_abs z.a < n
  pub b : unsigned_abs z.b < n
  pub c : unsigned_abs z.c < n
  pub d : unsigned_abs z.d < n

-- all coordinates lie between -n and n
pub record CoordinatesUpTo (n : ℕ) (z : Coefficient) : Type 0 where
  pub a : unsigned_abs z.a ≤ n
  pub b : unsigned_abs z.b ≤ n
  pub c : unsigned_abs z.c ≤ n
  pub d : unsigned_abs z.d ≤ n

-- all coordinates fit an i64
pub record FitsOmega (z : Coefficient) : Type 0 where
  pub a : FitsSigned w64 z.a
  pub b : FitsSigned w64 z.b
  pub c : FitsSigned w64 z.c
  pub d : FitsSigned w64 z.d

-- both parts of a weight lie strictly between -n and n
pub record PartsBelow (n : ℕ) (p : Weight) : Type 0 where
  pub x : unsigned_abs p.x < n
  pub y : unsigned_abs p.y < n
