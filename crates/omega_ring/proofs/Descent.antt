-- The steps by which a and b √2 are compared.
use Rattle.std.proofs.Common.{◌≡◌, ℕ, ◌+◌, ◌*◌, ◌-◌, ◌≤◌, ◌<◌, Bool, true, false, not, IsTrue, IsFalse, refl, ap, arith}
use native.Mathlib.Nat.{mul-le-mul}

pub far_above : (a b : ℕ) → 0 < b → 2 * b ≤ a → 2 * (b * b) < a * a
far_above a b p h =
    let s : (2 * b) * (2 * b) ≤ a * a = mul-le-mul h h in
    let t : 0 < b * b = mul-le-mul p p in
    omega arith

up_step : (p q : ℕ) → p * p < 2 * (q * q) → 2 * ((p + q) * (p + q)) < (p + 2 * q) * (p + 2 * q)
up_step p q h = omega arith

down_step : (p q : ℕ) → 2 * (q * q) < p * p → (p + 2 * q) * (p + 2 * q) < 2 * ((p + q) * (p + q))
down_step p q h = omega arith

pub step_above : (a b : ℕ) → b < a → a < 2 * b → (2 * b - a) * (2 * b - a) < 2 * ((a - b) * (a - b)) → 2 * (b * b) < a * a
step_above a b h k l =
    let e : (2 * b - a) + (a - b) ≡ b = omega arith in
    let f : (2 * b - a) + 2 * (a - b) ≡ a = omega arith in
    let r : 2 * (((2 * b - a) + (a - b)) * ((2 * b - a) + (a - b))) < ((2 * b - a) + 2 * (a - b)) * ((2 * b - a) + 2 * (a - b)) = up_step (2 * b - a) (a - b) l in
    omega (arith, r, ap (λ (x : ℕ). x * x) e, ap (λ (x : ℕ). x * x) f)

pub step_below : (a b : ℕ) → b < a → a < 2 * b → 2 * ((a - b) * (a - b)) < (2 * b - a) * (2 * b - a) → a * a < 2 * (b * b)
step_below a b h k l =
    let e : (2 * b - a) + (a - b) ≡ b = omega arith in
    let f : (2 * b - a) + 2 * (a - b) ≡ a = omega arith in
    let r : ((2 * b - a) + 2 * (a - b)) * ((2 * b - a) + 2 * (a - b)) < 2 * (((2 * b - a) + (a - b)) * ((2 * b - a) + (a - b))) = down_step (2 * b - a) (a - b) l in
    omega (arith, r, ap (λ (x : ℕ). x * x) e, ap (λ (x : ℕ). x * x) f)

pub not_true : (b : Bool) → IsTrue (not b) → IsFalse b
not_true true e = cc
not_true false e = refl

pub not_false : (b : Bool) → IsFalse (not b) → IsTrue b
not_false true e = refl
not_false false e = cc
