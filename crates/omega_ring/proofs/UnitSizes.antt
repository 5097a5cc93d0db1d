-- How large coordinates and weights are while a coefficient is balanced.
use Rattle.std.proofs.Common.{◌≡◌, ℕ, ◌*◌, ◌≤◌, ◌<◌, ◌^◌, ℤ, pos, ◌+ℤ◌, ◌*ℤ◌, neg_ℤ, ◌≤ℤ◌, ◌<ℤ◌, unsigned_abs, IsTrue, ◌↔◌, Bool, false, sym, ap, subst, ◌∙◌, arith, ⊎_elim}
use Rattle.std.proofs.lemmas.Bool.{cases_lt}
use Rattle.std.proofs.lemmas.Int.{by_lt_z, ints}
use Rattle.state_model.proofs.Booleans.{clash}
use native.Mathlib.Nat.{mul-le-mul}
use Rattle.state_model.specs.Coefficient.{Coefficient, ◌⊗◌, Weight, weight}
use Rattle.state_model.specs.Divisors.{IsBalanced, unit_up, unit_down}
use Rattle.omega_ring.specs.Range.{CoordinatesBelow, PartsBelow}
use Rattle.state_model.proofs.Domain.{square_abs}
use Rattle.state_model.proofs.Inequalities.{order, square_not_negative}
use Rattle.state_model.proofs.Units.{IsStep, step_down, step_up, x_not_negative, y_at_most}

-- ---- sizes
pub root_of : (n k : ℕ) → n * n < k * k → n < k
root_of n k h = ⊎_elim (λ p. p) (λ p. let q : k * k ≤ n * n = mul-le-mul p p in absurd (omega arith)) (cases_lt n k)

pub root_bound : (x : ℤ) (k : ℕ) → (x *ℤ x) <ℤ pos (k * k) → unsigned_abs x < k
root_bound x k h = let e = square_abs x in root_of (unsigned_abs x) k (omega (arith, order))

-- coordinates whose squares sum up to less than k^2 are below k
pub coordinates_below : (k : ℕ) (z : Coefficient) → (weight z).x <ℤ pos (k * k) → CoordinatesBelow k z
coordinates_below k z h =
    let p = square_not_negative z.a in let q = square_not_negative z.b in let r = square_not_negative z.c in let s = square_not_negative z.d in
    record { a = root_bound z.a k (omega (arith, order)); b = root_bound z.b k (omega (arith, order)); c = root_bound z.c k (omega (arith, order)); d = root_bound z.d k (omega (arith, order)) }

pub within : (z : Coefficient) → (weight z).x <ℤ pos (2 ^ 64) → CoordinatesBelow (2 ^ 61) z
within z h = coordinates_below (2 ^ 61) z (wider (weight z).x h)
  where
    wider : (x : ℤ) → x <ℤ pos (2 ^ 64) → x <ℤ pos (2 ^ 61 * 2 ^ 61)
    wider x h = omega (arith, order)

-- the weight that the code computed
pub small_weight : (z : Coefficient) (w : Weight) → w ≡ weight z → (weight z).x <ℤ pos (2 ^ 64) → PartsBelow (2 ^ 122) w
small_weight z w e h =
    let p = x_not_negative z in
    let q = y_at_most z in
    let fx : w.x ≡ (weight z).x = ap (λ (v : Weight). v.x) e in
    let fy : w.y ≡ (weight z).y = ap (λ (v : Weight). v.y) e in
    record { x = bound w.x w.x (rw fx p) (rw fx h) (rw fx (at_least (weight z).x p)) (rw fx (not_more (weight z).x p)); y = bound w.x w.y (rw fx p) (rw fx h) (rw (fx, fy) (q.0)) (rw (fx, fy) (q.1)) }
  where
    bound : (x y : ℤ) → pos 0 ≤ℤ x → x <ℤ pos (2 ^ 64) → y ≤ℤ x → neg_ℤ y ≤ℤ x → unsigned_abs y < 2 ^ 122
    bound x y h k l m = omega (arith, ints)

    at_least : (x : ℤ) → pos 0 ≤ℤ x → x ≤ℤ x
    at_least x h = omega (arith, order)

    not_more : (x : ℤ) → pos 0 ≤ℤ x → neg_ℤ x ≤ℤ x
    not_more x h = omega (arith, order)

pub shrunk : (z r : Coefficient) → IsStep z r → (weight z).x <ℤ pos (2 ^ 64) → (weight r).x <ℤ pos (2 ^ 64)
shrunk z r k h = let l = k.smaller in omega (arith, order)

-- ---- steps, as the code tells by the weight w
pub high_step : (z r : Coefficient) (w : Weight) → w ≡ weight z → w.x <ℤ (w.y +ℤ w.y) → r ≡ z ⊗ unit_down → IsStep z r
high_step z r w e l f = step_down z r f (subst (λ (v : Weight). v.x <ℤ (v.y +ℤ v.y)) e l)

pub low_step : (z r : Coefficient) (w : Weight) → w ≡ weight z → (w.x +ℤ w.y +ℤ w.y) <ℤ pos 0 → r ≡ z ⊗ unit_up → IsStep z r
low_step z r w e l f = step_up z r f (subst (λ (v : Weight). v.x <ℤ neg_ℤ (v.y +ℤ v.y)) e (omega (arith, order)))

pub neither_step : (w : Weight) (high low : Bool) → (IsTrue high ↔ (w.x <ℤ (w.y +ℤ w.y))) → (IsTrue low ↔ ((w.x +ℤ w.y +ℤ w.y) <ℤ pos 0)) → high ≡ false → low ≡ false → IsBalanced w
neither_step w high low h l e f = record { high = by_lt_z w.x (w.y +ℤ w.y) (λ p. absurd (clash (sym (h.1 p) ∙ e))) (λ p. p); low = turn w.x w.y (by_lt_z (w.x +ℤ w.y +ℤ w.y) (pos 0) (λ p. absurd (clash (sym (l.1 p) ∙ f))) (λ p. p)) }
  where
    turn : (x y : ℤ) → pos 0 ≤ℤ (x +ℤ y +ℤ y) → neg_ℤ (y +ℤ y) ≤ℤ x
    turn x y h = omega (arith, order)
