-- Divisors of coefficients, units, norms, and balanced weights.
use Rattle.std.specs.Prelude.{◌≡◌, ℕ, zero, suc, ℤ, pos, negsuc, ◌+ℤ◌, ◌-ℤ◌, ◌*ℤ◌, neg_ℤ, ◌≤ℤ◌}
use Rattle.state_model.specs.Coefficient.{Coefficient, coefficient, one_coefficient, ◌⊗◌, Weight, weight}

-- u divides z
abbrev pub Divides : Coefficient → Coefficient → Type 0
Divides u z = (q : Coefficient) × (z ≡ q ⊗ u)

-- the product of two numbers x + y √2
abbrev pub weight_product : Weight → Weight → Weight
weight_product p q = record { x = p.x *ℤ q.x +ℤ pos 2 *ℤ (p.y *ℤ q.y); y = p.x *ℤ q.y +ℤ p.y *ℤ q.x }

-- the norm of x + y √2
abbrev pub weight_norm : Weight → ℤ
weight_norm p = p.x *ℤ p.x -ℤ pos 2 *ℤ (p.y *ℤ p.y)

-- the absolute norm of a coefficient
abbrev pub norm : Coefficient → ℤ
norm z = weight_norm (weight z)

-- 1 - w, whose fourth power is 2 times a unit
abbrev pub delta : Coefficient
delta = coefficient (pos 1) (neg_ℤ (pos 1)) (pos 0) (pos 0)

-- 1 + w, whose weight is that of 1 - w with the other sign before √2
abbrev pub delta_conjugate : Coefficient
delta_conjugate = coefficient (pos 1) (pos 1) (pos 0) (pos 0)

-- (1 - w) (1 + w), whose weight is 2
abbrev pub both_deltas : Coefficient
both_deltas = coefficient (pos 1) (pos 0) (neg_ℤ (pos 1)) (pos 0)

-- √2 + 1, a unit
abbrev pub unit_up : Coefficient
unit_up = coefficient (pos 1) (pos 1) (pos 0) (neg_ℤ (pos 1))

-- √2 - 1, its inverse
abbrev pub unit_down : Coefficient
unit_down = coefficient (neg_ℤ (pos 1)) (pos 1) (pos 0) (neg_ℤ (pos 1))

-- the powers of 3 + 2 √2, which is the square of √2 + 1
abbrev pub unit_weight : ℕ → Weight
unit_weight zero = record { x = pos 1; y = pos 0 }
unit_weight (suc k) = weight_product (unit_weight k) record { x = pos 3; y = pos 2 }

-- the powers of its inverse, 3 - 2 √2
abbrev pub unit_weight_down : ℕ → Weight
unit_weight_down zero = record { x = pos 1; y = pos 0 }
unit_weight_down (suc k) = weight_product (unit_weight_down k) record { x = pos 3; y = neg_ℤ (pos 2) }

-- 3 + 2 √2 to a whole power
abbrev pub unit_power : ℤ → Weight
unit_power (pos k) = unit_weight k
unit_power (negsuc k) = unit_weight_down (suc k)

-- twice the absolute value of y is at most x
pub record IsBalanced (p : Weight) : Type 0 where
  pub high : (p.y +ℤ p.y) ≤ℤ p.x
  pub low : neg_ℤ (p.y +ℤ p.y) ≤ℤ p.x

-- the powers of 1 - w
abbrev pub delta_power : ℕ → Coefficient
delta_power zero = one_coefficient
delta_power (suc n) = delta_power n ⊗ delta

-- a unit times a power of 1 - w
pub record IsDeltaPower (u : Coefficient) : Type 0 where
  pub power : ℕ
  pub factor : Coefficient
  pub is_unit : Divides factor one_coefficient
  pub value : u ≡ factor ⊗ delta_power power
