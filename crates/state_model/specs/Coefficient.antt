-- Coefficients, the ring of whole numbers with an eighth root of unity, and their weights.
use Rattle.std.specs.Prelude.{ℕ, ◌+◌, ◌*◌, Bool, false, nat_lt, ℤ, pos, negsuc, ◌+ℤ◌, ◌-ℤ◌, ◌*ℤ◌, neg_ℤ, nat_abs}
use Prim.Native.Nat.{zero, suc}

infixl 6 ◌⊕◌
infixl 6 ◌⊖◌
infixl 7 ◌⊗◌
-- a + b w + c w² + d w³, where w is the eighth root of unity: w⁴ = -1
pub record Coefficient : Type 0 where
  pub a : ℤ
  pub b : ℤ
  pub c : ℤ
  pub d : ℤ

-- the coefficient of four coordinates
abbrev pub coefficient : ℤ → ℤ → ℤ → ℤ → Coefficient
coefficient a b c d = record { a = a; b = b; c = c; d = d }

-- the coefficient of an absent row
abbrev pub zero_coefficient : Coefficient
zero_coefficient = coefficient (pos 0) (pos 0) (pos 0) (pos 0)

-- the number one
abbrev pub one_coefficient : Coefficient
one_coefficient = coefficient (pos 1) (pos 0) (pos 0) (pos 0)

-- the sum, coordinate by coordinate
abbrev pub ◌⊕◌ : Coefficient → Coefficient → Coefficient
y ⊕ z = coefficient (y.a +ℤ z.a) (y.b +ℤ z.b) (y.c +ℤ z.c) (y.d +ℤ z.d)

-- the difference, coordinate by coordinate
abbrev pub ◌⊖◌ : Coefficient → Coefficient → Coefficient
y ⊖ z = coefficient (y.a -ℤ z.a) (y.b -ℤ z.b) (y.c -ℤ z.c) (y.d -ℤ z.d)

-- the product, by w⁴ = -1
abbrev pub ◌⊗◌ : Coefficient → Coefficient → Coefficient
y ⊗ z = coefficient
    (y.a *ℤ z.a -ℤ y.b *ℤ z.d -ℤ y.c *ℤ z.c -ℤ y.d *ℤ z.b)
    (y.a *ℤ z.b +ℤ y.b *ℤ z.a -ℤ y.c *ℤ z.d -ℤ y.d *ℤ z.c)
    (y.a *ℤ z.c +ℤ y.b *ℤ z.b +ℤ y.c *ℤ z.a -ℤ y.d *ℤ z.d)
    (y.a *ℤ z.d +ℤ y.b *ℤ z.c +ℤ y.c *ℤ z.b +ℤ y.d *ℤ z.a)

-- the value times -1
abbrev pub negated : Coefficient → Coefficient
negated z = coefficient (neg_ℤ z.a) (neg_ℤ z.b) (neg_ℤ z.c) (neg_ℤ z.d)

-- the complex conjugate
abbrev pub conjugate : Coefficient → Coefficient
conjugate z = coefficient z.a (neg_ℤ z.d) (neg_ℤ z.c) (neg_ℤ z.b)

-- the value times w
abbrev pub times_root : Coefficient → Coefficient
times_root z = coefficient (neg_ℤ z.d) z.a z.b z.c

-- w to the power k
unfoldable pub root : ℕ → Coefficient
root zero = one_coefficient
root (suc k) = times_root (root k)

-- the sum of the squares of the four coordinates
unfoldable pub squares : Coefficient → ℕ
squares z = nat_abs z.a * nat_abs z.a + nat_abs z.b * nat_abs z.b + nat_abs z.c * nat_abs z.c + nat_abs z.d * nat_abs z.d

-- x + y √2
pub record Weight : Type 0 where
  pub x : ℤ
  pub y : ℤ

-- the squared absolute value of a coefficient
abbrev pub weight : Coefficient → Weight
weight z = record {
  x = z.a *ℤ z.a +ℤ z.b *ℤ z.b +ℤ z.c *ℤ z.c +ℤ z.d *ℤ z.d;
  y = z.a *ℤ z.b +ℤ z.b *ℤ z.c +ℤ z.c *ℤ z.d -ℤ z.d *ℤ z.a;
}

-- the weight 0
abbrev pub no_weight : Weight
no_weight = record { x = pos 0; y = pos 0 }

-- the sum of two weights
abbrev pub weight_sum : Weight → Weight → Weight
weight_sum p q = record { x = p.x +ℤ q.x; y = p.y +ℤ q.y }

-- n times a weight
abbrev pub scaled : ℕ → Weight → Weight
scaled n p = record { x = pos n *ℤ p.x; y = pos n *ℤ p.y }

-- the first weight less the second
abbrev pub weight_difference : Weight → Weight → Weight
weight_difference p q = record { x = p.x -ℤ q.x; y = p.y -ℤ q.y }

-- whether x + y √2 is above 0, by the signs of x and y and the squares x² and 2 y²
unfoldable pub is_positive_at : ℤ → ℤ → Bool
is_positive_at (pos a) (pos b) = nat_lt 0 (a + b)
is_positive_at (pos a) (negsuc b) = nat_lt (2 * (suc b * suc b)) (a * a)
is_positive_at (negsuc a) (pos b) = nat_lt (suc a * suc a) (2 * (b * b))
is_positive_at (negsuc a) (negsuc b) = false

-- whether a weight is above 0
unfoldable pub is_positive : Weight → Bool
is_positive p = is_positive_at p.x p.y

-- whether the first weight is less than the second
unfoldable pub is_less : Weight → Weight → Bool
is_less p q = is_positive (weight_difference q p)
