-- What the code's operations at 128 bits give, where the numbers are small.
use Rattle.std.proofs.Common.{◌≡◌, ◌<◌, ◌^◌, ℤ, ◌+ℤ◌, ◌*ℤ◌, unsigned_abs, FitsSigned, to_z, of_z, ap, ◌∙◌, arith}
use Rattle.std.proofs.lemmas.Int.{to_z-of_z, unsigned_abs-mul, fits_signed_from_abs}
use Rattle.std.proofs.lemmas.Nat.{mul-lt}
use mir.Syntax.{w128}
use Rattle.state_model.specs.Coefficient.{Coefficient, ◌⊗◌}
use Rattle.omega_ring.specs.Range.{CoordinatesBelow}
use Rattle.state_model.proofs.Ring.{same_coordinates}

pub product_size : (m n : ℤ) → unsigned_abs m < 2 ^ 61 → unsigned_abs n < 2 ^ 61 → unsigned_abs (m *ℤ n) < 2 ^ 122
product_size m n p q = rw (unsigned_abs-mul m n) (mul-lt (unsigned_abs m) (unsigned_abs n) (2 ^ 61) (2 ^ 61) p q)

pub product_back : (m n : ℤ) → FitsSigned w128 m → FitsSigned w128 n → unsigned_abs m < 2 ^ 61 → unsigned_abs n < 2 ^ 61
    → to_z w128 (of_z w128 (to_z w128 (of_z w128 m) *ℤ to_z w128 (of_z w128 n))) ≡ m *ℤ n
product_back m n f g p q =
    let h : unsigned_abs (m *ℤ n) < 2 ^ 122 = product_size m n p q in
    let fits : FitsSigned w128 (m *ℤ n) = fits_signed_from_abs w128 (m *ℤ n) (omega arith) in
    rw (to_z-of_z w128 m f, to_z-of_z w128 n g) (to_z-of_z w128 (m *ℤ n) fits)

-- the coefficient as its bits are read
abbrev pub stored : Coefficient → Coefficient
stored z = record { a = to_z w128 (of_z w128 z.a); b = to_z w128 (of_z w128 z.b); c = to_z w128 (of_z w128 z.c); d = to_z w128 (of_z w128 z.d) }

-- a number as its bits are read
abbrev pub long : ℤ → ℤ
long z = to_z w128 (of_z w128 z)

pub back_of : (z : ℤ) → unsigned_abs z < 2 ^ 127 → to_z w128 (of_z w128 z) ≡ z
back_of z h = to_z-of_z w128 z (fits_signed_from_abs w128 z h)

pub stored_is : (z : Coefficient) → CoordinatesBelow (2 ^ 61) z → stored z ≡ z
stored_is z h = same_coordinates (stored z) z (back_of z.a (omega (arith, h.a))) (back_of z.b (omega (arith, h.b))) (back_of z.c (omega (arith, h.c))) (back_of z.d (omega (arith, h.d)))

pub multiply_stored : (z u : Coefficient) → CoordinatesBelow (2 ^ 61) z → CoordinatesBelow (2 ^ 61) u → stored z ⊗ stored u ≡ z ⊗ u
multiply_stored z u h k = ap (λ (t : Coefficient). t ⊗ stored u) (stored_is z h) ∙ ap (λ (t : Coefficient). z ⊗ t) (stored_is u k)

-- a number p that is known to be k, and small
abbrev pub Named : ℤ → ℤ → Type 0
Named k p = (p ≡ k) × (unsigned_abs p < 2 ^ 122)

named_back : (k p : ℤ) → Named k p → to_z w128 (of_z w128 p) ≡ k
named_back k p h = back_of p (omega (arith, h.1)) ∙ h.0

-- the sum of four numbers that are named, and the bits that it is stored in
pub stored_total : (t p q r s k l m n : ℤ) → FitsSigned w128 t → t ≡ to_z w128 (of_z w128 p) +ℤ to_z w128 (of_z w128 q) +ℤ to_z w128 (of_z w128 r) +ℤ to_z w128 (of_z w128 s) → Named k p → Named l q → Named m r → Named n s → to_z w128 (of_z w128 t) ≡ k +ℤ l +ℤ m +ℤ n
stored_total t p q r s k l m n f e hp hq hr hs = to_z-of_z w128 t f ∙ e ∙ rw (named_back k p hp, named_back l q hq, named_back m r hr, named_back n s hs)
