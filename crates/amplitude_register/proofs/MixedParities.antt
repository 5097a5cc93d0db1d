-- Parities of several numbers in one, and what they say of coefficients.
use Prim.Native.Nat.{zero, suc}
use Rattle.std.proofs.Common.{◌≡◌, ℕ, ◌+◌, ◌/◌, ◌%◌, ◌<◌, ◌^◌, bit_or, max, ℤ, pos, negsuc, ◌+ℤ◌, ◌-ℤ◌, neg_ℤ, unsigned_abs, FitsSigned, to_z, of_z, ◌↔◌, Bool, true, false, IsTrue, sym, ap, subst, ◌∙◌, arith}
use Rattle.std.proofs.lemmas.Int.{ints, to_z-of_z, of_z-to_z}
use Rattle.std.proofs.lemmas.Nat.{or_lt}
use Rattle.std.proofs.lemmas.Nat.Bits.{bit_at_or, bit_at_lowest}
use Rattle.std.specs.Int.{bit_at}
use mir.Syntax.{w64}
use Rattle.state_model.specs.Quotients.{IsEven}
use Rattle.state_model.proofs.Inequalities.{order}
use Rattle.state_model.specs.Coefficient.{Coefficient}
use Rattle.state_model.proofs.Booleans.{clash}
use Rattle.omega_ring.proofs.Short.{short}
use Rattle.amplitude_register.specs.Mixed.{HasEvenTurns}

-- ---- the lowest bit of a number as it is stored
even_stored : (m : ℤ) → FitsSigned w64 m → of_z w64 m % 2 ≡ 0 → IsEven m
even_stored (pos n) h e = (pos (n / 2), ap pos (omega arith))
even_stored (negsuc n) h e =
    let l = h.sfits in
    let g : suc n / 2 + suc n / 2 ≡ suc n = omega (arith, l, e) in
    (neg_ℤ (pos (suc n / 2)), sym (ap (λ (k : ℕ). neg_ℤ (pos k)) g) ∙ twice (suc n / 2))
  where
    twice : (k : ℕ) → neg_ℤ (pos (k + k)) ≡ neg_ℤ (pos k) +ℤ neg_ℤ (pos k)
    twice k = omega (arith, order)

stored_even : (m : ℤ) → FitsSigned w64 m → IsEven m → of_z w64 m % 2 ≡ 0
stored_even m h (pos k, e) = ap (λ (t : ℤ). of_z w64 t % 2) e ∙ omega arith
stored_even m h (negsuc k, e) = ap (λ (t : ℤ). of_z w64 t % 2) e ∙ omega arith

stored_below : (m : ℤ) → FitsSigned w64 m → of_z w64 m < 2 ^ 64
stored_below (pos n) h = let l = h.sfits in omega (arith, l)
stored_below (negsuc n) h = omega arith

-- ---- two numbers in one
lowest_or : (a b : ℕ) → bit_or a b % 2 ≡ max (a % 2) (b % 2)
lowest_or a b = sym (bit_at_lowest (bit_or a b)) ∙ bit_at_or a b 0 ∙ ap (λ (t : ℕ). max t (bit_at b 0)) (bit_at_lowest a) ∙ ap (λ (t : ℕ). max (a % 2) t) (bit_at_lowest b)

pub joined_even : (m n : ℤ) → FitsSigned w64 m → FitsSigned w64 n → FitsSigned w64 (to_z w64 (bit_or (of_z w64 m) (of_z w64 n))) → IsEven (to_z w64 (bit_or (of_z w64 m) (of_z w64 n))) ↔ (IsEven m × IsEven n)
joined_even m n h k l = (
  λ e. let f = sym lowest ∙ stored_even _ l e in (even_stored m h (left (of_z w64 m % 2) (of_z w64 n % 2) f), even_stored n k (right (of_z w64 m % 2) (of_z w64 n % 2) f)),
  λ (e, f). even_stored _ l (lowest ∙ neither (of_z w64 m % 2) (of_z w64 n % 2) (stored_even m h e) (stored_even n k f)),
)
  where
    back : of_z w64 (to_z w64 (bit_or (of_z w64 m) (of_z w64 n))) ≡ bit_or (of_z w64 m) (of_z w64 n)
    back = of_z-to_z w64 (bit_or (of_z w64 m) (of_z w64 n)) (or_lt 64 (of_z w64 m) (of_z w64 n) (stored_below m h) (stored_below n k))

    lowest : of_z w64 (to_z w64 (bit_or (of_z w64 m) (of_z w64 n))) % 2 ≡ max (of_z w64 m % 2) (of_z w64 n % 2)
    lowest = ap (λ (t : ℕ). t % 2) back ∙ lowest_or (of_z w64 m) (of_z w64 n)

    neither : (a b : ℕ) → a ≡ 0 → b ≡ 0 → max a b ≡ 0
    neither a b e f = omega arith

    left : (a b : ℕ) → max a b ≡ 0 → a ≡ 0
    left a b e = omega arith

    right : (a b : ℕ) → max a b ≡ 0 → b ≡ 0
    right a b e = omega arith

-- ---- parities as the code has them
-- p and q are m and n, as their bits are read, and so is s the number that joins them
pub joined_short : (r s p q m n : ℤ) → s ≡ r → p ≡ m → q ≡ n → (IsEven r ↔ (IsEven p × IsEven q)) → IsEven s ↔ (IsEven m × IsEven n)
joined_short r s p q m n d e f h = (
  λ k. let t = h.0 (subst IsEven d k) in (subst IsEven e (t.0), subst IsEven f (t.1)),
  λ (k, l). subst IsEven (sym d) (h.1 (subst IsEven (sym e) k, subst IsEven (sym f) l)),
)

pub joined_turns : (t r m : ℤ) (z : Coefficient) → (IsEven r ↔ (IsEven m × IsEven (z.a -ℤ z.c))) → (IsEven t ↔ (IsEven r × IsEven (z.b -ℤ z.d))) → IsEven t ↔ (IsEven m × HasEvenTurns z)
joined_turns t r m z h k = (
  λ e. let f = k.0 e in let g = h.0 (f.0) in (g.0, record { first = g.1; second = f.1 }),
  λ (e, f). k.1 (h.1 (e, f.first), f.second),
)

pub below_short : (z : ℤ) → unsigned_abs z < 2 ^ 61 → unsigned_abs z < 2 ^ 63
below_short z h = omega arith

-- the test for an even number
pub even_by : (m : ℤ) (b : Bool) → FitsSigned w64 m → (IsTrue b ↔ IsEven (short m)) → b ≡ true → IsEven m
even_by m b f h e = subst IsEven (to_z-of_z w64 m f) (h.0 e)

pub odd_by : (m : ℤ) (b : Bool) → FitsSigned w64 m → (IsTrue b ↔ IsEven (short m)) → b ≡ false → IsEven m → ⊥
odd_by m b f h e k = clash (sym (h.1 (subst IsEven (sym (to_z-of_z w64 m f)) k)) ∙ e)
