-- The low bit of a word: it tells whether a number is even; xor adds it, and or is even where both are.
--     parity_read     a number is even exactly where its word is
--     parity_bits     the xor of four words is even exactly where the sum of the numbers is
--     or_even, or_odd     an or over a list of words
use Rattle.std.proofs.Common.{◌≡◌, ℕ, suc, zero, ◌+◌, ◌/◌, ◌%◌, ◌<◌, ◌^◌, max, ℤ, pos, negsuc, ◌+ℤ◌, neg_ℤ, unsigned_abs, IsTrue, ◌↔◌, Bool, nat_eq, true, false, not, of_z, FitsSigned, List, [], ◌∷◌, length, get_or, bit_and, bit_or, bit_xor, refl, sym, ap, ◌∙◌, arith}
use Rattle.std.specs.Int.Bits.{xor_add_and}
use Rattle.std.specs.Int.{w64}
use Rattle.std.specs.Simd.Lanes.{fold_l}
use Rattle.std.proofs.lemmas.Nat.{and_mask}
use Rattle.std.proofs.lemmas.Nat.Bits.{bit_at_or, bit_at_lowest}
use Rattle.std.proofs.lemmas.Int.{ints}
use Rattle.std.proofs.lemmas.Bool.{eqb-true}
use Rattle.state_model.specs.Quotients.{IsEven}
use Rattle.state_model.proofs.Inequalities.{order}

-- ---- numbers
even_abs : (z : ℤ) → unsigned_abs z % 2 ≡ 0 → IsEven z
even_abs (pos n) e = (pos (n / 2), ap pos (omega arith))
even_abs (negsuc n) e =
    let h : suc n / 2 + suc n / 2 ≡ suc n = omega arith in
    (neg_ℤ (pos (suc n / 2)), sym (ap (λ (k : ℕ). neg_ℤ (pos k)) h) ∙ twice (suc n / 2))
  where
    twice : (k : ℕ) → neg_ℤ (pos (k + k)) ≡ neg_ℤ (pos k) +ℤ neg_ℤ (pos k)
    twice k = omega (arith, order)

abs_even : (k : ℤ) → unsigned_abs (k +ℤ k) % 2 ≡ 0
abs_even (pos n) = omega arith
abs_even (negsuc n) = let e : suc (suc (n + n)) % 2 ≡ 0 = omega arith in e

pub parity_abs : (z : ℤ) → (unsigned_abs z % 2 ≡ 0) ↔ IsEven z
parity_abs z = (even_abs z, λ (k, e). ap (λ (x : ℤ). unsigned_abs x % 2) e ∙ abs_even k)

abs_sum : (x y : ℤ) → unsigned_abs (x +ℤ y) % 2 ≡ (unsigned_abs x + unsigned_abs y) % 2
abs_sum x y = omega (arith, ints)

-- ---- words
word_abs : (z : ℤ) → FitsSigned w64 z → of_z w64 z % 2 ≡ unsigned_abs z % 2
word_abs (pos n) f = refl
word_abs (negsuc n) f = let h : suc n < 2 ^ 64 = omega (arith, ints, f) in omega arith

pub parity_read : (z : ℤ) → FitsSigned w64 z → (of_z w64 z % 2 ≡ 0) ↔ IsEven z
parity_read z f = (λ e. even_abs z (sym (word_abs z f) ∙ e), λ e. word_abs z f ∙ (parity_abs z).1 e)

pub parity_xor : (m n : ℕ) → bit_xor m n % 2 ≡ (m + n) % 2
parity_xor m n = omega (arith, xor_add_and m n)

pub parity_or : (m n : ℕ) → bit_or m n % 2 ≡ max (m % 2) (n % 2)
parity_or m n = omega (arith, bit_at_or m n 0, bit_at_lowest (bit_or m n), bit_at_lowest m, bit_at_lowest n)

pub parity_low : (n : ℕ) → bit_and n 1 ≡ n % 2
parity_low n = and_mask n 1

pub parity_bits : (p q r s : ℤ) → FitsSigned w64 p → FitsSigned w64 q → FitsSigned w64 r → FitsSigned w64 s
    → (bit_xor (bit_xor (bit_xor (of_z w64 p) (of_z w64 q)) (of_z w64 r)) (of_z w64 s) % 2 ≡ 0) ↔ IsEven (p +ℤ q +ℤ r +ℤ s)
parity_bits p q r s f g h k =
    let e : bit_xor (bit_xor (bit_xor (of_z w64 p) (of_z w64 q)) (of_z w64 r)) (of_z w64 s) % 2 ≡ unsigned_abs (p +ℤ q +ℤ r +ℤ s) % 2 =
    omega (
      arith,
      parity_xor (of_z w64 p) (of_z w64 q),
      parity_xor (bit_xor (of_z w64 p) (of_z w64 q)) (of_z w64 r),
      parity_xor (bit_xor (bit_xor (of_z w64 p) (of_z w64 q)) (of_z w64 r)) (of_z w64 s),
      word_abs p f,
      word_abs q g,
      word_abs r h,
      word_abs s k,
      abs_sum p q,
      abs_sum (p +ℤ q) r,
      abs_sum (p +ℤ q +ℤ r) s,
    ) in
    (λ z. even_abs (p +ℤ q +ℤ r +ℤ s) (sym e ∙ z), λ z. e ∙ (parity_abs (p +ℤ q +ℤ r +ℤ s)).1 z)

-- ---- the test of the low bit
pub parity_test : {P : Type 0} (n : ℕ) → ((n % 2 ≡ 0) ↔ P) → IsTrue (not (nat_eq (bit_and n 1) 0)) ↔ (¬ P)
parity_test n h = (λ t p. set (nat_eq (bit_and n 1) 0) t (zero_test (bit_and n 1) (parity_low n ∙ h.1 p)), λ odd. unset (bit_and n 1) (λ e. odd (h.0 (sym (parity_low n) ∙ e))))
  where
    set : (b : Bool) → IsTrue (not b) → b ≡ true → ⊥
    set true t e = cc
    set false t e = cc

    zero_test : (m : ℕ) → m ≡ 0 → nat_eq m 0 ≡ true
    zero_test m e = ap (λ (k : ℕ). nat_eq k 0) e

    by : (b : Bool) → ¬ (b ≡ true) → IsTrue (not b)
    by true some = absurd (some refl)
    by false some = refl

    unset : (m : ℕ) → ¬ (m ≡ 0) → IsTrue (not (nat_eq m 0))
    unset m some = by (nat_eq m 0) (λ e. some (eqb-true m 0 e))

-- ---- lists of words
pub or_even : (m : ℕ) (ms : List ℕ) → fold_l bit_or m ms % 2 ≡ 0 → (m % 2 ≡ 0) × ((k : ℕ) → k < length ms → get_or ms k 0 % 2 ≡ 0)
or_even m [] e = (e, λ k h. absurd (omega arith))
or_even m (n ∷ ms) e =
    let r = or_even (bit_or m n) ms e in
    (omega (arith, r.0, parity_or m n), place (omega (arith, r.0, parity_or m n)) r.1)
  where
    place : n % 2 ≡ 0 → ((k : ℕ) → k < length ms → get_or ms k 0 % 2 ≡ 0) → (k : ℕ) → k < suc (length ms) → get_or (n ∷ ms) k 0 % 2 ≡ 0
    place z r zero h = z
    place z r (suc k) h = r k (omega arith)

-- a place that is odd, where the or is
pub record OddWord (ms : List ℕ) : Type 0 where
  pub place : ℕ
  pub within : place < length ms
  pub odd : ¬ (get_or ms place 0 % 2 ≡ 0)

pub or_odd : (m : ℕ) (ms : List ℕ) → m % 2 ≡ 0 → ¬ (fold_l bit_or m ms % 2 ≡ 0) → OddWord ms
or_odd m [] e odd = absurd (odd e)
or_odd m (n ∷ ms) e odd = by (n % 2) refl (λ h. or_odd (bit_or m n) ms h odd)
  where
    by : (k : ℕ) → n % 2 ≡ k → (bit_or m n % 2 ≡ 0 → OddWord ms) → OddWord (n ∷ ms)
    by zero h more = let r = more (omega (arith, parity_or m n)) in record { place = suc r.place; within = omega (arith, r.within); odd = r.odd }
    by (suc k) h more = record { place = 0; within = omega arith; odd = λ z. absurd (omega arith) }
