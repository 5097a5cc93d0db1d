-- Halves of even numbers, and the test for one.
use Rattle.std.proofs.Common.{◌≡◌, ℕ, suc, zero, ◌+◌, ◌/◌, ◌%◌, ◌<◌, ℤ, pos, negsuc, ◌+ℤ◌, neg_ℤ, IsTrue, ◌↔◌, nat_eq, of_z, true, refl, sym, ap, ◌∙◌, arith}
use Rattle.std.proofs.lemmas.Bool.{eqb-true}
use mir.Syntax.{w64}
use lib.Signed.{rem_z}
use Rattle.state_model.specs.Quotients.{IsEven}
use Rattle.state_model.proofs.Inequalities.{order}

zero_neg : (r : ℕ) → neg_ℤ (pos r) ≡ pos 0 → r ≡ 0
zero_neg zero e = refl
zero_neg (suc r) e = cc

even_value : (m : ℤ) → rem_z m (pos 2) ≡ pos 0 → IsEven m
even_value (pos n) e = let f : n % 2 ≡ 0 = cc e in (pos (n / 2), ap pos (omega arith))
even_value (negsuc n) e =
    let f : suc n % 2 ≡ 0 = zero_neg (suc n % 2) e in
    let g : suc n / 2 + suc n / 2 ≡ suc n = omega arith in
    (neg_ℤ (pos (suc n / 2)), sym (ap (λ (k : ℕ). neg_ℤ (pos k)) g) ∙ twice (suc n / 2))
  where
    twice : (k : ℕ) → neg_ℤ (pos (k + k)) ≡ neg_ℤ (pos k) +ℤ neg_ℤ (pos k)
    twice k = omega (arith, order)

value_even : (k : ℤ) → rem_z (k +ℤ k) (pos 2) ≡ pos 0
value_even (pos n) = ap pos (omega arith)
value_even (negsuc n) = let e : suc (suc (n + n)) % 2 ≡ 0 = omega arith in ap (λ (m : ℕ). neg_ℤ (pos m)) e

-- the bits of the remainder are 0 exactly where it is 0
bits_zero : (m : ℤ) → (nat_eq (of_z w64 (rem_z m (pos 2))) 0 ≡ true) → rem_z m (pos 2) ≡ pos 0
bits_zero (pos n) e = ap pos (eqb-true (n % 2) 0 e)
bits_zero (negsuc n) e = small (suc n % 2) (omega arith) e
  where
    small : (r : ℕ) → r < 2 → nat_eq (of_z w64 (neg_ℤ (pos r))) 0 ≡ true → neg_ℤ (pos r) ≡ pos 0
    small zero h e = refl
    small (suc zero) h e = cc
    small (suc (suc r)) h e = absurd (omega arith)

pub even_test : (m : ℤ) → IsTrue (nat_eq (of_z w64 (rem_z m (pos 2))) 0) ↔ IsEven m
even_test m = (λ t. even_value m (bits_zero m t), λ (k, e). ap (λ (z : ℤ). nat_eq (of_z w64 (rem_z z (pos 2))) 0) e ∙ ap (λ (z : ℤ). nat_eq (of_z w64 z) 0) (value_even k))
