-- The sign of x + y √2 by its parts.
use Rattle.std.proofs.Common.{◌≡◌, ℕ, suc, zero, ◌+◌, ◌*◌, ◌<◌, ℤ, pos, negsuc, ◌-ℤ◌, neg_ℤ, nat_abs, ◌↔◌, Bool, true, false, IsTrue, IsFalse, refl, sym, ap, ◌∙◌, arith}
use borrow.Author.Tests.{ltb-true, ltb-false, lt-ltb, le-ltb}
use lib.Dec.{leb-zero}
use lib.Signed.{lt_z, le_z}
use mathlib.Core.Bool.{beq}
use borrow.Author.Differences.{ints}
use Rattle.state_model.specs.Coefficient.{is_positive_at}
use Rattle.state_model.specs.Coefficient.{Weight, is_positive, is_less, no_weight}
use Rattle.state_model.proofs.Booleans.{clash}
use Rattle.state_model.proofs.Domain.{root_two}
use Rattle.omega_ring.specs.declared.signs.Sign.TheVariants.{Negative, Zero, Positive}

no_root : (m n : ℕ) → suc m * suc m ≡ 2 * (suc n * suc n) → ⊥
no_root m n e = let z : suc m ≡ 0 = root_two (suc m) (suc m) (suc n) (omega arith) e in omega arith

-- a number and its negation are not both above 0
never_both : (x y : ℤ) → is_positive_at x y ≡ true → is_positive_at (neg_ℤ x) (neg_ℤ y) ≡ true → ⊥
unfolding is_positive_at
never_both (pos zero) (pos zero) e f = let l = ltb-true 0 (0 + 0) e in omega arith
never_both (pos zero) (pos (suc b)) e f = let l = ltb-true (2 * (suc b * suc b)) (0 * 0) f in omega arith
never_both (pos zero) (negsuc b) e f = let l = ltb-true (2 * (suc b * suc b)) (0 * 0) e in omega arith
never_both (pos (suc a)) (pos zero) e f = let l = ltb-true (suc a * suc a) (2 * (0 * 0)) f in omega arith
never_both (pos (suc a)) (pos (suc b)) e f = clash (sym f)
never_both (pos (suc a)) (negsuc b) e f = let l = ltb-true (2 * (suc b * suc b)) (suc a * suc a) e in let k = ltb-true (suc a * suc a) (2 * (suc b * suc b)) f in omega arith
never_both (negsuc a) (pos zero) e f = let l = ltb-true (suc a * suc a) (2 * (0 * 0)) e in omega arith
never_both (negsuc a) (pos (suc b)) e f = let l = ltb-true (suc a * suc a) (2 * (suc b * suc b)) e in let k = ltb-true (2 * (suc b * suc b)) (suc a * suc a) f in omega arith
never_both (negsuc a) (negsuc b) e f = clash (sym e)

-- a number that is not above 0, and whose negation isn't, is 0
neither : (x y : ℤ) → is_positive_at x y ≡ false → is_positive_at (neg_ℤ x) (neg_ℤ y) ≡ false → (x ≡ pos 0) × (y ≡ pos 0)
unfolding is_positive_at
neither (pos zero) (pos zero) e f = (refl, refl)
neither (pos zero) (pos (suc b)) e f = absurd (let l = ltb-false 0 (0 + suc b) e in omega arith)
neither (pos zero) (negsuc b) e f = absurd (let l = ltb-false 0 (0 + suc b) f in omega arith)
neither (pos (suc a)) (pos b) e f = absurd (let l = ltb-false 0 (suc a + b) e in omega arith)
neither (pos (suc a)) (negsuc b) e f = absurd (let l = ltb-false (2 * (suc b * suc b)) (suc a * suc a) e in let k = ltb-false (suc a * suc a) (2 * (suc b * suc b)) f in no_root a b (omega arith))
neither (negsuc a) (pos zero) e f = absurd (let l = ltb-false 0 (suc a + 0) f in omega arith)
neither (negsuc a) (pos (suc b)) e f = absurd (let l = ltb-false (suc a * suc a) (2 * (suc b * suc b)) e in let k = ltb-false (2 * (suc b * suc b)) (suc a * suc a) f in no_root a b (omega arith))
neither (negsuc a) (negsuc b) e f = absurd (let l = ltb-false 0 (suc a + suc b) f in omega arith)

below_zero : (p : Weight) → is_less p no_weight ≡ is_positive_at (neg_ℤ p.x) (neg_ℤ p.y)
unfolding is_less is_positive
below_zero p = ap (λ (x : ℤ). is_positive_at x (pos 0 -ℤ p.y)) (from_zero p.x) ∙ ap (λ (y : ℤ). is_positive_at (neg_ℤ p.x) y) (from_zero p.y)
  where
    from_zero : (a : ℤ) → pos 0 -ℤ a ≡ neg_ℤ a
    from_zero a = omega (arith, ints)

zero_not_positive : (p : Weight) → p.x ≡ pos 0 → p.y ≡ pos 0 → is_positive p ≡ false
unfolding is_positive is_positive_at
zero_not_positive p e f = ap (λ (x : ℤ). is_positive_at x p.y) e ∙ ap (is_positive_at (pos 0)) f

zero_not_below : (p : Weight) → p.x ≡ pos 0 → p.y ≡ pos 0 → is_less p no_weight ≡ false
unfolding is_positive_at
zero_not_below p e f = below_zero p ∙ ap (λ (x : ℤ). is_positive_at (neg_ℤ x) (neg_ℤ p.y)) e ∙ ap (λ (y : ℤ). is_positive_at (pos 0) (neg_ℤ y)) f

-- what the sign Zero says of the other two
pub zero_positive : (p : Weight) → p.x ≡ pos 0 → p.y ≡ pos 0 → (Zero ≡ Positive) ↔ IsTrue (is_positive p)
zero_positive p e f = (λ g. cc, λ g. absurd (clash (sym g ∙ zero_not_positive p e f)))

pub zero_negative : (p : Weight) → p.x ≡ pos 0 → p.y ≡ pos 0 → (Zero ≡ Negative) ↔ IsTrue (is_less p no_weight)
zero_negative p e f = (λ g. cc, λ g. absurd (clash (sym g ∙ zero_not_below p e f)))

-- what the sign Positive says of Negative
pub positive_negative : (p : Weight) → is_positive p ≡ true → (Positive ≡ Negative) ↔ IsTrue (is_less p no_weight)
unfolding is_positive
positive_negative p e = (λ g. cc, λ g. absurd (never_both p.x p.y e (sym (below_zero p) ∙ g)))

-- a number that is neither 0 nor above 0 is below 0
pub below_otherwise : (p : Weight) → is_positive p ≡ false → ¬ ((p.x ≡ pos 0) × (p.y ≡ pos 0)) → is_less p no_weight ≡ true
unfolding is_positive
below_otherwise p e n = by (is_positive_at (neg_ℤ p.x) (neg_ℤ p.y)) refl
  where
    by : (b : Bool) → is_positive_at (neg_ℤ p.x) (neg_ℤ p.y) ≡ b → is_less p no_weight ≡ true
    by true f = below_zero p ∙ f
    by false f = absurd (n (neither p.x p.y e f))

-- ---- the three ways to tell
pub no_root_part : (x y : ℤ) → y ≡ pos 0 → lt_z (pos 0) x ≡ is_positive_at x y
unfolding is_positive_at
no_root_part x y e = at x ∙ sym (ap (is_positive_at x) e)
  where
    at : (x : ℤ) → lt_z (pos 0) x ≡ is_positive_at x (pos 0)
    at (pos zero) = refl
    at (pos (suc a)) = lt-ltb 0 (suc a) (omega arith) ∙ sym (lt-ltb 0 (suc a + 0) (omega arith))
    at (negsuc a) = sym (le-ltb (suc a * suc a) (2 * (0 * 0)) (omega arith))

pub same_signs : (x y : ℤ) → beq (le_z (pos 0) x) (lt_z (pos 0) y) ≡ true → lt_z (pos 0) y ≡ is_positive_at x y
unfolding is_positive_at
same_signs (pos a) (pos zero) e = absurd (clash (sym e ∙ ap (λ (t : Bool). beq t false) (leb-zero a)))
same_signs (pos a) (pos (suc b)) e = lt-ltb 0 (suc b) (omega arith) ∙ sym (lt-ltb 0 (a + suc b) (omega arith))
same_signs (pos a) (negsuc b) e = absurd (clash (sym e ∙ ap (λ (t : Bool). beq t false) (leb-zero a)))
same_signs (negsuc a) (pos zero) e = sym (le-ltb (suc a * suc a) (2 * (0 * 0)) (omega arith))
same_signs (negsuc a) (pos (suc b)) e = absurd (clash (sym e ∙ ap (beq false) (lt-ltb 0 (suc b) (omega arith))))
same_signs (negsuc a) (negsuc b) e = refl

pub other_signs : (x y : ℤ) (r : Bool) (m n : ℕ) → m ≡ nat_abs x → n ≡ nat_abs y → beq (le_z (pos 0) x) (lt_z (pos 0) y) ≡ false → (y ≡ pos 0 → ⊥) → (IsTrue r → 2 * (n * n) < m * m) → (IsFalse r → m * m < 2 * (n * n)) → beq r (le_z (pos 0) x) ≡ is_positive_at x y
unfolding is_positive_at
other_signs (pos a) (pos zero) r m k f g e n h l = absurd (n refl)
other_signs (pos a) (pos (suc b)) r m k f g e n h l = absurd (clash (sym (ap (λ (t : Bool). beq t (lt_z (pos 0) (pos (suc b)))) (leb-zero a) ∙ ap (beq true) (lt-ltb 0 (suc b) (omega arith))) ∙ e))
other_signs (pos a) (negsuc b) true m k f g e n h l = let o = h refl in let p = ap (λ (t : ℕ). t * t) f in let q = ap (λ (t : ℕ). t * t) g in ap (beq true) (leb-zero a) ∙ sym (lt-ltb (2 * (suc b * suc b)) (a * a) (omega arith))
other_signs (pos a) (negsuc b) false m k f g e n h l = let o = l refl in let p = ap (λ (t : ℕ). t * t) f in let q = ap (λ (t : ℕ). t * t) g in ap (beq false) (leb-zero a) ∙ sym (le-ltb (2 * (suc b * suc b)) (a * a) (omega arith))
other_signs (negsuc a) (pos zero) r m k f g e n h l = absurd (n refl)
other_signs (negsuc a) (pos (suc b)) true m k f g e n h l = let o = h refl in let p = ap (λ (t : ℕ). t * t) f in let q = ap (λ (t : ℕ). t * t) g in sym (le-ltb (suc a * suc a) (2 * (suc b * suc b)) (omega arith))
other_signs (negsuc a) (pos (suc b)) false m k f g e n h l = let o = l refl in let p = ap (λ (t : ℕ). t * t) f in let q = ap (λ (t : ℕ). t * t) g in sym (lt-ltb (suc a * suc a) (2 * (suc b * suc b)) (omega arith))
other_signs (negsuc a) (negsuc b) r m k f g e n h l = absurd (clash e)
