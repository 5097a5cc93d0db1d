-- The order of the whole numbers under products.
use Rattle.std.proofs.Common.{◌≡◌, ℕ, suc, zero, ◌*◌, ◌<◌, ℤ, pos, negsuc, ◌+ℤ◌, ◌-ℤ◌, ◌*ℤ◌, ◌≤ℤ◌, ◌<ℤ◌, nat_abs, refl, arith, [], ◌∷◌}
use borrow.Author.Differences.{up, down, same_in, same_out, sum_is_lem, neg_is, product_is, lt_out, le_out, below_in, at_most_in, abs_is}
use Rattle.std.proofs.lemmas.Int.{by_lt_z}
use native.Mathlib.Nat.{mul-le-mul}
use Rattle.state_model.proofs.Domain.{square_abs}
use Rattle.state_model.proofs.Polynomial.{var, number, plus, times, minus, two, equal}

-- linear facts about whole numbers, in which a product is an unknown
pub ruleset order = (same_out, same_in, sum_is_lem, neg_is, lt_out, le_out, below_in, at_most_in)

pub square_not_negative : (z : ℤ) → pos 0 ≤ℤ (z *ℤ z)
square_not_negative z = rw (square_abs z) (at_most_in (pos 0) (pos (nat_abs z * nat_abs z)) (omega arith))

pub product_not_negative : (a b : ℤ) → pos 0 ≤ℤ a → pos 0 ≤ℤ b → pos 0 ≤ℤ (a *ℤ b)
product_not_negative (pos m) (pos n) h k = at_most_in (pos 0) (pos (m * n)) (omega arith)
product_not_negative (pos m) (negsuc n) h k = absurd (omega (arith, order))
product_not_negative (negsuc m) b h k = absurd (omega (arith, order))

nat_product_positive : (m n : ℕ) → 0 < m → 0 < n → 0 < m * n
nat_product_positive m n h k = mul-le-mul h k

pub product_positive : (a b : ℤ) → pos 0 <ℤ a → pos 0 <ℤ b → pos 0 <ℤ (a *ℤ b)
product_positive (pos m) (pos n) h k = below_in (pos 0) (pos (m * n)) (omega (arith, nat_product_positive m n (omega (arith, order)) (omega (arith, order))))
product_positive (pos m) (negsuc n) h k = absurd (omega (arith, order))
product_positive (negsuc m) b h k = absurd (omega (arith, order))

-- a number that is not negative, times an inequality
pub product_monotone : (k a b : ℤ) → pos 0 ≤ℤ k → a ≤ℤ b → (k *ℤ a) ≤ℤ (k *ℤ b)
product_monotone k a b h l =
    let p : pos 0 ≤ℤ (k *ℤ (b -ℤ a)) = product_not_negative k (b -ℤ a) h (omega (arith, order)) in
    let e : k *ℤ (b -ℤ a) ≡ k *ℤ b -ℤ k *ℤ a = let x = var 0 in let y = var 1 in let z = var 2 in
    equal (k ∷ a ∷ b ∷ []) (times x (plus z (minus y))) (plus (times x z) (minus (times x y))) refl in
    omega (arith, order)

-- a factor that is positive is cancelled
pub below_of_product : (k a b : ℤ) → pos 0 ≤ℤ k → (k *ℤ a) <ℤ (k *ℤ b) → a <ℤ b
below_of_product k a b h l = by_lt_z a b (λ p. p) (λ p. let q : (k *ℤ b) ≤ℤ (k *ℤ a) = product_monotone k b a h p in absurd (omega (arith, order)))

pub zero_of_square : (z : ℤ) → (z *ℤ z) ≤ℤ pos 0 → z ≡ pos 0
zero_of_square (pos zero) h = refl
zero_of_square (pos (suc n)) h = let k : pos 0 <ℤ (pos (suc n) *ℤ pos (suc n)) = product_positive (pos (suc n)) (pos (suc n)) (omega (arith, order)) (omega (arith, order)) in absurd (omega (arith, order))
zero_of_square (negsuc n) h = let k : pos 0 <ℤ pos (suc n * suc n) = below_in (pos 0) (pos (suc n * suc n)) (omega (arith, nat_product_positive (suc n) (suc n) (omega arith) (omega arith))) in absurd (omega (arith, order))

pub four_squares : (p q r s : ℤ) → (p *ℤ p +ℤ q *ℤ q +ℤ r *ℤ r +ℤ s *ℤ s) ≤ℤ pos 0 → (p ≡ pos 0) × (q ≡ pos 0) × (r ≡ pos 0) × (s ≡ pos 0)
four_squares p q r s h =
    let p' = square_not_negative p in
    let q' = square_not_negative q in
    let r' = square_not_negative r in
    let s' = square_not_negative s in
    (zero_of_square p (omega (arith, order)), zero_of_square q (omega (arith, order)), zero_of_square r (omega (arith, order)), zero_of_square s (omega (arith, order)))

pub doubled : (x : ℤ) → pos 2 *ℤ x ≡ x +ℤ x
doubled x = equal (x ∷ []) (times two (var 0)) (plus (var 0) (var 0)) refl

pub tripled : (x : ℤ) → pos 3 *ℤ x ≡ x +ℤ x +ℤ x
tripled x = equal (x ∷ []) (times (number (pos 3)) (var 0)) (plus (plus (var 0) (var 0)) (var 0)) refl

pub fourfold : (x : ℤ) → pos 4 *ℤ x ≡ x +ℤ x +ℤ x +ℤ x
fourfold x = equal (x ∷ []) (times (number (pos 4)) (var 0)) (plus (plus (plus (var 0) (var 0)) (var 0)) (var 0)) refl
