-- Weights of registers are positive, balanced and small, and so their products can be balanced.
use Rattle.std.proofs.Common.{◌≡◌, ◌<◌, ◌^◌, ℤ, pos, ◌+ℤ◌, ◌-ℤ◌, ◌*ℤ◌, neg_ℤ, ◌≤ℤ◌, ◌<ℤ◌, unsigned_abs, [], ◌∷◌, refl, sym, subst, arith}
use Rattle.std.proofs.lemmas.Int.{ints, unsigned_abs-mul}
use Rattle.std.proofs.lemmas.Nat.{mul-lt}
use Rattle.state_model.specs.Coefficient.{Weight}
use Rattle.state_model.specs.Divisors.{IsBalanced, weight_product, weight_norm}
use Rattle.state_model.specs.CoefficientList.{total_weight}
use Rattle.state_model.specs.Amplitudes.{Amplitudes}
use Rattle.state_model.proofs.Polynomial.{var, plus, times, less, two, equal}
use Rattle.state_model.proofs.Expressions.{pair, norm_pair}
use Rattle.state_model.proofs.Inequalities.{order, doubled, product_not_negative, product_positive}
use Rattle.state_model.proofs.Norms.{weight_norm-product}
use Rattle.state_model.proofs.RegisterLists.{reduced_nonzero}
use Rattle.amplitude_register.specs.States.{IsKept}
use Rattle.amplitude_register.proofs.Steps.{x_positive}
use Rattle.omega_ring.specs.Range.{PartsBelow}

-- positive, balanced and below 2^60
pub record IsRegisterWeight (p : Weight) : Type 0 where
  pub positive : pos 0 <ℤ p.x
  pub balanced : IsBalanced p
  pub small : p.x <ℤ pos (2 ^ 60)

pub kept_weight : (a : Amplitudes) (p : Weight) → IsKept a → p ≡ total_weight a.list → IsRegisterWeight p
kept_weight a p kept e = subst IsRegisterWeight (sym e) record { positive = x_positive a.list (reduced_nonzero a.list kept.normal.reduced); balanced = kept.normal.balanced; small = kept.small }

pub weight_sizes : (p : Weight) → IsRegisterWeight p → PartsBelow (2 ^ 60) p
weight_sizes p h = at p.x p.y h.positive h.balanced.high h.balanced.low h.small
  where
    at : (x y : ℤ) → pos 0 <ℤ x → (y +ℤ y) ≤ℤ x → neg_ℤ (y +ℤ y) ≤ℤ x → x <ℤ pos (2 ^ 60) → PartsBelow (2 ^ 60) record { x = x; y = y }
    at x y h k l m = record { x = omega (arith, ints); y = omega (arith, ints) }

-- ---- the product
long_size : (m n : ℤ) → unsigned_abs m < 2 ^ 60 → unsigned_abs n < 2 ^ 60 → unsigned_abs (m *ℤ n) < 2 ^ 120
long_size m n p q = rw (unsigned_abs-mul m n) (mul-lt (unsigned_abs m) (unsigned_abs n) (2 ^ 60) (2 ^ 60) p q)

product_low : (p q : Weight) → IsBalanced p → IsBalanced q → neg_ℤ (p.x *ℤ q.x) ≤ℤ (pos 2 *ℤ (p.y *ℤ q.y) +ℤ pos 2 *ℤ (p.y *ℤ q.y))
product_low p q h k =
    let s = product_not_negative (p.x +ℤ (p.y +ℤ p.y)) (q.x +ℤ (q.y +ℤ q.y)) (let l = h.low in omega (arith, order)) (let l = k.low in omega (arith, order)) in
    let t = product_not_negative (p.x -ℤ (p.y +ℤ p.y)) (q.x -ℤ (q.y +ℤ q.y)) (let l = h.high in omega (arith, order)) (let l = k.high in omega (arith, order)) in
    let e : (p.x +ℤ (p.y +ℤ p.y)) *ℤ (q.x +ℤ (q.y +ℤ q.y)) +ℤ (p.x -ℤ (p.y +ℤ p.y)) *ℤ (q.x -ℤ (q.y +ℤ q.y)) ≡ pos 2 *ℤ (p.x *ℤ q.x +ℤ (pos 2 *ℤ (p.y *ℤ q.y) +ℤ pos 2 *ℤ (p.y *ℤ q.y))) =
    let a = var 0 in let b = var 1 in let c = var 2 in let d = var 3 in
    equal (p.x ∷ p.y ∷ q.x ∷ q.y ∷ []) (plus (times (plus a (plus b b)) (plus c (plus d d))) (times (less a (plus b b)) (less c (plus d d)))) (times two (plus (times a c) (plus (times two (times b d)) (times two (times b d))))) refl in
    let f = doubled (p.x *ℤ q.x +ℤ (pos 2 *ℤ (p.y *ℤ q.y) +ℤ pos 2 *ℤ (p.y *ℤ q.y))) in
    omega (arith, order)

product_high : (p q : Weight) → IsBalanced p → IsBalanced q → (pos 2 *ℤ (p.y *ℤ q.y) +ℤ pos 2 *ℤ (p.y *ℤ q.y)) ≤ℤ (p.x *ℤ q.x)
product_high p q h k =
    let s = product_not_negative (p.x +ℤ (p.y +ℤ p.y)) (q.x -ℤ (q.y +ℤ q.y)) (let l = h.low in omega (arith, order)) (let l = k.high in omega (arith, order)) in
    let t = product_not_negative (p.x -ℤ (p.y +ℤ p.y)) (q.x +ℤ (q.y +ℤ q.y)) (let l = h.high in omega (arith, order)) (let l = k.low in omega (arith, order)) in
    let e : (p.x +ℤ (p.y +ℤ p.y)) *ℤ (q.x -ℤ (q.y +ℤ q.y)) +ℤ (p.x -ℤ (p.y +ℤ p.y)) *ℤ (q.x +ℤ (q.y +ℤ q.y)) ≡ pos 2 *ℤ (p.x *ℤ q.x -ℤ (pos 2 *ℤ (p.y *ℤ q.y) +ℤ pos 2 *ℤ (p.y *ℤ q.y))) =
    let a = var 0 in let b = var 1 in let c = var 2 in let d = var 3 in
    equal (p.x ∷ p.y ∷ q.x ∷ q.y ∷ []) (plus (times (plus a (plus b b)) (less c (plus d d))) (times (less a (plus b b)) (plus c (plus d d)))) (times two (less (times a c) (plus (times two (times b d)) (times two (times b d))))) refl in
    let f = doubled (p.x *ℤ q.x -ℤ (pos 2 *ℤ (p.y *ℤ q.y) +ℤ pos 2 *ℤ (p.y *ℤ q.y))) in
    omega (arith, order)

norm_positive : (p : Weight) → IsRegisterWeight p → pos 0 <ℤ weight_norm p
norm_positive p h =
    let b = h.balanced in
    let t = product_not_negative (p.x +ℤ (p.y +ℤ p.y)) (p.x -ℤ (p.y +ℤ p.y)) (let l = b.low in omega (arith, order)) (let l = b.high in omega (arith, order)) in
    let s = product_positive p.x p.x h.positive h.positive in
    let e : (p.x +ℤ (p.y +ℤ p.y)) *ℤ (p.x -ℤ (p.y +ℤ p.y)) +ℤ p.x *ℤ p.x ≡ pos 2 *ℤ weight_norm p =
    let a = var 0 in let b = var 1 in
    equal (p.x ∷ p.y ∷ []) (plus (times (plus a (plus b b)) (less a (plus b b))) (times a a)) (times two (norm_pair (pair 0))) refl in
    let f = doubled (weight_norm p) in
    omega (arith, order)

-- a weight that can be balanced
pub record IsReal (w : Weight) : Type 0 where
  pub positive : pos 0 <ℤ w.x
  pub small : w.x <ℤ pos (2 ^ 122)
  pub real : (pos 2 *ℤ (w.y *ℤ w.y)) <ℤ (w.x *ℤ w.x)

pub product_real : (p q w : Weight) → IsRegisterWeight p → IsRegisterWeight q → w ≡ weight_product p q → IsReal w
product_real p q w h k e = subst IsReal (sym e) record { positive = positive; small = small; real = real }
  where
    low : neg_ℤ (p.x *ℤ q.x) ≤ℤ (pos 2 *ℤ (p.y *ℤ q.y) +ℤ pos 2 *ℤ (p.y *ℤ q.y))
    low = product_low p q h.balanced k.balanced

    high : (pos 2 *ℤ (p.y *ℤ q.y) +ℤ pos 2 *ℤ (p.y *ℤ q.y)) ≤ℤ (p.x *ℤ q.x)
    high = product_high p q h.balanced k.balanced

    above : pos 0 <ℤ (p.x *ℤ q.x)
    above = product_positive p.x q.x h.positive k.positive

    at_low : (s t : ℤ) → pos 0 <ℤ s → neg_ℤ s ≤ℤ (t +ℤ t) → pos 0 <ℤ (s +ℤ t)
    at_low s t l m = omega (arith, order)

    at_high : (s t : ℤ) → unsigned_abs s < 2 ^ 120 → (t +ℤ t) ≤ℤ s → (s +ℤ t) <ℤ pos (2 ^ 122)
    at_high s t l m = omega (arith, ints)

    positive : pos 0 <ℤ (weight_product p q).x
    positive = at_low (p.x *ℤ q.x) (pos 2 *ℤ (p.y *ℤ q.y)) above low

    small : (weight_product p q).x <ℤ pos (2 ^ 122)
    small = at_high (p.x *ℤ q.x) (pos 2 *ℤ (p.y *ℤ q.y)) (let s = weight_sizes p h in let t = weight_sizes q k in long_size p.x q.x s.x t.x) high

    real : (pos 2 *ℤ ((weight_product p q).y *ℤ (weight_product p q).y)) <ℤ ((weight_product p q).x *ℤ (weight_product p q).x)
    real = by_norm _ _ (subst (λ (t : ℤ). pos 0 <ℤ t) (sym (weight_norm-product p q)) (product_positive (weight_norm p) (weight_norm q) (norm_positive p h) (norm_positive q k)))
      where
        by_norm : (s t : ℤ) → pos 0 <ℤ (s -ℤ t) → t <ℤ s
        by_norm s t l = omega (arith, order)
