-- Products of reduced vectors are reduced, and a divisor of a power of 2 is a unit times a power of 1 - w.
use Rattle.std.proofs.Common.{◌≡◌, ℕ, suc, zero, ◌+◌, ◌*◌, ◌/◌, ◌%◌, ◌<◌, ◌^◌, ℤ, pos, negsuc, ◌+ℤ◌, ◌-ℤ◌, ◌*ℤ◌, ◌≤ℤ◌, nat_abs, refl, sym, ap, subst, ◌∙◌, arith, ◌⊎◌, ⊎_elim, inl, inr, List, [], ◌∷◌, map}
use borrow.Author.Differences.{ints}
use Rattle.std.proofs.lemmas.Int.{unsigned_abs-mul}
use Rattle.std.proofs.lemmas.Bool.{cases_eq}
use Rattle.state_model.specs.Coefficient.{Coefficient, zero_coefficient, one_coefficient, ◌⊕◌, ◌⊗◌, weight}
use Rattle.state_model.specs.Divisors.{Divides, norm, delta, delta_power, IsDeltaPower}
use Rattle.state_model.specs.CoefficientList.{at, IsReduced}
use Rattle.state_model.specs.Quotients.{IsEven}
use Rattle.state_model.proofs.Domain.{zero_coefficient-⊗}
use Rattle.state_model.proofs.Ring.{⊗_comm, ⊗_assoc}
use Rattle.state_model.proofs.Polynomial.{Term, var, number, plus, times, less, square, two, equal}
use Rattle.state_model.proofs.Expressions.{Quad, quad, add_quad, mul_quad, weight_quad, equal_quads, coordinates}
use Rattle.state_model.proofs.Inequalities.{order}
use Rattle.state_model.proofs.Norms.{norm-⊗, norm_not_negative}
use Rattle.state_model.proofs.Division.{companion, ⊗-companion, whole_coefficient}
use Rattle.state_model.proofs.Euclid.{combination, CommonOf, common_of, combination_scaled, divides_both, divides_zero, one-⊗}
use Rattle.state_model.proofs.Delta.{divides_from_even}

-- some combination is 1
pub record Spans (vs : List Coefficient) : Type 0 where
  pub factors : List Coefficient
  pub sum : combination factors vs ≡ one_coefficient

pub reduced_spans : (vs : List Coefficient) → IsReduced vs → Spans vs
reduced_spans vs h =
    let c : CommonOf vs = common_of vs in
    let d : Divides c.divisor one_coefficient = h c.divisor c.divides in
    record {
      factors = map (λ (t : Coefficient). d.0 ⊗ t) c.factors;
      sum = sym (combination_scaled (d.0) c.factors vs) ∙ sym (ap (λ (t : Coefficient). d.0 ⊗ t) c.sum) ∙ sym (d.1);
    }

-- what divides each product with v divides the product of v with a combination
divides_combination : (u v : Coefficient) (ks us : List Coefficient) → ((j : ℕ) → Divides u (v ⊗ at us j)) → Divides u (v ⊗ combination ks us)
divides_combination u v [] us h = subst (Divides u) (sym (⊗_comm v zero_coefficient ∙ zero_coefficient-⊗ v)) (divides_zero u)
divides_combination u v (k ∷ ks) [] h = subst (Divides u) (sym (⊗_comm v zero_coefficient ∙ zero_coefficient-⊗ v)) (divides_zero u)
divides_combination u v (k ∷ ks) (x ∷ us) h = subst (Divides u) (sym (spread v k x (combination ks us))) (divides_both u (v ⊗ x) (v ⊗ combination ks us) k one_coefficient (h 0) (divides_combination u v ks us (λ j. h (suc j))))
  where
    spread : (v k x s : Coefficient) → v ⊗ (k ⊗ x ⊕ s) ≡ k ⊗ (v ⊗ x) ⊕ one_coefficient ⊗ (v ⊗ s)
    spread v k x s =
        let vv = quad 0 in let kk = quad 4 in let xx = quad 8 in let ss = quad 12 in
        let o : Quad = record { a = number (pos 1); b = number (pos 0); c = number (pos 0); d = number (pos 0) } in
        equal_quads (coordinates v (coordinates k (coordinates x (coordinates s []))))
        (mul_quad vv (add_quad (mul_quad kk xx) ss)) (add_quad (mul_quad kk (mul_quad vv xx)) (mul_quad o (mul_quad vv ss))) refl refl refl refl

divides_factor : (u v : Coefficient) (us : List Coefficient) → IsReduced us → ((j : ℕ) → Divides u (v ⊗ at us j)) → Divides u v
divides_factor u v us h d =
    let s : Spans us = reduced_spans us h in
    subst (Divides u) (ap (λ (t : Coefficient). v ⊗ t) s.sum ∙ ⊗_comm v one_coefficient ∙ one-⊗ v) (divides_combination u v s.factors us d)

-- the products of the entries of two reduced vectors have no common divisor but units
pub product_reduced : (vs us : List Coefficient) → IsReduced vs → IsReduced us → (u : Coefficient) → ((i j : ℕ) → Divides u (at vs i ⊗ at us j)) → Divides u one_coefficient
product_reduced vs us h k u d = h u (λ i. divides_factor u (at vs i) us k (d i))

-- what divides c times each entry of a reduced vector divides c
pub divides_scaled : (u c : Coefficient) (vs : List Coefficient) → IsReduced vs → ((i : ℕ) → Divides u (c ⊗ at vs i)) → Divides u c
divides_scaled u c vs h d = divides_factor u c vs h d

-- ---- divisors of powers of 2
odd_power : (k n m : ℕ) → n % 2 ≡ 1 → n * m ≡ 2 ^ k → n ≡ 1
odd_power zero n m o e = one_of n m (omega arith) e
  where
    one_of : (n m : ℕ) → 0 < n → n * m ≡ 1 → n ≡ 1
    one_of n zero h e = absurd (omega arith)
    one_of n (suc m) h e = small n m h (omega arith)
      where
        small : (n m : ℕ) → 0 < n → n * m + n ≡ 1 → n ≡ 1
        small n m h e = omega arith
odd_power (suc k) n m o e = odd_power k n (m / 2) o (halved n m (2 ^ k) o (omega arith))
  where
    even_half : (a b n m p : ℕ) → n ≡ 2 * a + 1 → m ≡ 2 * b → n * m ≡ 2 * p → n * b ≡ p
    even_half a b n m p f g e = let h : n * m ≡ n * (2 * b) = ap (λ (x : ℕ). n * x) g in omega arith

    odd_half : (a b n m p : ℕ) → n ≡ 2 * a + 1 → m ≡ 2 * b + 1 → n * m ≡ 2 * p → ⊥
    odd_half a b n m p f g e =
        let h : n * m ≡ (2 * a + 1) * (2 * b + 1) = ap (λ (x : ℕ). x * m) f ∙ ap (λ (x : ℕ). (2 * a + 1) * x) g in
        omega arith

    halved : (n m p : ℕ) → n % 2 ≡ 1 → n * m ≡ 2 * p → n * (m / 2) ≡ p
    halved n m p o e = ⊎_elim
        (λ q. even_half (n / 2) (m / 2) n m p (omega arith) (omega arith) e)
        (λ q. absurd (odd_half (n / 2) (m / 2) n m p (omega arith) (omega arith) e))
        (cases_eq (m % 2) 0)

abbrev one : Term
one = number (pos 1)

parity : (z : ℤ) → IsEven z ⊎ ((k : ℤ) × (z ≡ k +ℤ k +ℤ pos 1))
parity (pos n) = ⊎_elim (λ e. inl (pos (n / 2), ap pos (omega arith))) (λ e. inr (pos (n / 2), ap pos (omega arith))) (cases_eq (n % 2) 0)
parity (negsuc n) = ⊎_elim (λ e. inr (negsuc (n / 2), odd_case n (n / 2) (omega arith))) (λ e. inl (negsuc (n / 2), even_case n (n / 2) (omega arith))) (cases_eq (n % 2) 0)
  where
    odd_case : (n h : ℕ) → n ≡ h + h → negsuc n ≡ negsuc h +ℤ negsuc h +ℤ pos 1
    odd_case n h e = omega (arith, order)

    even_case : (n h : ℕ) → n ≡ h + h + 1 → negsuc n ≡ negsuc h +ℤ negsuc h
    even_case n h e = omega (arith, order)

abbrev pairs : Coefficient → ℤ
pairs z = z.a *ℤ z.b +ℤ z.a *ℤ z.c +ℤ z.a *ℤ z.d +ℤ z.b *ℤ z.c +ℤ z.b *ℤ z.d +ℤ z.c *ℤ z.d

-- a coefficient with an odd sum of coordinates has an odd norm
odd_x : (z : Coefficient) (k : ℤ) → z.a +ℤ z.b +ℤ z.c +ℤ z.d ≡ k +ℤ k +ℤ pos 1 → (m : ℤ) × ((weight z).x ≡ m +ℤ m +ℤ pos 1)
odd_x z k e = (pos 2 *ℤ (k *ℤ k) +ℤ pos 2 *ℤ k -ℤ pairs z, sum_of z ∙ ap (λ (s : ℤ). s *ℤ s -ℤ pos 2 *ℤ pairs z) e ∙ shape k (pairs z))
  where
    sum_of : (z : Coefficient) → (weight z).x ≡ (z.a +ℤ z.b +ℤ z.c +ℤ z.d) *ℤ (z.a +ℤ z.b +ℤ z.c +ℤ z.d) -ℤ pos 2 *ℤ pairs z
    sum_of z =
        let t = quad 0 in
        let p = plus (plus (plus (plus (plus (times t.a t.b) (times t.a t.c)) (times t.a t.d)) (times t.b t.c)) (times t.b t.d)) (times t.c t.d) in
        equal (coordinates z []) (weight_quad t).x (less (square (plus (plus (plus t.a t.b) t.c) t.d)) (times two p)) refl

    shape : (k p : ℤ) → (k +ℤ k +ℤ pos 1) *ℤ (k +ℤ k +ℤ pos 1) -ℤ pos 2 *ℤ p ≡ (pos 2 *ℤ (k *ℤ k) +ℤ pos 2 *ℤ k -ℤ p) +ℤ (pos 2 *ℤ (k *ℤ k) +ℤ pos 2 *ℤ k -ℤ p) +ℤ pos 1
    shape k p =
        let x = var 0 in let y = var 1 in let m = less (plus (times two (square x)) (times two x)) y in
        equal (k ∷ p ∷ []) (less (square (plus (plus x x) one)) (times two y)) (plus (plus m m) one) refl

odd_norm : (z : Coefficient) (m : ℤ) → (weight z).x ≡ m +ℤ m +ℤ pos 1 → (b : ℤ) × (norm z ≡ b +ℤ b +ℤ pos 1)
odd_norm z m e = (pos 2 *ℤ (m *ℤ m) +ℤ pos 2 *ℤ m -ℤ (weight z).y *ℤ (weight z).y, ap (λ (x : ℤ). x *ℤ x -ℤ pos 2 *ℤ ((weight z).y *ℤ (weight z).y)) e ∙ shape m (weight z).y)
  where
    shape : (k y : ℤ) → (k +ℤ k +ℤ pos 1) *ℤ (k +ℤ k +ℤ pos 1) -ℤ pos 2 *ℤ (y *ℤ y) ≡ (pos 2 *ℤ (k *ℤ k) +ℤ pos 2 *ℤ k -ℤ y *ℤ y) +ℤ (pos 2 *ℤ (k *ℤ k) +ℤ pos 2 *ℤ k -ℤ y *ℤ y) +ℤ pos 1
    shape k y =
        let x = var 0 in let t = var 1 in let m = less (plus (times two (square x)) (times two x)) (square t) in
        equal (k ∷ y ∷ []) (less (square (plus (plus x x) one)) (times two (square t))) (plus (plus m m) one) refl

odd_abs : (n b : ℤ) → pos 0 ≤ℤ n → n ≡ b +ℤ b +ℤ pos 1 → nat_abs n % 2 ≡ 1
odd_abs n (pos b) h e = odd_of (nat_abs n) b (omega (arith, ints))
  where
    odd_of : (x b : ℕ) → x ≡ b + b + 1 → x % 2 ≡ 1
    odd_of x b e = omega arith
odd_abs n (negsuc b) h e = absurd (omega (arith, ints))

pub unit_of_norm : (u : Coefficient) → norm u ≡ pos 1 → Divides u one_coefficient
unit_of_norm u e = (companion u, sym (ap whole_coefficient e) ∙ sym (⊗-companion u) ∙ ⊗_comm u (companion u))

odd_case : (k m : ℕ) (u : Coefficient) → nat_abs (norm u) * m ≡ 2 ^ k → nat_abs (norm u) % 2 ≡ 1 → IsDeltaPower u
odd_case k m u e o = record { power = zero; factor = u; is_unit = unit_of_norm u (one_norm (norm u) (norm_not_negative u) (odd_power k (nat_abs (norm u)) m o e)); value = sym (⊗_comm u one_coefficient ∙ one-⊗ u) }
  where
    one_norm : (n : ℤ) → pos 0 ≤ℤ n → nat_abs n ≡ 1 → n ≡ pos 1
    one_norm n h e = omega (arith, ints)

even_case : (u q : Coefficient) → u ≡ q ⊗ delta → IsDeltaPower q → IsDeltaPower u
even_case u q e d = record { power = suc d.power; factor = d.factor; is_unit = d.is_unit; value = e ∙ ap (λ (t : Coefficient). t ⊗ delta) d.value ∙ ⊗_assoc d.factor (delta_power d.power) delta }

halved_norm : (u q : Coefficient) → u ≡ q ⊗ delta → nat_abs (norm u) ≡ nat_abs (norm q) * 2
halved_norm u q e = ap (λ (t : Coefficient). nat_abs (norm t)) e ∙ ap nat_abs (norm-⊗ q delta) ∙ unsigned_abs-mul (norm q) (norm delta)

odd_sum : (k m : ℕ) (u : Coefficient) → nat_abs (norm u) * m ≡ 2 ^ k → ((h : ℤ) × (u.a +ℤ u.b +ℤ u.c +ℤ u.d ≡ h +ℤ h +ℤ pos 1)) → IsDeltaPower u
odd_sum k m u e (h, f) =
    let x : (n : ℤ) × ((weight u).x ≡ n +ℤ n +ℤ pos 1) = odd_x u h f in
    let n : (b : ℤ) × (norm u ≡ b +ℤ b +ℤ pos 1) = odd_norm u (x.0) (x.1) in
    odd_case k m u e (odd_abs (norm u) (n.0) (norm_not_negative u) (n.1))

no_half : (x y m : ℕ) → x ≡ y * 2 → x * m ≡ 1 → ⊥
no_half x y m e f = let g : x * m ≡ (y * 2) * m = ap (λ (t : ℕ). t * m) e in omega arith

some_half : (x y m p : ℕ) → x ≡ y * 2 → x * m ≡ 2 * p → y * m ≡ p
some_half x y m p e f = let g : x * m ≡ (y * 2) * m = ap (λ (t : ℕ). t * m) e in omega arith

-- a coefficient whose norm divides a power of 2 is a unit times a power of 1 - w
pub delta_power_of : (k m : ℕ) (u : Coefficient) → nat_abs (norm u) * m ≡ 2 ^ k → IsDeltaPower u
delta_power_of zero m u e =
    ⊎_elim (λ p. let d : Divides delta u = divides_from_even u p in absurd (no_half (nat_abs (norm u)) (nat_abs (norm (d.0))) m (halved_norm u (d.0) (d.1)) e))
    (odd_sum zero m u e) (parity (u.a +ℤ u.b +ℤ u.c +ℤ u.d))
delta_power_of (suc k) m u e =
    ⊎_elim (λ p. let d : Divides delta u = divides_from_even u p in even_case u (d.0) (d.1) (delta_power_of k m (d.0) (some_half (nat_abs (norm u)) (nat_abs (norm (d.0))) m (2 ^ k) (halved_norm u (d.0) (d.1)) (e ∙ twice k))))
    (odd_sum (suc k) m u e) (parity (u.a +ℤ u.b +ℤ u.c +ℤ u.d))
  where
    twice : (k : ℕ) → 2 ^ suc k ≡ 2 * 2 ^ k
    twice k = omega arith

-- a divisor of 4, as every common divisor after a gate is one
pub divisor_of_four : (u : Coefficient) → Divides u (whole_coefficient (pos 4)) → IsDeltaPower u
divisor_of_four u (q, e) = delta_power_of 8 (nat_abs (norm q)) u (sym (ap (λ (t : Coefficient). nat_abs (norm t)) e ∙ ap nat_abs (norm-⊗ q u ∙ swap (norm q) (norm u)) ∙ unsigned_abs-mul (norm u) (norm q)))
  where
    swap : (a b : ℤ) → a *ℤ b ≡ b *ℤ a
    swap a b = equal (a ∷ b ∷ []) (times (var 0) (var 1)) (times (var 1) (var 0)) refl
