-- Division of coefficients with a remainder of smaller norm.
use Rattle.std.proofs.Common.{◌≡◌, ℕ, suc, ◌+◌, ◌*◌, ◌/◌, ◌%◌, ◌≤◌, ◌<◌, ℤ, pos, negsuc, ◌+ℤ◌, ◌-ℤ◌, ◌*ℤ◌, neg_ℤ, ◌≤ℤ◌, ◌<ℤ◌, refl, sym, ap, ◌∙◌, arith, ⊎_elim, [], ◌∷◌}
use Rattle.std.proofs.lemmas.Int.{by_lt_z}
use Rattle.std.proofs.lemmas.Bool.{cases_lt}
use Rattle.state_model.specs.Coefficient.{Coefficient, ◌⊖◌, ◌⊗◌, conjugate, weight}
use Rattle.state_model.specs.Divisors.{norm}
use Rattle.state_model.specs.Quotients.{IsHalf}
use Rattle.state_model.proofs.Integers.{mul_comm_ℤ}
use Rattle.state_model.proofs.Polynomial.{Term, var, number, plus, times, minus, less, square, two, equal}
use Rattle.state_model.proofs.Expressions.{Quad, quad, sub_quad, mul_quad, conj_quad, weight_quad, norm_pair, equal_quads, coordinates}
use Rattle.state_model.proofs.Inequalities.{order, doubled, fourfold, square_not_negative, product_not_negative, product_positive, below_of_product}
use Rattle.state_model.proofs.Norms.{norm-⊗, norm_not_negative}

-- ---- the nearest whole number to a fraction
nearest_natural : (m n : ℕ) → 0 < n → (k : ℕ) × (2 * (k * n) ≤ 2 * m + n) × (2 * m ≤ 2 * (k * n) + n)
nearest_natural m n h = ⊎_elim (λ p. (m / n, omega arith, omega arith)) (λ p. (m / n + 1, omega arith, omega arith)) (cases_lt (2 * (m % n)) n)

pub nearest : (t n : ℤ) → pos 0 <ℤ n → (k : ℤ) × IsHalf n (t -ℤ k *ℤ n)
nearest (pos m) (pos n) h =
    let f : (k : ℕ) × (2 * (k * n) ≤ 2 * m + n) × (2 * m ≤ 2 * (k * n) + n) = nearest_natural m n (omega (arith, order)) in
    (pos (f.0), record { low = omega (arith, order); high = omega (arith, order) })
nearest (negsuc m) (pos n) h =
    let f : (k : ℕ) × (2 * (k * n) ≤ 2 * suc m + n) × (2 * suc m ≤ 2 * (k * n) + n) = nearest_natural (suc m) n (omega (arith, order)) in
    let e : neg_ℤ (pos (f.0)) *ℤ pos n ≡ neg_ℤ (pos (f.0 * n)) = equal (pos (f.0) ∷ pos n ∷ []) (times (minus (var 0)) (var 1)) (minus (times (var 0) (var 1))) refl in
    (neg_ℤ (pos (f.0)), record { low = omega (arith, order); high = omega (arith, order) })
nearest t (negsuc n) h = absurd (omega (arith, order))

pub half_square : (n r : ℤ) → IsHalf n r → (pos 4 *ℤ (r *ℤ r)) ≤ℤ (n *ℤ n)
half_square n r h =
    let p = product_not_negative (n -ℤ (r +ℤ r)) (n +ℤ (r +ℤ r)) (omega (arith, order)) (omega (arith, order)) in
    let e : (n -ℤ (r +ℤ r)) *ℤ (n +ℤ (r +ℤ r)) ≡ n *ℤ n -ℤ pos 4 *ℤ (r *ℤ r) =
    let x = var 0 in let y = var 1 in equal (n ∷ r ∷ []) (times (less x (plus y y)) (plus x (plus y y))) (less (square x) (times (number (pos 4)) (square y))) refl in
    omega (arith, order)

-- y^2 for four coordinates, and where their squares are all h
cross : (a b c d p q r : ℤ) → ℤ
cross a b c d p q r = (a *ℤ a) *ℤ p +ℤ p *ℤ q +ℤ q *ℤ r +ℤ r *ℤ (a *ℤ a) +ℤ pos 2 *ℤ ((a *ℤ c) *ℤ (p -ℤ r)) +ℤ pos 2 *ℤ ((b *ℤ d) *ℤ (q -ℤ a *ℤ a))

cross_is : (a b c d : ℤ) → (a *ℤ b +ℤ b *ℤ c +ℤ c *ℤ d -ℤ d *ℤ a) *ℤ (a *ℤ b +ℤ b *ℤ c +ℤ c *ℤ d -ℤ d *ℤ a) ≡ cross a b c d (b *ℤ b) (c *ℤ c) (d *ℤ d)
unfolding cross
cross_is a b c d =
    let z = quad 0 in
    let p = square z.b in let q = square z.c in let r = square z.d in
    equal (a ∷ b ∷ c ∷ d ∷ []) (square ((weight_quad z).y))
    (plus (plus (plus (plus (plus (times (square z.a) p) (times p q)) (times q r)) (times r (square z.a))) (times two (times (times z.a z.c) (less p r)))) (times two (times (times z.b z.d) (less q (square z.a))))) refl

cross_same : (a b c d : ℤ) → cross a b c d (a *ℤ a) (a *ℤ a) (a *ℤ a) ≡ pos 4 *ℤ ((a *ℤ a) *ℤ (a *ℤ a))
unfolding cross
cross_same a b c d =
    let z = quad 0 in
    let p = square z.a in
    equal (a ∷ b ∷ c ∷ d ∷ [])
    (plus (plus (plus (plus (plus (times (square z.a) p) (times p p)) (times p p)) (times p (square z.a))) (times two (times (times z.a z.c) (less p p)))) (times two (times (times z.b z.d) (less p (square z.a)))))
    (times (number (pos 4)) (square (square z.a))) refl

equal_squares : (a b c d : ℤ) → b *ℤ b ≡ a *ℤ a → c *ℤ c ≡ a *ℤ a → d *ℤ d ≡ a *ℤ a → (a *ℤ b +ℤ b *ℤ c +ℤ c *ℤ d -ℤ d *ℤ a) *ℤ (a *ℤ b +ℤ b *ℤ c +ℤ c *ℤ d -ℤ d *ℤ a) ≡ pos 4 *ℤ ((a *ℤ a) *ℤ (a *ℤ a))
equal_squares a b c d e f g =
    cross_is a b c d
    ∙ ap (λ (t : ℤ). cross a b c d t (c *ℤ c) (d *ℤ d)) e
    ∙ ap (λ (t : ℤ). cross a b c d (a *ℤ a) t (d *ℤ d)) f
    ∙ ap (λ (t : ℤ). cross a b c d (a *ℤ a) (a *ℤ a) t) g
    ∙ cross_same a b c d

short_norm : (x y m : ℤ) → pos 0 ≤ℤ x → x <ℤ m → (x *ℤ x -ℤ pos 2 *ℤ (y *ℤ y)) <ℤ (m *ℤ m)
short_norm x y m h l =
    let p = product_positive m (m -ℤ x) (omega (arith, order)) (omega (arith, order)) in
    let q = product_not_negative x (m -ℤ x) h (omega (arith, order)) in
    let e : m *ℤ m ≡ x *ℤ x +ℤ (m *ℤ (m -ℤ x) +ℤ x *ℤ (m -ℤ x)) =
    let s = var 0 in let t = var 1 in equal (x ∷ m ∷ []) (times t t) (plus (times s s) (plus (times t (less t s)) (times s (less t s)))) refl in
    let f = doubled (y *ℤ y) in
    let g = square_not_negative y in
    omega (arith, order)

long_norm : (x y m h : ℤ) → x ≡ pos 4 *ℤ h → m ≡ pos 4 *ℤ h → y *ℤ y ≡ pos 4 *ℤ (h *ℤ h) → pos 0 <ℤ h → (x *ℤ x -ℤ pos 2 *ℤ (y *ℤ y)) <ℤ (m *ℤ m)
long_norm x y m h ex em ey l =
    let k = product_positive (pos 8) (h *ℤ h) (omega (arith, order)) (product_positive h h l l) in
    let f : (pos 4 *ℤ h) *ℤ (pos 4 *ℤ h) ≡ ((pos 4 *ℤ h) *ℤ (pos 4 *ℤ h) -ℤ pos 2 *ℤ (pos 4 *ℤ (h *ℤ h))) +ℤ pos 8 *ℤ (h *ℤ h) =
    let t = var 0 in let s = times (times (number (pos 4)) t) (times (number (pos 4)) t) in equal (h ∷ []) s (plus (less s (times two (times (number (pos 4)) (times t t)))) (times (number (pos 8)) (times t t))) refl in
    let ax : x *ℤ x ≡ (pos 4 *ℤ h) *ℤ (pos 4 *ℤ h) = ap (λ (t : ℤ). t *ℤ t) ex in
    let am : m *ℤ m ≡ (pos 4 *ℤ h) *ℤ (pos 4 *ℤ h) = ap (λ (t : ℤ). t *ℤ t) em in
    let ay : pos 2 *ℤ (y *ℤ y) ≡ pos 2 *ℤ (pos 4 *ℤ (h *ℤ h)) = ap (λ (t : ℤ). pos 2 *ℤ t) ey in
    omega (arith, order)

-- what follows where the sum of four squares, each at most a quarter of m, is m
record Quarters (m p q r s : ℤ) : Type 0 where
  second : q ≡ p
  third : r ≡ p
  fourth : s ≡ p
  sum : p +ℤ q +ℤ r +ℤ s ≡ pos 4 *ℤ p
  whole : m ≡ pos 4 *ℤ p
  high : pos 0 <ℤ p

quarters : (m p q r s : ℤ) → pos 0 <ℤ m → (pos 4 *ℤ p) ≤ℤ m → (pos 4 *ℤ q) ≤ℤ m → (pos 4 *ℤ r) ≤ℤ m → (pos 4 *ℤ s) ≤ℤ m → m ≤ℤ (p +ℤ q +ℤ r +ℤ s) → Quarters m p q r s
quarters m p q r s h hp hq hr hs l =
    let a = fourfold p in let b = fourfold q in let c = fourfold r in let d = fourfold s in
    record {
      second = omega (arith, order);
      third = omega (arith, order);
      fourth = omega (arith, order);
      sum = omega (arith, order);
      whole = omega (arith, order);
      high = omega (arith, order);
    }

pub half_norm : (n : ℤ) (e : Coefficient) → pos 0 <ℤ n → IsHalf n e.a → IsHalf n e.b → IsHalf n e.c → IsHalf n e.d → norm e <ℤ ((n *ℤ n) *ℤ (n *ℤ n))
half_norm n e h ha hb hc hd =
    by_lt_z (weight e).x (n *ℤ n)
    (λ l. short_norm (weight e).x (weight e).y (n *ℤ n) (not_negative e) l)
    (λ l. let k = quarters (n *ℤ n) (e.a *ℤ e.a) (e.b *ℤ e.b) (e.c *ℤ e.c) (e.d *ℤ e.d) (product_positive n n h h) (half_square n e.a ha) (half_square n e.b hb) (half_square n e.c hc) (half_square n e.d hd) l in
    long_norm (weight e).x (weight e).y (n *ℤ n) (e.a *ℤ e.a) k.sum k.whole (equal_squares e.a e.b e.c e.d k.second k.third k.fourth) k.high)
  where
    not_negative : (e : Coefficient) → pos 0 ≤ℤ (weight e).x
    not_negative e =
        let p = square_not_negative e.a in let q = square_not_negative e.b in let r = square_not_negative e.c in let s = square_not_negative e.d in
        omega (arith, order)

-- ---- the quotient
-- the coefficient whose product with u is the norm of u
abbrev pub companion : Coefficient → Coefficient
companion u = conjugate u ⊗ record { a = (weight u).x; b = neg_ℤ (weight u).y; c = pos 0; d = (weight u).y }

abbrev pub whole_coefficient : ℤ → Coefficient
whole_coefficient n = record { a = n; b = pos 0; c = pos 0; d = pos 0 }

abbrev pub scale : ℤ → Coefficient → Coefficient
scale n q = record { a = q.a *ℤ n; b = q.b *ℤ n; c = q.c *ℤ n; d = q.d *ℤ n }

abbrev zero_term : Term
zero_term = number (pos 0)

abbrev companion_quad : Quad → Quad
companion_quad u = mul_quad (conj_quad u) record { a = (weight_quad u).x; b = minus (weight_quad u).y; c = zero_term; d = (weight_quad u).y }

pub ⊗-companion : (u : Coefficient) → u ⊗ companion u ≡ whole_coefficient (norm u)
⊗-companion u =
    let t = quad 0 in
    equal_quads (coordinates u []) (mul_quad t (companion_quad t)) record { a = norm_pair (weight_quad t); b = zero_term; c = zero_term; d = zero_term } refl refl refl refl

remainder_by : (z u q v : Coefficient) → (z ⊖ q ⊗ u) ⊗ v ≡ z ⊗ v ⊖ q ⊗ (u ⊗ v)
remainder_by z u q v =
    let zz = quad 0 in let uu = quad 4 in let qq = quad 8 in let vv = quad 12 in
    equal_quads (coordinates z (coordinates u (coordinates q (coordinates v [])))) (mul_quad (sub_quad zz (mul_quad qq uu)) vv) (sub_quad (mul_quad zz vv) (mul_quad qq (mul_quad uu vv))) refl refl refl refl

by_whole : (t q : Coefficient) (n : ℤ) → t ⊖ q ⊗ whole_coefficient n ≡ t ⊖ scale n q
by_whole t q n =
    let tt = quad 0 in let qq = quad 4 in let k = var 8 in
    equal_quads (coordinates t (coordinates q (n ∷ []))) (sub_quad tt (mul_quad qq record { a = k; b = zero_term; c = zero_term; d = zero_term })) (sub_quad tt record { a = times qq.a k; b = times qq.b k; c = times qq.c k; d = times qq.d k }) refl refl refl refl

norm_whole : (n : ℤ) → norm (whole_coefficient n) ≡ (n *ℤ n) *ℤ (n *ℤ n)
norm_whole n =
    let k = var 0 in let t = square (square k) in
    equal (n ∷ []) (norm_pair (weight_quad record { a = k; b = zero_term; c = zero_term; d = zero_term })) t refl

-- the remainder times the companion of u
pub remainder_product : (z u q : Coefficient) → (z ⊖ q ⊗ u) ⊗ companion u ≡ z ⊗ companion u ⊖ scale (norm u) q
remainder_product z u q = remainder_by z u q (companion u) ∙ ap (λ (t : Coefficient). z ⊗ companion u ⊖ q ⊗ t) (⊗-companion u) ∙ by_whole (z ⊗ companion u) q (norm u)

-- a quotient whose coordinates are the nearest whole numbers leaves a remainder of smaller norm
pub nearest_quotient : (z u q : Coefficient) → pos 0 <ℤ norm u
    → IsHalf (norm u) ((z ⊗ companion u).a -ℤ q.a *ℤ norm u) → IsHalf (norm u) ((z ⊗ companion u).b -ℤ q.b *ℤ norm u)
    → IsHalf (norm u) ((z ⊗ companion u).c -ℤ q.c *ℤ norm u) → IsHalf (norm u) ((z ⊗ companion u).d -ℤ q.d *ℤ norm u)
    → norm (z ⊖ q ⊗ u) <ℤ norm u
nearest_quotient z u q h ha hb hc hd =
    let n = norm u in
    let v = companion u in
    let r = z ⊖ q ⊗ u in
    let e = z ⊗ v ⊖ scale n q in
    let f : r ⊗ v ≡ e = remainder_by z u q v ∙ ap (λ (t : Coefficient). z ⊗ v ⊖ q ⊗ t) (⊗-companion u) ∙ by_whole (z ⊗ v) q n in
    let g : norm r *ℤ norm v ≡ norm e = sym (norm-⊗ r v) ∙ ap norm f in
    let k : norm u *ℤ norm v ≡ (n *ℤ n) *ℤ (n *ℤ n) = sym (norm-⊗ u v) ∙ ap norm (⊗-companion u) ∙ norm_whole n in
    let l = half_norm n e h ha hb hc hd in
    let a = mul_comm_ℤ (norm r) (norm v) in
    let b = mul_comm_ℤ (norm u) (norm v) in
    below_of_product (norm v) (norm r) (norm u) (norm_not_negative v) (omega (arith, order))

pub quotient : (z u : Coefficient) → pos 0 <ℤ norm u → (q : Coefficient) × (norm (z ⊖ q ⊗ u) <ℤ norm u)
quotient z u h =
    let t = z ⊗ companion u in
    let a = nearest t.a (norm u) h in
    let b = nearest t.b (norm u) h in
    let c = nearest t.c (norm u) h in
    let d = nearest t.d (norm u) h in
    let q : Coefficient = record { a = a.0; b = b.0; c = c.0; d = d.0 } in
    (q, nearest_quotient z u q h (a.1) (b.1) (c.1) (d.1))
