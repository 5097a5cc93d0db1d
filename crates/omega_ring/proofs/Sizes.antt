-- How large the numbers in one of Euclid's steps are.
use Rattle.std.proofs.Common.{◌≡◌, ℕ, suc, zero, ◌+◌, ◌-◌, ◌*◌, ◌≤◌, ◌<◌, ◌^◌, ℤ, pos, ◌+ℤ◌, ◌-ℤ◌, ◌*ℤ◌, neg_ℤ, ◌≤ℤ◌, ◌<ℤ◌, unsigned_abs, refl, sym, ap, ◌∙◌, arith, [], ◌∷◌}
use Rattle.std.proofs.lemmas.Int.{ints, unsigned_abs-mul, by_lt_z}
use native.Mathlib.Nat.{mul-le-mul}
use Rattle.state_model.specs.Coefficient.{Coefficient, Weight, conjugate, weight, ◌⊖◌, ◌⊗◌}
use Rattle.state_model.specs.Divisors.{IsBalanced, norm, weight_norm, weight_product}
use Rattle.state_model.specs.Quotients.{IsHalf}
use Rattle.omega_ring.specs.Range.{CoordinatesBelow, CoordinatesUpTo}
use Rattle.omega_ring.specs.Steps.{IsReady, conjugate_weight, inner, turn_back}
use Rattle.state_model.proofs.Division.{companion, half_square}
use Rattle.state_model.proofs.Domain.{square_abs}
use Rattle.state_model.proofs.Expressions.{Quad, conj_quad, coordinates, equal_pairs, equal_quads, mul_pair, mul_quad, norm_pair, pair, quad, weight_quad}
use Rattle.state_model.proofs.Inequalities.{order, product_monotone, product_not_negative, product_positive, square_not_negative}
use Rattle.state_model.proofs.Norms.{weight-⊗}
use Rattle.state_model.proofs.Polynomial.{equal, less, minus, number, plus, square, times, two, var}
use Rattle.state_model.proofs.Units.{x_not_negative, y_at_most}
use Rattle.omega_ring.proofs.UnitSizes.{root_bound, coordinates_below}

-- ---- the weight of a balanced coefficient is at most twice the root of its norm
twice_norm : (v : Weight) → IsBalanced v → (v.x *ℤ v.x) ≤ℤ (weight_norm v +ℤ weight_norm v)
twice_norm v b =
    let h = b.high in let l = b.low in
    let p = product_not_negative (v.x -ℤ (v.y +ℤ v.y)) (v.x +ℤ (v.y +ℤ v.y)) (omega (arith, order)) (omega (arith, order)) in
    let e : (v.x -ℤ (v.y +ℤ v.y)) *ℤ (v.x +ℤ (v.y +ℤ v.y)) ≡ (weight_norm v +ℤ weight_norm v) -ℤ v.x *ℤ v.x =
    let t = pair 0 in let n = norm_pair t in equal (v.x ∷ v.y ∷ []) (times (less t.x (plus t.y t.y)) (plus t.x (plus t.y t.y))) (less (plus n n) (square t.x)) refl in
    omega (arith, order)

pub record IsSmall (z : Coefficient) : Type 0 where
  pub x : (weight z).x <ℤ pos (2 ^ 62)
  pub y_high : ((weight z).y +ℤ (weight z).y) ≤ℤ (weight z).x
  pub y_low : neg_ℤ ((weight z).y +ℤ (weight z).y) ≤ℤ (weight z).x
  pub coordinates : CoordinatesBelow (2 ^ 31) z

ready_x : (x n : ℤ) → pos 0 ≤ℤ x → (x *ℤ x) ≤ℤ (n +ℤ n) → n <ℤ pos (2 ^ 122) → x <ℤ pos (2 ^ 62)
ready_x x n h k l = let s : unsigned_abs x < 2 ^ 62 = root_bound x (2 ^ 62) (omega (arith, order)) in omega (arith, ints)

pub ready_small : (z : Coefficient) → IsReady z → IsSmall z
ready_small z r =
    let b = r.balanced in
    let k = ready_x (weight z).x (norm z) (x_not_negative z) (twice_norm (weight z) r.balanced) r.small in
    record { x = k; y_high = b.high; y_low = b.low; coordinates = coordinates_below (2 ^ 31) z k }

abbrev pub total_of : Coefficient → ℕ
total_of q = unsigned_abs q.a + unsigned_abs q.b + unsigned_abs q.c + unsigned_abs q.d

abs_sum : (p q r s : ℤ) → unsigned_abs (p +ℤ q +ℤ r +ℤ s) ≤ unsigned_abs p + unsigned_abs q + unsigned_abs r + unsigned_abs s
abs_sum p q r s = omega (arith, ints)

abs_neg : (z : ℤ) → unsigned_abs (neg_ℤ z) ≡ unsigned_abs z
abs_neg z = omega (arith, ints)

factor_bound : (a b : ℤ) (n : ℕ) → unsigned_abs a ≤ n → unsigned_abs (a *ℤ b) ≤ n * unsigned_abs b
factor_bound a b n h = rw (unsigned_abs-mul a b) (mul-le-mul-right (unsigned_abs b) h)
  where
    mul-le-mul-right : {m n : ℕ} (k : ℕ) → m ≤ n → m * k ≤ n * k
    mul-le-mul-right k h = mul-le-mul h (same k)
      where
        same : (k : ℕ) → k ≤ k
        same k = omega arith

inner_bound : (p q : Coefficient) (n m : ℕ) → CoordinatesUpTo n p → total_of q ≤ m → unsigned_abs (inner p q) ≤ n * m
inner_bound p q n m h k =
    let a = factor_bound p.a q.a n h.a in let b = factor_bound p.b q.b n h.b in let c = factor_bound p.c q.c n h.c in let d = factor_bound p.d q.d n h.d in
    let s = abs_sum (p.a *ℤ q.a) (p.b *ℤ q.b) (p.c *ℤ q.c) (p.d *ℤ q.d) in
    let t : n * total_of q ≤ n * m = grow n (total_of q) m k in
    omega arith
  where
    grow : (n x m : ℕ) → x ≤ m → n * x ≤ n * m
    grow n x m h = grind arith

-- the product, coordinate by coordinate
abbrev pub rows : Coefficient → Coefficient → Coefficient
rows z v = record {
  a = inner z (conjugate v);
  b = inner z (conjugate (turn_back v));
  c = inner z (conjugate (turn_back (turn_back v)));
  d = inner z (conjugate (turn_back (turn_back (turn_back v))));
}

pub ⊗-rows : (z v : Coefficient) → z ⊗ v ≡ rows z v
⊗-rows z v =
    let s = quad 0 in let t = quad 4 in
    let n = λ (p q : Quad). plus (plus (plus (times p.a q.a) (times p.b q.b)) (times p.c q.c)) (times p.d q.d) in
    let k = λ (q : Quad). let r : Quad = record { a = q.b; b = q.c; c = q.d; d = minus q.a } in r in
    equal_quads (coordinates z (coordinates v [])) (mul_quad s t) record { a = n s (conj_quad t); b = n s (conj_quad (k t)); c = n s (conj_quad (k (k t))); d = n s (conj_quad (k (k (k t)))) } refl refl refl refl

total_conjugate : (v : Coefficient) → total_of (conjugate v) ≡ total_of v
total_conjugate v = omega (arith, abs_neg v.b, abs_neg v.c, abs_neg v.d)

total_turn : (v : Coefficient) → total_of (turn_back v) ≡ total_of v
total_turn v = omega (arith, abs_neg v.a)

pub ⊗-bound : (z v : Coefficient) (n m : ℕ) → CoordinatesUpTo n z → total_of v ≤ m → CoordinatesUpTo (n * m) (z ⊗ v)
⊗-bound z v n m h k =
    let v1 = turn_back v in let v2 = turn_back v1 in let v3 = turn_back v2 in
    let e0 = total_conjugate v in let e1 = total_conjugate v1 in let e2 = total_conjugate v2 in let e3 = total_conjugate v3 in
    let f1 = total_turn v in let f2 = total_turn v1 in let f3 = total_turn v2 in
    rw (⊗-rows z v) record {
      a = inner_bound z (conjugate v) n m h (at_most _ _ _ e0 k);
      b = inner_bound z (conjugate v1) n m h (at_most _ _ _ (e1 ∙ f1) k);
      c = inner_bound z (conjugate v2) n m h (at_most _ _ _ (e2 ∙ f2 ∙ f1) k);
      d = inner_bound z (conjugate v3) n m h (at_most _ _ _ (e3 ∙ f3 ∙ f2 ∙ f1) k);
    }
  where
    at_most : (x y m : ℕ) → x ≡ y → y ≤ m → x ≤ m
    at_most x y m e h = omega arith

-- ---- the companion of u
-- the coordinates of u are at most its x
own_bound : (a x : ℤ) → (a *ℤ a) ≤ℤ x → unsigned_abs a ≤ unsigned_abs x
own_bound a x h =
    let e = square_abs a in
    let l : unsigned_abs a * unsigned_abs a ≤ unsigned_abs x = omega (arith, ints, e) in
    let k : unsigned_abs a ≤ unsigned_abs a * unsigned_abs a = itself (unsigned_abs a) in
    omega arith
  where
    itself : (n : ℕ) → n ≤ n * n
    itself zero = omega arith
    itself (suc n) = omega arith

pub own_coordinates : (u : Coefficient) → CoordinatesUpTo (unsigned_abs (weight u).x) (conjugate u)
own_coordinates u =
    let p = square_not_negative u.a in let q = square_not_negative u.b in let r = square_not_negative u.c in let s = square_not_negative u.d in
    let fb = abs_neg u.d in let fc = abs_neg u.c in let fd = abs_neg u.b in
    record {
      a = own_bound u.a (weight u).x (omega (arith, order));
      b = turned fb (own_bound u.d (weight u).x (omega (arith, order)));
      c = turned fc (own_bound u.c (weight u).x (omega (arith, order)));
      d = turned fd (own_bound u.b (weight u).x (omega (arith, order)));
    }
  where
    turned : {x y m : ℕ} → x ≡ y → y ≤ m → x ≤ m
    turned e h = omega arith

small_conjugate : (u : Coefficient) → CoordinatesBelow (2 ^ 31) u → CoordinatesUpTo (2 ^ 31) (conjugate u)
small_conjugate u h = record { a = omega (arith, h.a); b = omega (arith, h.d, abs_neg u.d); c = omega (arith, h.c, abs_neg u.c); d = omega (arith, h.b, abs_neg u.b) }

weight_total : (w : Weight) → IsBalanced w → total_of (conjugate_weight w) ≤ 2 * unsigned_abs w.x
weight_total w b = omega (arith, ints, b.high, b.low)

companion_total : (u : Coefficient) (n : ℕ) → CoordinatesUpTo n (companion u) → total_of (companion u) ≤ 4 * n
companion_total u n h = omega (arith, h.a, h.b, h.c, h.d)

-- four times the norm bounds twice the square of x
norm_bound : (u : Coefficient) → IsBalanced (weight u) → pos 0 ≤ℤ norm u → unsigned_abs (weight u).x * (2 * unsigned_abs (weight u).x) ≤ 4 * unsigned_abs (norm u)
norm_bound u b h = go (weight u).x (norm u) h (twice_norm (weight u) b)
  where
    go : (x n : ℤ) → pos 0 ≤ℤ n → (x *ℤ x) ≤ℤ (n +ℤ n) → unsigned_abs x * (2 * unsigned_abs x) ≤ 4 * unsigned_abs n
    go x n h k = let e = square_abs x in let l : unsigned_abs x * unsigned_abs x ≤ 2 * unsigned_abs n = omega (arith, ints, e) in omega arith

pub companion_by_norm : (u : Coefficient) → IsBalanced (weight u) → pos 0 ≤ℤ norm u → CoordinatesUpTo (4 * unsigned_abs (norm u)) (companion u)
companion_by_norm u b h =
    let k = ⊗-bound (conjugate u) (conjugate_weight (weight u)) (unsigned_abs (weight u).x) (2 * unsigned_abs (weight u).x) (own_coordinates u) (weight_total (weight u) b) in
    let l = norm_bound u b h in
    record { a = over (k.a) l; b = over (k.b) l; c = over (k.c) l; d = over (k.d) l }
  where
    over : {x y z : ℕ} → x ≤ y → y ≤ z → x ≤ z
    over p q = omega arith

pub companion_small : (u : Coefficient) → IsBalanced (weight u) → IsSmall u → CoordinatesUpTo (2 ^ 94) (companion u)
companion_small u b s =
    let k = ⊗-bound (conjugate u) (conjugate_weight (weight u)) (2 ^ 31) (2 ^ 63) (small_conjugate u s.coordinates) (below (weight u) b s.x (x_not_negative u)) in
    record { a = omega (arith, k.a); b = omega (arith, k.b); c = omega (arith, k.c); d = omega (arith, k.d) }
  where
    below : (w : Weight) → IsBalanced w → w.x <ℤ pos (2 ^ 62) → pos 0 ≤ℤ w.x → total_of (conjugate_weight w) ≤ 2 ^ 63
    below w b h k = omega (arith, ints, b.high, b.low)

pub product_by_norm : (z u : Coefficient) → CoordinatesBelow (2 ^ 31) z → IsBalanced (weight u) → pos 0 ≤ℤ norm u → CoordinatesUpTo (2 ^ 35 * unsigned_abs (norm u)) (z ⊗ companion u)
product_by_norm z u h b k =
    let v = companion_by_norm u b k in
    let t = ⊗-bound z (companion u) (2 ^ 31) (16 * unsigned_abs (norm u)) record { a = omega (arith, h.a); b = omega (arith, h.b); c = omega (arith, h.c); d = omega (arith, h.d) } (sixteen (total_of (companion u)) (unsigned_abs (norm u)) (companion_total u (4 * unsigned_abs (norm u)) v)) in
    record { a = omega (arith, t.a); b = omega (arith, t.b); c = omega (arith, t.c); d = omega (arith, t.d) }
  where
    sixteen : (x n : ℕ) → x ≤ 4 * (4 * n) → x ≤ 16 * n
    sixteen x n h = omega arith

-- ---- the remainder's weight
companion_weight : (u : Coefficient) → weight (companion u) ≡ record { x = norm u *ℤ (weight u).x; y = neg_ℤ (norm u *ℤ (weight u).y) }
companion_weight u =
    weight-⊗ (conjugate u) (conjugate_weight (weight u))
    ∙ ap (λ (w : Weight). weight_product w (weight (conjugate_weight (weight u)))) (same_weight_conjugate u)
    ∙ of_weight (weight u)
  where
    same_weight_conjugate : (u : Coefficient) → weight (conjugate u) ≡ weight u
    same_weight_conjugate u = let t = quad 0 in equal_pairs (coordinates u []) (weight_quad (conj_quad t)) (weight_quad t) refl refl

    of_weight : (w : Weight) → weight_product w (weight (conjugate_weight w)) ≡ record { x = weight_norm w *ℤ w.x; y = neg_ℤ (weight_norm w *ℤ w.y) }
    of_weight w =
        let t = pair 0 in let n = norm_pair t in
        equal_pairs (w.x ∷ w.y ∷ []) (mul_pair t (weight_quad record { a = t.x; b = minus t.y; c = number (pos 0); d = t.y })) record { x = times n t.x; y = minus (times n t.y) } refl refl

undone : (r w : Weight) → (weight_product (weight_product r record { x = weight_norm w *ℤ w.x; y = neg_ℤ (weight_norm w *ℤ w.y) }) w).x ≡ (weight_norm w *ℤ weight_norm w) *ℤ r.x
undone r w =
    let a = pair 0 in let t = pair 2 in let n = norm_pair t in
    equal (r.x ∷ r.y ∷ w.x ∷ w.y ∷ []) (mul_pair (mul_pair a record { x = times n t.x; y = minus (times n t.y) }) t).x (times (times n n) a.x) refl

-- weights v with y at most x in absolute value, and w balanced
product_x : (v w : Weight) → v.y ≤ℤ v.x → neg_ℤ v.y ≤ℤ v.x → IsBalanced w → (weight_product v w).x ≤ℤ (v.x *ℤ w.x +ℤ v.x *ℤ w.x)
product_x v w h k b =
    let l = b.high in let m = b.low in
    let p = product_not_negative (v.x -ℤ v.y) (w.x +ℤ (w.y +ℤ w.y)) (omega (arith, order)) (omega (arith, order)) in
    let q = product_not_negative (v.x +ℤ v.y) (w.x -ℤ (w.y +ℤ w.y)) (omega (arith, order)) (omega (arith, order)) in
    let e : (v.x -ℤ v.y) *ℤ (w.x +ℤ (w.y +ℤ w.y)) +ℤ (v.x +ℤ v.y) *ℤ (w.x -ℤ (w.y +ℤ w.y)) ≡ pos 2 *ℤ ((v.x *ℤ w.x +ℤ v.x *ℤ w.x) -ℤ (weight_product v w).x) =
    let s = pair 0 in let t = pair 2 in
    equal (v.x ∷ v.y ∷ w.x ∷ w.y ∷ []) (plus (times (less s.x s.y) (plus t.x (plus t.y t.y))) (times (plus s.x s.y) (less t.x (plus t.y t.y)))) (times two (less (plus (times s.x t.x) (times s.x t.x)) (mul_pair s t).x)) refl in
    let f = doubled ((v.x *ℤ w.x +ℤ v.x *ℤ w.x) -ℤ (weight_product v w).x) in
    omega (arith, order)
  where
    doubled : (x : ℤ) → pos 2 *ℤ x ≡ x +ℤ x
    doubled x = equal (x ∷ []) (times two (var 0)) (plus (var 0) (var 0)) refl

half_x : (n : ℤ) (e : Coefficient) → IsHalf n e.a → IsHalf n e.b → IsHalf n e.c → IsHalf n e.d → (weight e).x ≤ℤ (n *ℤ n)
half_x n e ha hb hc hd =
    let a = half_square n e.a ha in let b = half_square n e.b hb in let c = half_square n e.c hc in let d = half_square n e.d hd in
    let fa = fourfold (e.a *ℤ e.a) in let fb = fourfold (e.b *ℤ e.b) in let fc = fourfold (e.c *ℤ e.c) in let fd = fourfold (e.d *ℤ e.d) in
    omega (arith, order)
  where
    fourfold : (t : ℤ) → pos 4 *ℤ t ≡ t +ℤ t +ℤ t +ℤ t
    fourfold t = let x = var 0 in equal (t ∷ []) (times (number (pos 4)) x) (plus (plus (plus x x) x) x) refl

pub remainder_weight : (u r e : Coefficient) → pos 0 <ℤ norm u → IsBalanced (weight u) → r ⊗ companion u ≡ e
    → IsHalf (norm u) e.a → IsHalf (norm u) e.b → IsHalf (norm u) e.c → IsHalf (norm u) e.d → (weight r).x ≤ℤ ((weight u).x +ℤ (weight u).x)
remainder_weight u r e h b f ha hb hc hd =
    let n = norm u in
    let x = (weight u).x in
    let g : weight e ≡ weight_product (weight r) record { x = n *ℤ x; y = neg_ℤ (n *ℤ (weight u).y) } = sym (ap weight f) ∙ weight-⊗ r (companion u) ∙ ap (weight_product (weight r)) (companion_weight u) in
    let k : (weight_product (weight e) (weight u)).x ≡ (n *ℤ n) *ℤ (weight r).x = ap (λ (w : Weight). (weight_product w (weight u)).x) g ∙ undone (weight r) (weight u) in
    let l = y_at_most e in
    let m : (weight_product (weight e) (weight u)).x ≤ℤ ((weight e).x *ℤ x +ℤ (weight e).x *ℤ x) = product_x (weight e) (weight u) (l.0) (l.1) b in
    let o : (x *ℤ (weight e).x) ≤ℤ (x *ℤ (n *ℤ n)) = product_monotone x (weight e).x (n *ℤ n) (x_not_negative u) (half_x n e ha hb hc hd) in
    final x (weight e).x (weight r).x (n *ℤ n) (weight_product (weight e) (weight u)).x (product_positive n n h h) k m o
  where
    final : (x e r m p : ℤ) → pos 0 <ℤ m → p ≡ m *ℤ r → p ≤ℤ (e *ℤ x +ℤ e *ℤ x) → (x *ℤ e) ≤ℤ (x *ℤ m) → r ≤ℤ (x +ℤ x)
    final x e r m p h k l o =
        by_lt_z (x +ℤ x) r
        (λ q. let a = product_positive m (r -ℤ (x +ℤ x)) h (omega (arith, order)) in
        let i : m *ℤ (r -ℤ (x +ℤ x)) ≡ m *ℤ r -ℤ (x *ℤ m +ℤ x *ℤ m) = let xx = var 0 in let rr = var 1 in let mm = var 2 in equal (x ∷ r ∷ m ∷ []) (times mm (less rr (plus xx xx))) (less (times mm rr) (plus (times xx mm) (times xx mm))) refl in
        let j : e *ℤ x ≡ x *ℤ e = equal (e ∷ x ∷ []) (times (var 0) (var 1)) (times (var 1) (var 0)) refl in
        absurd (omega (arith, order)))
        (λ q. q)

-- the product of two coefficients of small coordinates
pub product_within : (z u : Coefficient) → CoordinatesBelow (2 ^ 30) z → CoordinatesBelow (2 ^ 30) u → CoordinatesBelow (2 ^ 62) (z ⊗ u)
product_within z u h k =
    let most : CoordinatesUpTo (2 ^ 30 - 1) z = record { a = omega (arith, h.a); b = omega (arith, h.b); c = omega (arith, h.c); d = omega (arith, h.d) } in
    let b = ⊗-bound z u (2 ^ 30 - 1) (2 ^ 32 - 4) most (omega (arith, k.a, k.b, k.c, k.d)) in
    record { a = omega (arith, b.a); b = omega (arith, b.b); c = omega (arith, b.c); d = omega (arith, b.d) }

-- the difference of two such coefficients
pub difference_within : (z u : Coefficient) → CoordinatesBelow (2 ^ 61) z → CoordinatesBelow (2 ^ 61) u → CoordinatesBelow (2 ^ 63) (z ⊖ u)
difference_within z u h k = record { a = below z.a u.a h.a k.a; b = below z.b u.b h.b k.b; c = below z.c u.c h.c k.c; d = below z.d u.d h.d k.d }
  where
    below : (x y : ℤ) → unsigned_abs x < 2 ^ 61 → unsigned_abs y < 2 ^ 61 → unsigned_abs (x -ℤ y) < 2 ^ 63
    below x y h k = omega (arith, ints)
