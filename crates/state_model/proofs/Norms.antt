-- Weights and norms are multiplicative, those of coefficients other than zero are positive, and a balanced weight is the least among its multiples.
use Rattle.std.proofs.Common.{◌≡◌, ◌≢◌, ℕ, ◌*◌, ℤ, pos, ◌+ℤ◌, ◌-ℤ◌, ◌*ℤ◌, neg_ℤ, ◌≤ℤ◌, ◌<ℤ◌, nat_abs, refl, sym, ap, ◌∙◌, arith, [], ◌∷◌}
use Rattle.std.proofs.lemmas.Int.{by_lt_z}
use borrow.Author.Differences.{at_most_in}
use Rattle.state_model.specs.Coefficient.{Coefficient, zero_coefficient, ◌⊗◌, Weight, weight}
use Rattle.state_model.specs.Divisors.{weight_product, weight_norm, norm}
use Rattle.state_model.proofs.Domain.{root_two, square_abs}
use Rattle.state_model.proofs.Ring.{same_coordinates}
use Rattle.state_model.proofs.Polynomial.{var, number, plus, times, less, square, two, equal}
use Rattle.state_model.proofs.Expressions.{quad, pair, mul_quad, weight_quad, norm_pair, mul_pair, equal_pairs, coordinates}
use Rattle.state_model.proofs.Inequalities.{order, doubled, four_squares, square_not_negative, product_not_negative, zero_of_square}

pub weight-⊗ : (z u : Coefficient) → weight (z ⊗ u) ≡ weight_product (weight z) (weight u)
weight-⊗ z u =
    let s = quad 0 in let t = quad 4 in
    equal_pairs (coordinates z (coordinates u [])) (weight_quad (mul_quad s t)) (mul_pair (weight_quad s) (weight_quad t)) refl refl

pub weight_norm-product : (v w : Weight) → weight_norm (weight_product v w) ≡ weight_norm v *ℤ weight_norm w
weight_norm-product v w =
    let s = pair 0 in let t = pair 2 in
    equal (v.x ∷ v.y ∷ w.x ∷ w.y ∷ []) (norm_pair (mul_pair s t)) (times (norm_pair s) (norm_pair t)) refl

pub norm-⊗ : (z u : Coefficient) → norm (z ⊗ u) ≡ norm z *ℤ norm u
norm-⊗ z u = ap weight_norm (weight-⊗ z u) ∙ weight_norm-product (weight z) (weight u)

weight_less : (a b c d : ℤ) → pos 2 *ℤ ((a *ℤ a +ℤ b *ℤ b +ℤ c *ℤ c +ℤ d *ℤ d) -ℤ (a *ℤ b +ℤ b *ℤ c +ℤ c *ℤ d -ℤ d *ℤ a)) ≡ (a -ℤ b) *ℤ (a -ℤ b) +ℤ (b -ℤ c) *ℤ (b -ℤ c) +ℤ (c -ℤ d) *ℤ (c -ℤ d) +ℤ (d +ℤ a) *ℤ (d +ℤ a)
weight_less a b c d =
    let z = quad 0 in let v = weight_quad z in
    equal (a ∷ b ∷ c ∷ d ∷ []) (times two (less v.x v.y)) (plus (plus (plus (square (less z.a z.b)) (square (less z.b z.c))) (square (less z.c z.d))) (square (plus z.d z.a))) refl

weight_more : (a b c d : ℤ) → pos 2 *ℤ ((a *ℤ a +ℤ b *ℤ b +ℤ c *ℤ c +ℤ d *ℤ d) +ℤ (a *ℤ b +ℤ b *ℤ c +ℤ c *ℤ d -ℤ d *ℤ a)) ≡ (a +ℤ b) *ℤ (a +ℤ b) +ℤ (b +ℤ c) *ℤ (b +ℤ c) +ℤ (c +ℤ d) *ℤ (c +ℤ d) +ℤ (d -ℤ a) *ℤ (d -ℤ a)
weight_more a b c d =
    let z = quad 0 in let v = weight_quad z in
    equal (a ∷ b ∷ c ∷ d ∷ []) (times two (plus v.x v.y)) (plus (plus (plus (square (plus z.a z.b)) (square (plus z.b z.c))) (square (plus z.c z.d))) (square (less z.d z.a))) refl

pub weight_below : (z : Coefficient) → z ≢ zero_coefficient → (weight z).y <ℤ (weight z).x
weight_below z h = by_lt_z _ _ (λ p. p) (λ l. absurd (h (none l)))
  where
    none : (weight z).x ≤ℤ (weight z).y → z ≡ zero_coefficient
    none l =
        let e = weight_less z.a z.b z.c z.d in
        let f = doubled ((weight z).x -ℤ (weight z).y) in
        let k = four_squares (z.a -ℤ z.b) (z.b -ℤ z.c) (z.c -ℤ z.d) (z.d +ℤ z.a) (omega (arith, order)) in
        same_coordinates z zero_coefficient (omega (arith, order)) (omega (arith, order)) (omega (arith, order)) (omega (arith, order))

pub weight_above : (z : Coefficient) → z ≢ zero_coefficient → neg_ℤ (weight z).y <ℤ (weight z).x
weight_above z h = by_lt_z _ _ (λ p. p) (λ l. absurd (h (none l)))
  where
    none : (weight z).x ≤ℤ neg_ℤ (weight z).y → z ≡ zero_coefficient
    none l =
        let e = weight_more z.a z.b z.c z.d in
        let f = doubled ((weight z).x +ℤ (weight z).y) in
        let k = four_squares (z.a +ℤ z.b) (z.b +ℤ z.c) (z.c +ℤ z.d) (z.d -ℤ z.a) (omega (arith, order)) in
        same_coordinates z zero_coefficient (omega (arith, order)) (omega (arith, order)) (omega (arith, order)) (omega (arith, order))

-- a weight with twice the absolute value of y at most x has the least x of all its multiples by weights with p above the absolute value of q
pub balanced_least : (v w : Weight) → (v.y +ℤ v.y) ≤ℤ v.x → neg_ℤ (v.y +ℤ v.y) ≤ℤ v.x → w.y <ℤ w.x → neg_ℤ w.y <ℤ w.x → v.x ≤ℤ (weight_product v w).x
balanced_least v w h k m n =
    let s = product_not_negative (v.x +ℤ (v.y +ℤ v.y)) (w.x -ℤ pos 1 +ℤ w.y) (omega (arith, order)) (omega (arith, order)) in
    let t = product_not_negative (v.x -ℤ (v.y +ℤ v.y)) (w.x -ℤ pos 1 -ℤ w.y) (omega (arith, order)) (omega (arith, order)) in
    let e : (v.x +ℤ (v.y +ℤ v.y)) *ℤ (w.x -ℤ pos 1 +ℤ w.y) +ℤ (v.x -ℤ (v.y +ℤ v.y)) *ℤ (w.x -ℤ pos 1 -ℤ w.y) ≡ pos 2 *ℤ ((weight_product v w).x -ℤ v.x) =
    let x = var 0 in let y = var 1 in let p = var 2 in let q = var 3 in let one = number (pos 1) in
    equal (v.x ∷ v.y ∷ w.x ∷ w.y ∷ []) (plus (times (plus x (plus y y)) (plus (less p one) q)) (times (less x (plus y y)) (less (less p one) q))) (times two (less ((mul_pair (pair 0) (pair 2)).x) x)) refl in
    let f = doubled ((weight_product v w).x -ℤ v.x) in
    omega (arith, order)

-- ---- norms
norm_squares : (z : Coefficient) → norm z ≡ (z.a *ℤ z.a -ℤ z.c *ℤ z.c +ℤ pos 2 *ℤ (z.b *ℤ z.d)) *ℤ (z.a *ℤ z.a -ℤ z.c *ℤ z.c +ℤ pos 2 *ℤ (z.b *ℤ z.d)) +ℤ (pos 2 *ℤ (z.a *ℤ z.c) -ℤ z.b *ℤ z.b +ℤ z.d *ℤ z.d) *ℤ (pos 2 *ℤ (z.a *ℤ z.c) -ℤ z.b *ℤ z.b +ℤ z.d *ℤ z.d)
norm_squares z =
    let q = quad 0 in
    let s = plus (less (square q.a) (square q.c)) (times two (times q.b q.d)) in
    let t = plus (less (times two (times q.a q.c)) (square q.b)) (square q.d) in
    equal (coordinates z []) (norm_pair (weight_quad q)) (plus (square s) (square t)) refl

pub norm_not_negative : (z : Coefficient) → pos 0 ≤ℤ norm z
norm_not_negative z =
    let e = norm_squares z in
    let s = square_not_negative (z.a *ℤ z.a -ℤ z.c *ℤ z.c +ℤ pos 2 *ℤ (z.b *ℤ z.d)) in
    let t = square_not_negative (pos 2 *ℤ (z.a *ℤ z.c) -ℤ z.b *ℤ z.b +ℤ z.d *ℤ z.d) in
    omega (arith, order)

-- x and y whose squares are 2 to 1 are 0
pub weight_norm_zero : (v : Weight) → weight_norm v ≡ pos 0 → v.x ≡ pos 0
weight_norm_zero v h =
    let e : v.x *ℤ v.x ≡ pos 2 *ℤ (v.y *ℤ v.y) = omega (arith, order) in
    let m = nat_abs v.x in
    let n = nat_abs v.y in
    let f : pos (m * m) ≡ pos (2 * (n * n)) = sym (square_abs v.x) ∙ e ∙ ap (λ (t : ℤ). pos 2 *ℤ t) (square_abs v.y) in
    let g : m * m ≡ 2 * (n * n) = cc f in
    let z : m ≡ 0 = root_two m m n (omega arith) g in
    zero_of_square v.x (rw (square_abs v.x) (let k : m * m ≡ 0 = ap (λ (t : ℕ). t * t) z in at_most_in (pos (m * m)) (pos 0) (omega (arith, k))))

pub norm_positive : (z : Coefficient) → z ≢ zero_coefficient → pos 0 <ℤ norm z
norm_positive z h = by_lt_z (pos 0) (norm z) (λ p. p) (λ l. absurd (none l))
  where
    none : norm z ≤ℤ pos 0 → ⊥
    none l =
        let k = norm_not_negative z in
        let e : (weight z).x ≡ pos 0 = weight_norm_zero (weight z) (omega (arith, order)) in
        let b = weight_below z h in
        let a = weight_above z h in
        omega (arith, order)
