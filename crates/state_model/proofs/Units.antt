-- Products with the units √2 + 1 and √2 - 1: weights, divisors and norms.
use Rattle.std.proofs.Common.{◌≡◌, ◌<◌, ℤ, pos, ◌+ℤ◌, ◌-ℤ◌, ◌*ℤ◌, neg_ℤ, ◌≤ℤ◌, ◌<ℤ◌, nat_abs, refl, ap, ◌∙◌, arith, [], ◌∷◌}
use borrow.Author.Differences.{ints}
use Rattle.state_model.specs.Coefficient.{Coefficient, ◌⊗◌, weight}
use Rattle.state_model.specs.Divisors.{norm, unit_up, unit_down}
use Rattle.state_model.specs.Quotients.{IsAssociate}
use Rattle.state_model.proofs.Ring.{⊗_comm}
use Rattle.state_model.proofs.Polynomial.{var, number, plus, times, less, square, two, equal}
use Rattle.state_model.proofs.Expressions.{Quad, quad, mul_quad, weight_quad, equal_quads, coordinates}
use Rattle.state_model.proofs.Inequalities.{order, doubled, square_not_negative}
use Rattle.state_model.proofs.Norms.{norm-⊗}
use Rattle.state_model.proofs.Euclid.{divides_trans}

pub x_not_negative : (z : Coefficient) → pos 0 ≤ℤ (weight z).x
x_not_negative z =
    let p = square_not_negative z.a in let q = square_not_negative z.b in let r = square_not_negative z.c in let s = square_not_negative z.d in
    omega (arith, order)

pub y_at_most : (z : Coefficient) → ((weight z).y ≤ℤ (weight z).x) × (neg_ℤ (weight z).y ≤ℤ (weight z).x)
y_at_most z = (high z, low z)
  where
    high : (z : Coefficient) → (weight z).y ≤ℤ (weight z).x
    high z =
        let t = quad 0 in let v = weight_quad t in
        let e : pos 2 *ℤ ((weight z).x -ℤ (weight z).y) ≡ (z.a -ℤ z.b) *ℤ (z.a -ℤ z.b) +ℤ (z.b -ℤ z.c) *ℤ (z.b -ℤ z.c) +ℤ (z.c -ℤ z.d) *ℤ (z.c -ℤ z.d) +ℤ (z.d +ℤ z.a) *ℤ (z.d +ℤ z.a) =
        equal (coordinates z []) (times two (less v.x v.y)) (plus (plus (plus (square (less t.a t.b)) (square (less t.b t.c))) (square (less t.c t.d))) (square (plus t.d t.a))) refl in
        let f = doubled ((weight z).x -ℤ (weight z).y) in
        let p = square_not_negative (z.a -ℤ z.b) in let q = square_not_negative (z.b -ℤ z.c) in let r = square_not_negative (z.c -ℤ z.d) in let s = square_not_negative (z.d +ℤ z.a) in
        omega (arith, order)

    low : (z : Coefficient) → neg_ℤ (weight z).y ≤ℤ (weight z).x
    low z =
        let t = quad 0 in let v = weight_quad t in
        let e : pos 2 *ℤ ((weight z).x +ℤ (weight z).y) ≡ (z.a +ℤ z.b) *ℤ (z.a +ℤ z.b) +ℤ (z.b +ℤ z.c) *ℤ (z.b +ℤ z.c) +ℤ (z.c +ℤ z.d) *ℤ (z.c +ℤ z.d) +ℤ (z.d -ℤ z.a) *ℤ (z.d -ℤ z.a) =
        equal (coordinates z []) (times two (plus v.x v.y)) (plus (plus (plus (square (plus t.a t.b)) (square (plus t.b t.c))) (square (plus t.c t.d))) (square (less t.d t.a))) refl in
        let f = doubled ((weight z).x +ℤ (weight z).y) in
        let p = square_not_negative (z.a +ℤ z.b) in let q = square_not_negative (z.b +ℤ z.c) in let r = square_not_negative (z.c +ℤ z.d) in let s = square_not_negative (z.d -ℤ z.a) in
        omega (arith, order)

-- ---- the two units
abbrev up_quad : Quad
up_quad = record { a = number (pos 1); b = number (pos 1); c = number (pos 0); d = number (neg_ℤ (pos 1)) }

abbrev down_quad : Quad
down_quad = record { a = number (neg_ℤ (pos 1)); b = number (pos 1); c = number (pos 0); d = number (neg_ℤ (pos 1)) }

down_x : (z : Coefficient) → (weight (z ⊗ unit_down)).x ≡ ((weight z).x +ℤ (weight z).x +ℤ (weight z).x) -ℤ ((weight z).y +ℤ (weight z).y +ℤ (weight z).y +ℤ (weight z).y)
down_x z = let t = quad 0 in let v = weight_quad t in equal (coordinates z []) (weight_quad (mul_quad t down_quad)).x (less (plus (plus v.x v.x) v.x) (plus (plus (plus v.y v.y) v.y) v.y)) refl

up_x : (z : Coefficient) → (weight (z ⊗ unit_up)).x ≡ ((weight z).x +ℤ (weight z).x +ℤ (weight z).x) +ℤ ((weight z).y +ℤ (weight z).y +ℤ (weight z).y +ℤ (weight z).y)
up_x z = let t = quad 0 in let v = weight_quad t in equal (coordinates z []) (weight_quad (mul_quad t up_quad)).x (plus (plus (plus v.x v.x) v.x) (plus (plus (plus v.y v.y) v.y) v.y)) refl

-- a product r with a unit by which the x falls
pub record IsStep (z r : Coefficient) : Type 0 where
  pub smaller : (weight r).x <ℤ (weight z).x
  pub falls : nat_abs (weight r).x < nat_abs (weight z).x
  pub associate : IsAssociate r z
  pub same_norm : norm r ≡ norm z

fall : (x y : ℤ) → pos 0 ≤ℤ x → x <ℤ y → nat_abs x < nat_abs y
fall x y h k = omega (arith, ints)

back_down : (z : Coefficient) → z ≡ unit_up ⊗ (z ⊗ unit_down)
back_down z = let t = quad 0 in equal_quads (coordinates z []) t (mul_quad up_quad (mul_quad t down_quad)) refl refl refl refl

back_up : (z : Coefficient) → z ≡ unit_down ⊗ (z ⊗ unit_up)
back_up z = let t = quad 0 in equal_quads (coordinates z []) t (mul_quad down_quad (mul_quad t up_quad)) refl refl refl refl

times_one : (n : ℤ) → n *ℤ pos 1 ≡ n
times_one n = equal (n ∷ []) (times (var 0) (number (pos 1))) (var 0) refl

-- a product by which the x falls, with a unit whose inverse and norm are told
step_at : (z u back : Coefficient) → z ≡ back ⊗ (z ⊗ u) → norm u ≡ pos 1 → (weight (z ⊗ u)).x <ℤ (weight z).x → IsStep z (z ⊗ u)
step_at z u back e n l = record {
  smaller = l;
  falls = fall (weight (z ⊗ u)).x (weight z).x (x_not_negative (z ⊗ u)) l;
  associate = ((back, e), (u, ⊗_comm z u));
  same_norm = norm-⊗ z u ∙ ap (λ (t : ℤ). norm z *ℤ t) n ∙ times_one (norm z);
}

pub step_down : (z r : Coefficient) → r ≡ z ⊗ unit_down → (weight z).x <ℤ ((weight z).y +ℤ (weight z).y) → IsStep z r
step_down z r e h = let f = down_x z in rw e (step_at z unit_down unit_up (back_down z) refl (omega (arith, order)))

pub step_up : (z r : Coefficient) → r ≡ z ⊗ unit_up → (weight z).x <ℤ neg_ℤ ((weight z).y +ℤ (weight z).y) → IsStep z r
step_up z r e h = let f = up_x z in rw e (step_at z unit_up unit_down (back_up z) refl (omega (arith, order)))

pub associate_trans : (a b c : Coefficient) → IsAssociate a b → IsAssociate b c → IsAssociate a c
associate_trans a b c p q = (divides_trans a b c (p.0) (q.0), divides_trans c b a (q.1) (p.1))
