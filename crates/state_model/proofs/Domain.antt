-- A product of coefficients is zero only where a factor is.
use Prim.Native.Nat.{zero, suc}
use Rattle.std.proofs.Common.{◌≡◌, ◌≢◌, ℕ, ◌+◌, ◌*◌, ◌/◌, ◌%◌, ◌<◌, ◌≤◌, ℤ, pos, negsuc, ◌+ℤ◌, ◌-ℤ◌, ◌*ℤ◌, neg_ℤ, nat_abs, refl, sym, ap, ◌∙◌, arith, div-add-mod', mod-lt, zero-lt-suc}
use borrow.Author.Differences.{down, ints, product_is}
use Rattle.state_model.specs.Coefficient.{Coefficient, coefficient, zero_coefficient, ◌⊗◌, conjugate, squares, weight}
use Rattle.state_model.proofs.Integers.{expand}
use Rattle.state_model.proofs.Ring.{same_coordinates, ⊗_comm, ⊗_assoc}

-- x + y √2 as a coefficient
unfoldable pub real : ℤ → ℤ → Coefficient
real x y = record { a = x; b = y; c = pos 0; d = neg_ℤ y }

-- a whole number as a coefficient
unfoldable pub whole : ℤ → Coefficient
whole n = record { a = n; b = pos 0; c = pos 0; d = pos 0 }

unfoldable pub norm : ℤ → ℤ → ℤ
norm x y = x *ℤ x -ℤ (y *ℤ y +ℤ y *ℤ y)

-- the product with the conjugate is the weight
pub ⊗-conjugate : (z : Coefficient) → z ⊗ conjugate z ≡ real ((weight z).x) ((weight z).y)
unfolding real
⊗-conjugate z = same_coordinates _ _
    (simp expand (omega (arith, ints)))
    (simp expand (omega (arith, ints)))
    (simp expand (omega (arith, ints)))
    (simp expand (omega (arith, ints)))

-- the product with the other root of 2 is the norm
pub real-norm : (x y : ℤ) → real x y ⊗ real x (neg_ℤ y) ≡ whole (norm x y)
unfolding real whole norm
real-norm x y = same_coordinates _ _
    (simp expand (omega (arith, ints)))
    (simp expand (omega (arith, ints)))
    (simp expand (omega (arith, ints)))
    (simp expand (omega (arith, ints)))

pub whole-⊗ : (n : ℤ) (z : Coefficient) → whole n ⊗ z ≡ coefficient (n *ℤ z.a) (n *ℤ z.b) (n *ℤ z.c) (n *ℤ z.d)
unfolding whole
whole-⊗ n z = same_coordinates _ _ (omega (arith, ints)) (omega (arith, ints)) (omega (arith, ints)) (omega (arith, ints))

-- each coefficient has a multiple that is a whole number, its norm
pub cofactor : Coefficient → Coefficient
cofactor z = conjugate z ⊗ real ((weight z).x) (neg_ℤ ((weight z).y))

unfoldable pub norm_of : Coefficient → ℤ
norm_of z = norm ((weight z).x) ((weight z).y)

pub ⊗-cofactor : (z : Coefficient) → z ⊗ cofactor z ≡ whole (norm_of z)
unfolding cofactor norm_of
⊗-cofactor z = sym (⊗_assoc z (conjugate z) (real ((weight z).x) (neg_ℤ ((weight z).y)))) ∙ ap (λ t. t ⊗ real ((weight z).x) (neg_ℤ ((weight z).y))) (⊗-conjugate z) ∙ real-norm ((weight z).x) ((weight z).y)

-- a square that is twice a square is 0
pub root_two : (k n m : ℕ) → n ≤ k → n * n ≡ 2 * (m * m) → n ≡ 0
root_two zero n m h e = omega arith
root_two (suc k) n m h e = by (λ c d. root_two k c d) (n % 2) (m % 2) (n / 2) (m / 2) (mod-lt n (zero-lt-suc 1)) (mod-lt m (zero-lt-suc 1)) (omega (arith, div-add-mod' n 2)) (omega (arith, div-add-mod' m 2))
  where
    by : ((c d : ℕ) → c ≤ k → c * c ≡ 2 * (d * d) → c ≡ 0) → (r l c d : ℕ) → r < 2 → l < 2 → n ≡ 2 * c + r → m ≡ 2 * d + l → n ≡ 0
    by again zero zero c d f g p q =
        let nn = ap (λ x. x * x) p in
        let mm = ap (λ x. x * x) q in
        let half : c ≡ 0 = again c d (omega arith) (omega arith) in
        omega arith
    by again zero (suc zero) c d f g p q =
        let nn = ap (λ x. x * x) p in
        let mm = ap (λ x. x * x) q in
        absurd (omega arith)
    by again zero (suc (suc l)) c d f g p q = absurd (omega arith)
    by again (suc zero) l c d f g p q =
        let nn = ap (λ x. x * x) p in
        absurd (omega arith)
    by again (suc (suc r)) l c d f g p q = absurd (omega arith)

-- a square of a whole number is that of its absolute value
pub square_abs : (a : ℤ) → a *ℤ a ≡ pos (nat_abs a * nat_abs a)
square_abs (pos n) = refl
square_abs (negsuc n) = refl

-- the whole part of a weight is the sum of squares
pub square_sum : (z : Coefficient) → (weight z).x ≡ pos (squares z)
unfolding squares
square_sum z =
    let p = square_abs z.a in
    let q = square_abs z.b in
    let r = square_abs z.c in
    let s = square_abs z.d in
    omega (arith, ints)

abs_zero : (a : ℤ) → nat_abs a * nat_abs a ≡ 0 → a ≡ pos 0
abs_zero (pos zero) e = refl
abs_zero (pos (suc n)) e = absurd (grind arith)
abs_zero (negsuc n) e = absurd (grind arith)

-- only zero has no squares
pub no_squares : (z : Coefficient) → squares z ≡ 0 → z ≡ zero_coefficient
unfolding squares
no_squares z e = same_coordinates _ _ (abs_zero z.a (omega arith)) (abs_zero z.b (omega arith)) (abs_zero z.c (omega arith)) (abs_zero z.d (omega arith))

-- the norm of √2-numbers is 0 only at 0
pub norm_zero : (x y : ℤ) → norm x y ≡ pos 0 → nat_abs x ≡ 0
unfolding norm
norm_zero x y e =
    let p = square_abs x in
    let q = square_abs y in
    root_two (nat_abs x) (nat_abs x) (nat_abs y) (omega arith) (omega (arith, ints))

-- a coefficient of norm 0 is zero
pub norm_of-zero : (z : Coefficient) → norm_of z ≡ pos 0 → z ≡ zero_coefficient
unfolding norm_of
norm_of-zero z e = no_squares z (sym (ap nat_abs (square_sum z)) ∙ norm_zero ((weight z).x) ((weight z).y) e)

ℤ_times_zero : (n a : ℤ) → n ≢ pos 0 → n *ℤ a ≡ pos 0 → a ≡ pos 0
ℤ_times_zero (pos zero) a h e = absurd (h refl)
ℤ_times_zero (pos (suc n)) (pos zero) h e = refl
ℤ_times_zero (pos (suc n)) (pos (suc a)) h e = absurd (let p : suc n * suc a ≡ 0 = ap nat_abs e in grind arith)
ℤ_times_zero (pos (suc n)) (negsuc a) h e = absurd (let p = product_is (pos (suc n)) (negsuc a) in let q = ap down e in grind arith)
ℤ_times_zero (negsuc n) (pos zero) h e = refl
ℤ_times_zero (negsuc n) (pos (suc a)) h e = absurd (let p = product_is (negsuc n) (pos (suc a)) in let q = ap down e in grind arith)
ℤ_times_zero (negsuc n) (negsuc a) h e = absurd (let p : suc n * suc a ≡ 0 = ap nat_abs e in grind arith)

pub ⊗-zero_coefficient : (z : Coefficient) → z ⊗ zero_coefficient ≡ zero_coefficient
⊗-zero_coefficient z = same_coordinates _ _ (omega (arith, ints)) (omega (arith, ints)) (omega (arith, ints)) (omega (arith, ints))

pub zero_coefficient-⊗ : (z : Coefficient) → zero_coefficient ⊗ z ≡ zero_coefficient
zero_coefficient-⊗ z = ⊗_comm zero_coefficient z ∙ ⊗-zero_coefficient z

-- a multiple by a whole number other than 0 is zero only for zero
whole_times_zero : (n : ℤ) (z : Coefficient) → n ≢ pos 0 → coefficient (n *ℤ z.a) (n *ℤ z.b) (n *ℤ z.c) (n *ℤ z.d) ≡ zero_coefficient → z ≡ zero_coefficient
whole_times_zero n z some at = same_coordinates _ _ (ℤ_times_zero n z.a some (ap (λ t. t.a) at)) (ℤ_times_zero n z.b some (ap (λ t. t.b) at)) (ℤ_times_zero n z.c some (ap (λ t. t.c) at)) (ℤ_times_zero n z.d some (ap (λ t. t.d) at))

-- no zero divisors
pub ⊗-domain : (y z : Coefficient) → y ≢ zero_coefficient → y ⊗ z ≡ zero_coefficient → z ≡ zero_coefficient
⊗-domain y z h e =
    let n = norm_of y in
    let some : n ≢ pos 0 = λ is. h (norm_of-zero y is) in
    let times : whole n ⊗ z ≡ zero_coefficient =
    ap (λ t. t ⊗ z) (sym (⊗-cofactor y)) ∙ ap (λ t. t ⊗ z) (⊗_comm y (cofactor y)) ∙ ⊗_assoc (cofactor y) y z ∙ ap (λ t. cofactor y ⊗ t) e ∙ ⊗-zero_coefficient (cofactor y) in
    let at = sym (whole-⊗ n z) ∙ times in
    whole_times_zero n z some at
