-- Products with the powers of w.
use Rattle.std.proofs.Common.{◌≡◌, ℕ, pos, neg_ℤ, refl, sym, ap, ◌∙◌, []}
use Rattle.state_model.specs.Coefficient.{Coefficient, ◌⊗◌, root}
use Rattle.state_model.proofs.Polynomial.{number, minus}
use Rattle.state_model.proofs.Expressions.{quad, mul_quad, equal_quads, coordinates}

-- the power is named in a branch
pub at_power : (z u : Coefficient) (k n : ℕ) → k ≡ n → u ≡ z ⊗ root n → u ≡ z ⊗ root k
at_power z u k n e f = f ∙ ap (λ (m : ℕ). z ⊗ root m) (sym e)

pub root_0 : (z : Coefficient) → record { a = z.a; b = z.b; c = z.c; d = z.d } ≡ z ⊗ root 0
unfolding root
root_0 z =
    let t = quad 0 in
    equal_quads (coordinates z []) record { a = t.a; b = t.b; c = t.c; d = t.d } (mul_quad t record { a = number (pos 1); b = number (pos 0); c = number (pos 0); d = number (pos 0) }) refl refl refl refl

pub root_1 : (z : Coefficient) → record { a = neg_ℤ z.d; b = z.a; c = z.b; d = z.c } ≡ z ⊗ root 1
unfolding root
root_1 z =
    let t = quad 0 in
    equal_quads (coordinates z []) record { a = minus t.d; b = t.a; c = t.b; d = t.c } (mul_quad t record { a = number (pos 0); b = number (pos 1); c = number (pos 0); d = number (pos 0) }) refl refl refl refl

pub root_2 : (z : Coefficient) → record { a = neg_ℤ z.c; b = neg_ℤ z.d; c = z.a; d = z.b } ≡ z ⊗ root 2
unfolding root
root_2 z =
    let t = quad 0 in
    equal_quads (coordinates z []) record { a = minus t.c; b = minus t.d; c = t.a; d = t.b } (mul_quad t record { a = number (pos 0); b = number (pos 0); c = number (pos 1); d = number (pos 0) }) refl refl refl refl

pub root_3 : (z : Coefficient) → record { a = neg_ℤ z.b; b = neg_ℤ z.c; c = neg_ℤ z.d; d = z.a } ≡ z ⊗ root 3
unfolding root
root_3 z =
    let t = quad 0 in
    equal_quads (coordinates z []) record { a = minus t.b; b = minus t.c; c = minus t.d; d = t.a } (mul_quad t record { a = number (pos 0); b = number (pos 0); c = number (pos 0); d = number (pos 1) }) refl refl refl refl

pub root_4 : (z : Coefficient) → record { a = neg_ℤ z.a; b = neg_ℤ z.b; c = neg_ℤ z.c; d = neg_ℤ z.d } ≡ z ⊗ root 4
unfolding root
root_4 z =
    let t = quad 0 in
    equal_quads (coordinates z []) record { a = minus t.a; b = minus t.b; c = minus t.c; d = minus t.d } (mul_quad t record { a = number (neg_ℤ (pos 1)); b = number (pos 0); c = number (pos 0); d = number (pos 0) }) refl refl refl refl

pub root_5 : (z : Coefficient) → record { a = z.d; b = neg_ℤ z.a; c = neg_ℤ z.b; d = neg_ℤ z.c } ≡ z ⊗ root 5
unfolding root
root_5 z =
    let t = quad 0 in
    equal_quads (coordinates z []) record { a = t.d; b = minus t.a; c = minus t.b; d = minus t.c } (mul_quad t record { a = number (pos 0); b = number (neg_ℤ (pos 1)); c = number (pos 0); d = number (pos 0) }) refl refl refl refl

pub root_6 : (z : Coefficient) → record { a = z.c; b = z.d; c = neg_ℤ z.a; d = neg_ℤ z.b } ≡ z ⊗ root 6
unfolding root
root_6 z =
    let t = quad 0 in
    equal_quads (coordinates z []) record { a = t.c; b = t.d; c = minus t.a; d = minus t.b } (mul_quad t record { a = number (pos 0); b = number (pos 0); c = number (neg_ℤ (pos 1)); d = number (pos 0) }) refl refl refl refl

pub root_7 : (z : Coefficient) → record { a = z.b; b = z.c; c = z.d; d = neg_ℤ z.a } ≡ z ⊗ root 7
unfolding root
root_7 z =
    let t = quad 0 in
    equal_quads (coordinates z []) record { a = t.b; b = t.c; c = t.d; d = minus t.a } (mul_quad t record { a = number (pos 0); b = number (pos 0); c = number (pos 0); d = number (neg_ℤ (pos 1)) }) refl refl refl refl
