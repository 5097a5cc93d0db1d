-- Products with 1 - w, 1 + w and the units √2 + 1 and √2 - 1, coordinate by coordinate, and when 1 - w divides.
use Rattle.std.proofs.Common.{◌≡◌, ℤ, pos, ◌+ℤ◌, ◌-ℤ◌, neg_ℤ, refl, sym, ap, ◌∙◌, arith, [], ◌∷◌}
use Rattle.state_model.specs.Coefficient.{Coefficient, ◌⊗◌, Weight}
use Rattle.state_model.specs.Divisors.{Divides, weight_product, delta, delta_conjugate, both_deltas, unit_up, unit_down}
use Rattle.state_model.specs.Quotients.{IsEven}
use Rattle.state_model.proofs.Ring.{same_coordinates}
use Rattle.state_model.proofs.Polynomial.{Term, number, plus, minus, less}
use Rattle.state_model.proofs.Expressions.{quad, pair, mul_quad, mul_pair, equal_quads, equal_pairs, coordinates}
use Rattle.state_model.proofs.Inequalities.{order}

abbrev one : Term
one = number (pos 1)

abbrev nought : Term
nought = number (pos 0)

pub ⊗-delta : (q : Coefficient) → q ⊗ delta ≡ record { a = q.a +ℤ q.d; b = q.b -ℤ q.a; c = q.c -ℤ q.b; d = q.d -ℤ q.c }
⊗-delta q =
    let z = quad 0 in
    equal_quads (coordinates q []) (mul_quad z record { a = one; b = minus one; c = nought; d = nought }) record { a = plus z.a z.d; b = less z.b z.a; c = less z.c z.b; d = less z.d z.c } refl refl refl refl

pub ⊗-delta_conjugate : (q : Coefficient) → q ⊗ delta_conjugate ≡ record { a = q.a -ℤ q.d; b = q.b +ℤ q.a; c = q.c +ℤ q.b; d = q.d +ℤ q.c }
⊗-delta_conjugate q =
    let z = quad 0 in
    equal_quads (coordinates q []) (mul_quad z record { a = one; b = one; c = nought; d = nought }) record { a = less z.a z.d; b = plus z.b z.a; c = plus z.c z.b; d = plus z.d z.c } refl refl refl refl

pub ⊗-both_deltas : (q : Coefficient) → q ⊗ both_deltas ≡ record { a = q.a +ℤ q.c; b = q.b +ℤ q.d; c = q.c -ℤ q.a; d = q.d -ℤ q.b }
⊗-both_deltas q =
    let z = quad 0 in
    equal_quads (coordinates q []) (mul_quad z record { a = one; b = nought; c = minus one; d = nought }) record { a = plus z.a z.c; b = plus z.b z.d; c = less z.c z.a; d = less z.d z.b } refl refl refl refl

pub ⊗-unit_up : (z : Coefficient) → z ⊗ unit_up ≡ record { a = z.a +ℤ z.b -ℤ z.d; b = z.a +ℤ z.b +ℤ z.c; c = z.b +ℤ z.c +ℤ z.d; d = z.c +ℤ z.d -ℤ z.a }
⊗-unit_up z =
    let t = quad 0 in
    equal_quads (coordinates z []) (mul_quad t record { a = one; b = one; c = nought; d = minus one })
    record { a = less (plus t.a t.b) t.d; b = plus (plus t.a t.b) t.c; c = plus (plus t.b t.c) t.d; d = less (plus t.c t.d) t.a } refl refl refl refl

pub ⊗-unit_down : (z : Coefficient) → z ⊗ unit_down ≡ record { a = z.b -ℤ z.a -ℤ z.d; b = z.a -ℤ z.b +ℤ z.c; c = z.b -ℤ z.c +ℤ z.d; d = z.c -ℤ z.a -ℤ z.d }
⊗-unit_down z =
    let t = quad 0 in
    equal_quads (coordinates z []) (mul_quad t record { a = minus one; b = one; c = nought; d = minus one })
    record { a = less (less t.b t.a) t.d; b = plus (less t.a t.b) t.c; c = plus (less t.b t.c) t.d; d = less (less t.c t.a) t.d } refl refl refl refl

-- ---- weights times those of 1 - w^2, 1 + w and 1 - w
pub product-both : (v : Weight) → weight_product v record { x = pos 2; y = pos 0 } ≡ record { x = v.x +ℤ v.x; y = v.y +ℤ v.y }
product-both v =
    let t = pair 0 in
    equal_pairs (v.x ∷ v.y ∷ []) (mul_pair t record { x = number (pos 2); y = nought }) record { x = plus t.x t.x; y = plus t.y t.y } refl refl

pub product-conjugate : (v : Weight) → weight_product v record { x = pos 2; y = pos 1 } ≡ record { x = v.x +ℤ v.x +ℤ v.y +ℤ v.y; y = v.x +ℤ v.y +ℤ v.y }
product-conjugate v =
    let t = pair 0 in
    equal_pairs (v.x ∷ v.y ∷ []) (mul_pair t record { x = number (pos 2); y = one }) record { x = plus (plus (plus t.x t.x) t.y) t.y; y = plus (plus t.x t.y) t.y } refl refl

pub product-delta : (v : Weight) → weight_product v record { x = pos 2; y = neg_ℤ (pos 1) } ≡ record { x = v.x +ℤ v.x -ℤ v.y -ℤ v.y; y = v.y +ℤ v.y -ℤ v.x }
product-delta v =
    let t = pair 0 in
    equal_pairs (v.x ∷ v.y ∷ []) (mul_pair t record { x = number (pos 2); y = minus one }) record { x = less (less (plus t.x t.x) t.y) t.y; y = less (plus t.y t.y) t.x } refl refl

-- ---- divisors
-- 1 - w divides exactly where the sum of the coordinates is even
pub even_from_divides : (z : Coefficient) → Divides delta z → IsEven (z.a +ℤ z.b +ℤ z.c +ℤ z.d)
even_from_divides z (q, e) = (q.d, go (e ∙ ⊗-delta q))
  where
    go : z ≡ record { a = q.a +ℤ q.d; b = q.b -ℤ q.a; c = q.c -ℤ q.b; d = q.d -ℤ q.c } → z.a +ℤ z.b +ℤ z.c +ℤ z.d ≡ q.d +ℤ q.d
    go f =
        let a : z.a ≡ q.a +ℤ q.d = λ i. (f i).a in
        let b : z.b ≡ q.b -ℤ q.a = λ i. (f i).b in
        let c : z.c ≡ q.c -ℤ q.b = λ i. (f i).c in
        let d : z.d ≡ q.d -ℤ q.c = λ i. (f i).d in
        omega (arith, order)

-- the quotient by 1 - w, where h is half the sum
abbrev pub delta_quotient : Coefficient → ℤ → Coefficient
delta_quotient z h = record { a = z.a -ℤ h; b = z.b +ℤ (z.a -ℤ h); c = z.c +ℤ (z.b +ℤ (z.a -ℤ h)); d = h }

pub delta_quotient_is : (z : Coefficient) (h : ℤ) → z.a +ℤ z.b +ℤ z.c +ℤ z.d ≡ h +ℤ h → z ≡ delta_quotient z h ⊗ delta
delta_quotient_is z h e =
    let q = delta_quotient z h in
    same_coordinates z record { a = q.a +ℤ q.d; b = q.b -ℤ q.a; c = q.c -ℤ q.b; d = q.d -ℤ q.c } (omega (arith, order)) (omega (arith, order)) (omega (arith, order)) (omega (arith, order))
    ∙ sym (⊗-delta q)

pub divides_from_even : (z : Coefficient) → IsEven (z.a +ℤ z.b +ℤ z.c +ℤ z.d) → Divides delta z
divides_from_even z (h, e) = (delta_quotient z h, delta_quotient_is z h e)

-- the quotient by 1 + w, where h is half the sum
abbrev pub conjugate_quotient : Coefficient → ℤ → Coefficient
conjugate_quotient z h = record { a = h -ℤ z.c; b = z.b -ℤ (h -ℤ z.c); c = z.c -ℤ (z.b -ℤ (h -ℤ z.c)); d = z.d -ℤ (z.c -ℤ (z.b -ℤ (h -ℤ z.c))) }

pub conjugate_quotient_is : (z : Coefficient) (h : ℤ) → z.a +ℤ z.b +ℤ z.c +ℤ z.d ≡ h +ℤ h → z ≡ conjugate_quotient z h ⊗ delta_conjugate
conjugate_quotient_is z h e =
    let q = conjugate_quotient z h in
    same_coordinates z record { a = q.a -ℤ q.d; b = q.b +ℤ q.a; c = q.c +ℤ q.b; d = q.d +ℤ q.c } (omega (arith, order)) (omega (arith, order)) (omega (arith, order)) (omega (arith, order))
    ∙ sym (⊗-delta_conjugate q)

-- the quotient by 1 - w^2, where h and k are half the differences of the coordinates in turn
abbrev pub both_quotient : Coefficient → ℤ → ℤ → Coefficient
both_quotient z h k = record { a = h; b = k; c = z.a -ℤ h; d = z.b -ℤ k }

pub both_quotient_is : (z : Coefficient) (h k : ℤ) → z.a -ℤ z.c ≡ h +ℤ h → z.b -ℤ z.d ≡ k +ℤ k → z ≡ both_quotient z h k ⊗ both_deltas
both_quotient_is z h k e f =
    let q = both_quotient z h k in
    same_coordinates z record { a = q.a +ℤ q.c; b = q.b +ℤ q.d; c = q.c -ℤ q.a; d = q.d -ℤ q.b } (omega (arith, order)) (omega (arith, order)) (omega (arith, order)) (omega (arith, order))
    ∙ sym (⊗-both_deltas q)

-- 1 - w^2 divides exactly where the coordinates in turn agree in parity
pub both_even : (z : Coefficient) → Divides both_deltas z → IsEven (z.a -ℤ z.c) × IsEven (z.b -ℤ z.d)
both_even z d =
    let q = d.0 in let e = d.1 ∙ ⊗-both_deltas q in
    ((q.a, twice z.a z.c q.a q.c (ap (λ (t : Coefficient). t.a) e) (ap (λ (t : Coefficient). t.c) e)), (q.b, twice z.b z.d q.b q.d (ap (λ (t : Coefficient). t.b) e) (ap (λ (t : Coefficient). t.d) e)))
  where
    twice : (x y p r : ℤ) → x ≡ p +ℤ r → y ≡ r -ℤ p → x -ℤ y ≡ p +ℤ p
    twice x y p r e f = omega (arith, order)

pub even_both : (z : Coefficient) → IsEven (z.a -ℤ z.c) → IsEven (z.b -ℤ z.d) → Divides both_deltas z
even_both z (h, e) (k, f) = (both_quotient z h k, both_quotient_is z h k e f)
