-- Quotients of coefficients and of weights by the divisors of sums and differences.
use Rattle.std.proofs.Common.{◌≡◌, ◌≢◌, ◌<◌, ◌^◌, ℤ, pos, ◌+ℤ◌, ◌-ℤ◌, neg_ℤ, unsigned_abs, refl, sym, ap, subst, ◌∙◌, arith, [], ◌∷◌}
use Rattle.std.proofs.lemmas.Int.{ints}
use Rattle.state_model.specs.Coefficient.{Coefficient, coefficient, zero_coefficient, one_coefficient, ◌⊗◌, Weight, weight}
use Rattle.state_model.specs.Divisors.{Divides, delta, delta_conjugate, both_deltas, weight_product}
use Rattle.state_model.specs.Quotients.{IsEven}
use Rattle.state_model.proofs.Delta.{⊗-delta_conjugate, ⊗-both_deltas, divides_from_even, product-both, product-conjugate, product-delta}
use Rattle.state_model.proofs.Euclid.{one-⊗}
use Rattle.state_model.proofs.Expressions.{Pair, quad, pair, mul_quad, mul_pair, equal_quads, equal_pairs, coordinates, same_weight}
use Rattle.state_model.proofs.Inequalities.{order}
use Rattle.state_model.proofs.Polynomial.{number, plus, minus, less}
use Rattle.state_model.proofs.Ring.{⊗_comm, ⊗_assoc, same_coordinates}
use Rattle.state_model.proofs.SameStates.{⊗-cancel}
use Rattle.omega_ring.specs.Range.{CoordinatesBelow, PartsBelow}
use Rattle.omega_ring.proofs.Short.{short, short_is}
use Rattle.amplitude_register.proofs.Steps.{both_nonzero}
use Rattle.amplitude_register.specs.Mixed.{divisor_value, DividesWeight}
use Rattle.amplitude_register.specs.declared.divisor.Divisor.{Divisor}
use Rattle.amplitude_register.specs.declared.divisor.Divisor.TheVariants.{Two}

-- ---- which divisor it is
pub divides_as : (s d : Divisor) (z : Coefficient) → s ≡ d → Divides (divisor_value s) z → Divides (divisor_value d) z
divides_as s d z e h = subst (λ (t : Divisor). Divides (divisor_value t) z) e h

pub quotient_as : (s d : Divisor) (z q : Coefficient) → s ≡ d → z ≡ q ⊗ divisor_value d → z ≡ q ⊗ divisor_value s
quotient_as s d z q e h = h ∙ ap (λ (t : Divisor). q ⊗ divisor_value t) (sym e)

pub over_one : (z : Coefficient) → z ≡ z ⊗ one_coefficient
over_one z = sym (⊗_comm z one_coefficient ∙ one-⊗ z)

-- ---- 1 + w
pub conjugate_divides : (z : Coefficient) → Divides delta_conjugate z → Divides delta z
conjugate_divides z (q, e) = divides_from_even z (q.a +ℤ q.b +ℤ q.c, go z q (e ∙ ⊗-delta_conjugate q))
  where
    go : (z q : Coefficient) → z ≡ record { a = q.a -ℤ q.d; b = q.b +ℤ q.a; c = q.c +ℤ q.b; d = q.d +ℤ q.c } → z.a +ℤ z.b +ℤ z.c +ℤ z.d ≡ (q.a +ℤ q.b +ℤ q.c) +ℤ (q.a +ℤ q.b +ℤ q.c)
    go z q f =
        let a : z.a ≡ q.a -ℤ q.d = λ i. (f i).a in
        let b : z.b ≡ q.b +ℤ q.a = λ i. (f i).b in
        let c : z.c ≡ q.c +ℤ q.b = λ i. (f i).c in
        let d : z.d ≡ q.d +ℤ q.c = λ i. (f i).d in
        omega (arith, order)

-- ---- 1 - w^2, and then a further divisor u
turned_round : (q u : Coefficient) → q ⊗ (both_deltas ⊗ u) ≡ (q ⊗ u) ⊗ both_deltas
turned_round q u = ap (λ (t : Coefficient). q ⊗ t) (⊗_comm both_deltas u) ∙ sym (⊗_assoc q u both_deltas)

pub both_first : (u z : Coefficient) → Divides (both_deltas ⊗ u) z → Divides both_deltas z
both_first u z (q, e) = (q ⊗ u, e ∙ turned_round q u)

-- r: the quotient by 1 - w^2
pub rest_divides : (u z r : Coefficient) → Divides (both_deltas ⊗ u) z → z ≡ r ⊗ both_deltas → Divides u r
rest_divides u z r (q, e) f = (q, ⊗-cancel both_deltas r (q ⊗ u) both_nonzero (sym f ∙ e ∙ turned_round q u))

pub both_then : (u z r p : Coefficient) → z ≡ r ⊗ both_deltas → r ≡ p ⊗ u → z ≡ p ⊗ (both_deltas ⊗ u)
both_then u z r p e f = e ∙ ap (λ (t : Coefficient). t ⊗ both_deltas) f ∙ sym (turned_round p u)

pub rest_below : (z r : Coefficient) → CoordinatesBelow (2 ^ 60) z → z ≡ r ⊗ both_deltas → CoordinatesBelow (2 ^ 61) r
rest_below z r h e =
    let f = e ∙ ⊗-both_deltas r in
    let a = ap (λ (t : Coefficient). t.a) f in let b = ap (λ (t : Coefficient). t.b) f in
    let c = ap (λ (t : Coefficient). t.c) f in let d = ap (λ (t : Coefficient). t.d) f in
    record { a = first z.a z.c r.a r.c h.a h.c a c; b = first z.b z.d r.b r.d h.b h.d b d; c = second z.a z.c r.a r.c h.a h.c a c; d = second z.b z.d r.b r.d h.b h.d b d }
  where
    first : (x y p q : ℤ) → unsigned_abs x < 2 ^ 60 → unsigned_abs y < 2 ^ 60 → x ≡ p +ℤ q → y ≡ q -ℤ p → unsigned_abs p < 2 ^ 61
    first x y p q h k e f = omega (arith, ints)

    second : (x y p q : ℤ) → unsigned_abs x < 2 ^ 60 → unsigned_abs y < 2 ^ 60 → x ≡ p +ℤ q → y ≡ q -ℤ p → unsigned_abs q < 2 ^ 61
    second x y p q h k e f = omega (arith, ints)

-- ---- 2
abbrev pub twice : Coefficient → Coefficient
twice q = coefficient (q.a +ℤ q.a) (q.b +ℤ q.b) (q.c +ℤ q.c) (q.d +ℤ q.d)

pub ⊗-two : (q : Coefficient) → q ⊗ divisor_value Two ≡ twice q
⊗-two q =
    let z = quad 0 in let nought = number (pos 0) in
    equal_quads (coordinates q []) (mul_quad z record { a = number (pos 2); b = nought; c = nought; d = nought }) record { a = plus z.a z.a; b = plus z.b z.b; c = plus z.c z.c; d = plus z.d z.d } refl refl refl refl

pub record AreEven (z : Coefficient) : Type 0 where
  pub a : IsEven z.a
  pub b : IsEven z.b
  pub c : IsEven z.c
  pub d : IsEven z.d

pub even_coordinates : (z : Coefficient) → Divides (divisor_value Two) z → AreEven z
even_coordinates z (q, e) =
    let f = e ∙ ⊗-two q in
    record { a = (q.a, ap (λ (t : Coefficient). t.a) f); b = (q.b, ap (λ (t : Coefficient). t.b) f); c = (q.c, ap (λ (t : Coefficient). t.c) f); d = (q.d, ap (λ (t : Coefficient). t.d) f) }

pub halves : (z q : Coefficient) → z.a ≡ q.a +ℤ q.a → z.b ≡ q.b +ℤ q.b → z.c ≡ q.c +ℤ q.c → z.d ≡ q.d +ℤ q.d → z ≡ q ⊗ divisor_value Two
halves z q a b c d = same_coordinates z (twice q) a b c d ∙ sym (⊗-two q)

-- ---- weights
abbrev pub both_pair : Weight
both_pair = record { x = pos 2; y = pos 0 }

abbrev pub upper_pair : Weight
upper_pair = record { x = pos 2; y = neg_ℤ (pos 1) }

abbrev pub lower_pair : Weight
lower_pair = record { x = pos 2; y = pos 1 }

pub weight_as : (s d : Divisor) (w : Weight) → s ≡ d → DividesWeight (weight (divisor_value s)) w → DividesWeight (weight (divisor_value d)) w
weight_as s d w e h = subst (λ (t : Divisor). DividesWeight (weight (divisor_value t)) w) e h

pub weight_quotient_as : (s d : Divisor) (w r : Weight) → s ≡ d → w ≡ weight_product r (weight (divisor_value d)) → w ≡ weight_product r (weight (divisor_value s))
weight_quotient_as s d w r e h = h ∙ ap (λ (t : Divisor). weight_product r (weight (divisor_value t))) (sym e)

pub weight_over_one : (w : Weight) → w ≡ weight_product w (weight one_coefficient)
weight_over_one w = equal_pairs (w.x ∷ w.y ∷ []) (pair 0) (mul_pair (pair 0) record { x = number (pos 1); y = number (pos 0) }) refl refl

pub upper_weight_even : (w : Weight) → DividesWeight upper_pair w → IsEven w.x
upper_weight_even w (v, e) = (v.x -ℤ v.y, ap (λ (t : Weight). t.x) (e ∙ product-delta v) ∙ split v)
  where
    split : (v : Weight) → v.x +ℤ v.x -ℤ v.y -ℤ v.y ≡ (v.x -ℤ v.y) +ℤ (v.x -ℤ v.y)
    split v = omega (arith, order)

pub lower_weight_even : (w : Weight) → DividesWeight lower_pair w → IsEven w.x
lower_weight_even w (v, e) = (v.x +ℤ v.y, ap (λ (t : Weight). t.x) (e ∙ product-conjugate v) ∙ split v)
  where
    split : (v : Weight) → v.x +ℤ v.x +ℤ v.y +ℤ v.y ≡ (v.x +ℤ v.y) +ℤ (v.x +ℤ v.y)
    split v = omega (arith, order)

pub both_weight_even : (w : Weight) → DividesWeight both_pair w → IsEven w.x × IsEven w.y
both_weight_even w (v, e) = let f = e ∙ product-both v in ((v.x, ap (λ (t : Weight). t.x) f), (v.y, ap (λ (t : Weight). t.y) f))

abbrev doubled : Weight → Weight
doubled p = record { x = p.x +ℤ p.x; y = p.y +ℤ p.y }

-- first 1 - w^2, and then what has the weight m
pub turned_weight : (v m : Weight) → weight_product v (weight_product both_pair m) ≡ weight_product (weight_product v m) both_pair
turned_weight v m = let both : Pair = record { x = number (pos 2); y = number (pos 0) } in equal_pairs (v.x ∷ v.y ∷ m.x ∷ m.y ∷ []) (mul_pair (pair 0) (mul_pair both (pair 2))) (mul_pair (mul_pair (pair 0) (pair 2)) both) refl refl

pub both_weight_first : (m w : Weight) → DividesWeight (weight_product both_pair m) w → DividesWeight both_pair w
both_weight_first m w (v, e) = (weight_product v m, e ∙ turned_weight v m)

pub rest_weight : (m w r : Weight) → DividesWeight (weight_product both_pair m) w → w ≡ weight_product r both_pair → DividesWeight m r
rest_weight m w r (v, e) f = (v, halved r (weight_product v m) (sym (product-both r) ∙ sym f ∙ e ∙ turned_weight v m ∙ product-both (weight_product v m)))
  where
    halved : (p q : Weight) → doubled p ≡ doubled q → p ≡ q
    halved p q e =
        let fx : p.x +ℤ p.x ≡ q.x +ℤ q.x = ap (λ (t : Weight). t.x) e in
        let fy : p.y +ℤ p.y ≡ q.y +ℤ q.y = ap (λ (t : Weight). t.y) e in
        same_weight p q (omega (arith, order)) (omega (arith, order))

pub rest_weight_below : (w r : Weight) → PartsBelow (2 ^ 122) w → w ≡ weight_product r both_pair → PartsBelow (2 ^ 122) r
rest_weight_below w r h e =
    let f = e ∙ product-both r in
    record { x = half w.x r.x h.x (ap (λ (t : Weight). t.x) f); y = half w.y r.y h.y (ap (λ (t : Weight). t.y) f) }
  where
    half : (x p : ℤ) → unsigned_abs x < 2 ^ 122 → x ≡ p +ℤ p → unsigned_abs p < 2 ^ 122
    half x p h e = omega (arith, ints)

pub weight_both_then : (m w r p : Weight) → w ≡ weight_product r both_pair → r ≡ weight_product p m → w ≡ weight_product p (weight_product both_pair m)
weight_both_then m w r p e f = e ∙ ap (λ (t : Weight). weight_product t both_pair) f ∙ sym (turned_weight p m)

-- ---- halves as the code has them
pub stored_half : (m : ℤ) → unsigned_abs m < 2 ^ 60 → IsEven m → IsEven (short m)
stored_half m h (k, e) = (k, short_is m (omega arith) ∙ e)

-- the half as its bits are read
pub short_half : (m k : ℤ) → unsigned_abs m < 2 ^ 60 → short m ≡ k +ℤ k → m ≡ short k +ℤ short k
short_half m k h e =
    let f : m ≡ k +ℤ k = sym (short_is m (omega arith)) ∙ e in
    let l : unsigned_abs k < 2 ^ 63 = small m k h f in
    f ∙ ap (λ (t : ℤ). t +ℤ t) (sym (short_is k l))
  where
    small : (m k : ℤ) → unsigned_abs m < 2 ^ 60 → m ≡ k +ℤ k → unsigned_abs k < 2 ^ 63
    small m k h e = omega (arith, ints)
