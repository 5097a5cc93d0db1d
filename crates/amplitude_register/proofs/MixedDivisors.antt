-- What the parities of sums say of the divisor: it divides all sums and differences, and 1 - w does not divide all
-- quotients, except perhaps at 2.
use Prim.Native.Nat.{zero, suc}
use Rattle.std.proofs.Common.{◌≡◌, ◌≢◌, ℕ, ◌+◌, ◌<◌, ℤ, pos, ◌+ℤ◌, ◌-ℤ◌, neg_ℤ, ◌↔◌, [], ◌∷◌, refl, sym, ap, subst, ◌∙◌, arith, below_more}
use Rattle.state_model.specs.Coefficient.{Coefficient, ◌⊕◌, ◌⊖◌, ◌⊗◌}
use Rattle.state_model.specs.Divisors.{Divides, delta, delta_conjugate, both_deltas}
use Rattle.state_model.specs.Quotients.{IsEven}
use Rattle.state_model.proofs.Delta.{⊗-delta, even_from_divides, divides_from_even, conjugate_quotient, conjugate_quotient_is, both_quotient, both_quotient_is, even_both, both_even}
use Rattle.state_model.proofs.Expressions.{Quad, quad, mul_quad, equal_quads, coordinates}
use Rattle.state_model.proofs.Inequalities.{order}
use Rattle.state_model.proofs.Polynomial.{number, plus, less, equal}
use Rattle.amplitude_register.specs.Mixed.{divisor_value, HasEvenTurns, IsJoined, IsAllowed}
use Rattle.amplitude_register.specs.declared.divisor.Divisor.{Divisor}
use Rattle.amplitude_register.specs.declared.divisor.Divisor.TheVariants.{One, Delta, Conjugate, Both, BothDelta, BothConjugate, Two}
use Rattle.amplitude_register.specs.declared.mixing.Parities.{Parities}
use Rattle.amplitude_register.proofs.MixedOver.{over_one, both_then, halves}

-- ---- four tests of a coefficient
abbrev pub HasEvenTotal : Coefficient → Type 0
HasEvenTotal z = IsEven (z.a +ℤ z.b +ℤ z.c +ℤ z.d)

abbrev pub HasEvenStep : Coefficient → Type 0
HasEvenStep z = IsEven (z.a -ℤ z.b)

abbrev pub HasEvenFirst : Coefficient → Type 0
HasEvenFirst z = IsEven z.a

-- those that a divisor needs
abbrev pub HasEvens : Divisor → Coefficient → Type 0
HasEvens One z = Unit {0}
HasEvens Delta z = HasEvenTotal z
HasEvens Conjugate z = HasEvenTotal z
HasEvens Both z = HasEvenTurns z
HasEvens BothDelta z = HasEvenTurns z × HasEvenStep z
HasEvens BothConjugate z = HasEvenTurns z × HasEvenStep z
HasEvens Two z = (HasEvenTurns z × HasEvenStep z) × HasEvenFirst z

-- and the next one
abbrev pub HasMore : Divisor → Coefficient → Type 0
HasMore One z = HasEvenTotal z
HasMore Delta z = HasEvenTurns z
HasMore Conjugate z = HasEvenTurns z
HasMore Both z = HasEvenStep z
HasMore BothDelta z = HasEvenFirst z
HasMore BothConjugate z = HasEvenFirst z
HasMore Two z = Unit {0}

-- ---- the difference of two coefficients against their sum
less_twice : (n m k : ℤ) → m ≡ n -ℤ (k +ℤ k) → IsEven n → IsEven m
less_twice n m k e (h, f) = (h -ℤ k, omega (arith, order))

even_total : (y u : Coefficient) → HasEvenTotal (y ⊕ u) → HasEvenTotal (y ⊖ u)
even_total y u h = less_twice _ _ (u.a +ℤ u.b +ℤ u.c +ℤ u.d) (omega (arith, order)) h

even_turns : (y u : Coefficient) → HasEvenTurns (y ⊕ u) → HasEvenTurns (y ⊖ u)
even_turns y u h = record { first = less_twice _ _ (u.a -ℤ u.c) (omega (arith, order)) h.first; second = less_twice _ _ (u.b -ℤ u.d) (omega (arith, order)) h.second }

even_step : (y u : Coefficient) → HasEvenStep (y ⊕ u) → HasEvenStep (y ⊖ u)
even_step y u h = less_twice _ _ (u.a -ℤ u.b) (omega (arith, order)) h

even_first : (y u : Coefficient) → HasEvenFirst (y ⊕ u) → HasEvenFirst (y ⊖ u)
even_first y u h = less_twice _ _ u.a (omega (arith, order)) h

pub evens_difference : (d : Divisor) (y u : Coefficient) → HasEvens d (y ⊕ u) → HasEvens d (y ⊖ u)
evens_difference One y u h = tt
evens_difference Delta y u h = even_total y u h
evens_difference Conjugate y u h = even_total y u h
evens_difference Both y u h = even_turns y u h
evens_difference BothDelta y u h = (even_turns y u (h.0), even_step y u (h.1))
evens_difference BothConjugate y u h = (even_turns y u (h.0), even_step y u (h.1))
evens_difference Two y u h = ((even_turns y u (h.0.0), even_step y u (h.0.1)), even_first y u (h.1))

-- ---- what the tests let divide
even_conjugate : (z : Coefficient) → HasEvenTotal z → Divides delta_conjugate z
even_conjugate z h = (conjugate_quotient z (h.0), conjugate_quotient_is z (h.0) (h.1))

even_turned : (z : Coefficient) → HasEvenTurns z → Divides both_deltas z
even_turned z h = even_both z h.first h.second

-- the quotient by 1 - w^2, with an even sum where neighbours agree in parity
abbrev turned_quotient : (z : Coefficient) → HasEvenTurns z → Coefficient
turned_quotient z h = both_quotient z (h.first.0) (h.second.0)

turned_is : (z : Coefficient) (h : HasEvenTurns z) → z ≡ turned_quotient z h ⊗ both_deltas
turned_is z h = both_quotient_is z (h.first.0) (h.second.0) (h.first.1) (h.second.1)

turned_total : (z : Coefficient) (h : HasEvenTurns z) → HasEvenStep z → HasEvenTotal (turned_quotient z h)
turned_total z h s = (z.b +ℤ s.0, total z.a z.b (h.first.0) (h.second.0) (s.0) (s.1))
  where
    total : (a b p q k : ℤ) → a -ℤ b ≡ k +ℤ k → p +ℤ q +ℤ (a -ℤ p) +ℤ (b -ℤ q) ≡ (b +ℤ k) +ℤ (b +ℤ k)
    total a b p q k e = omega (arith, order)

even_both_then : (u z : Coefficient) (h : HasEvenTurns z) → Divides u (turned_quotient z h) → Divides (both_deltas ⊗ u) z
even_both_then u z h d = (d.0, both_then u z (turned_quotient z h) (d.0) (turned_is z h) (d.1))

even_halves : (z : Coefficient) → HasEvenTurns z → HasEvenStep z → HasEvenFirst z → Divides (divisor_value Two) z
even_halves z h s f =
    let a = f in let b = less_twice z.a z.b (s.0) (second z.a z.b (s.0) (s.1)) f in
    let k = less_twice z.a z.c (h.first.0) (second z.a z.c (h.first.0) (h.first.1)) f in
    let d = less_twice z.b z.d (h.second.0) (second z.b z.d (h.second.0) (h.second.1)) b in
    (record { a = a.0; b = b.0; c = k.0; d = d.0 }, halves z record { a = a.0; b = b.0; c = k.0; d = d.0 } (a.1) (b.1) (k.1) (d.1))
  where
    second : (x y k : ℤ) → x -ℤ y ≡ k +ℤ k → y ≡ x -ℤ (k +ℤ k)
    second x y k e = omega (arith, order)

pub evens_divide : (d : Divisor) (z : Coefficient) → HasEvens d z → Divides (divisor_value d) z
evens_divide One z h = (z, over_one z)
evens_divide Delta z h = divides_from_even z h
evens_divide Conjugate z h = even_conjugate z h
evens_divide Both z h = even_turned z h
evens_divide BothDelta z h = even_both_then delta z (h.0) (divides_from_even (turned_quotient z (h.0)) (turned_total z (h.0) (h.1)))
evens_divide BothConjugate z h = even_both_then delta_conjugate z (h.0) (even_conjugate (turned_quotient z (h.0)) (turned_total z (h.0) (h.1)))
evens_divide Two z h = even_halves z (h.0.0) (h.0.1) (h.1)

-- ---- what a further factor 1 - w makes even
abbrev whole : ℤ → ℤ → ℤ → ℤ → Quad
whole a b c d = record { a = number a; b = number b; c = number c; d = number d }

square_delta : (q : Coefficient) → q ⊗ (delta ⊗ delta) ≡ record { a = q.a -ℤ q.c +ℤ (q.d +ℤ q.d); b = q.b -ℤ q.d -ℤ (q.a +ℤ q.a); c = q.a +ℤ q.c -ℤ (q.b +ℤ q.b); d = q.b +ℤ q.d -ℤ (q.c +ℤ q.c) }
square_delta q =
    let z = quad 0 in
    equal_quads (coordinates q []) (mul_quad z (whole (pos 1) (neg_ℤ (pos 2)) (pos 1) (pos 0)))
    record { a = plus (less z.a z.c) (plus z.d z.d); b = less (less z.b z.d) (plus z.a z.a); c = less (plus z.a z.c) (plus z.b z.b); d = less (plus z.b z.d) (plus z.c z.c) } refl refl refl refl

both_delta : (q : Coefficient) → q ⊗ (both_deltas ⊗ delta) ≡ record { a = q.a -ℤ q.b +ℤ q.c +ℤ q.d; b = q.b -ℤ q.a -ℤ q.c +ℤ q.d; c = q.c -ℤ q.a -ℤ q.b -ℤ q.d; d = q.a +ℤ q.d -ℤ q.b -ℤ q.c }
both_delta q =
    let z = quad 0 in
    equal_quads (coordinates q []) (mul_quad z (whole (pos 1) (neg_ℤ (pos 1)) (neg_ℤ (pos 1)) (pos 1)))
    record { a = plus (plus (less z.a z.b) z.c) z.d; b = plus (less (less z.b z.a) z.c) z.d; c = less (less (less z.c z.a) z.b) z.d; d = less (less (plus z.a z.d) z.b) z.c } refl refl refl refl

cube_first : (q : Coefficient) → (q ⊗ ((both_deltas ⊗ delta) ⊗ delta)).a ≡ (q.a -ℤ q.b +ℤ q.d) +ℤ (q.a -ℤ q.b +ℤ q.d)
cube_first q = let z = quad 0 in equal (q.a ∷ q.b ∷ q.c ∷ q.d ∷ []) (mul_quad z (whole (pos 2) (neg_ℤ (pos 2)) (pos 0) (pos 2))).a (plus (plus (less z.a z.b) z.d) (plus (less z.a z.b) z.d)) refl

conjugate_first : (q : Coefficient) → (q ⊗ ((both_deltas ⊗ delta_conjugate) ⊗ delta)).a ≡ q.c +ℤ q.c
conjugate_first q = let z = quad 0 in equal (q.a ∷ q.b ∷ q.c ∷ q.d ∷ []) (mul_quad z (whole (pos 0) (pos 0) (neg_ℤ (pos 2)) (pos 0))).a (plus z.c z.c) refl

square_turns : (z : Coefficient) → Divides (delta ⊗ delta) z → HasEvenTurns z
square_turns z (q, e) =
    let f = e ∙ square_delta q in
    record { first = (q.b +ℤ q.d -ℤ q.c, first z q (ap (λ (t : Coefficient). t.a) f) (ap (λ (t : Coefficient). t.c) f)); second = (q.c -ℤ q.a -ℤ q.d, second z q (ap (λ (t : Coefficient). t.b) f) (ap (λ (t : Coefficient). t.d) f)) }
  where
    first : (z q : Coefficient) → z.a ≡ q.a -ℤ q.c +ℤ (q.d +ℤ q.d) → z.c ≡ q.a +ℤ q.c -ℤ (q.b +ℤ q.b) → z.a -ℤ z.c ≡ (q.b +ℤ q.d -ℤ q.c) +ℤ (q.b +ℤ q.d -ℤ q.c)
    first z q e f = omega (arith, order)

    second : (z q : Coefficient) → z.b ≡ q.b -ℤ q.d -ℤ (q.a +ℤ q.a) → z.d ≡ q.b +ℤ q.d -ℤ (q.c +ℤ q.c) → z.b -ℤ z.d ≡ (q.c -ℤ q.a -ℤ q.d) +ℤ (q.c -ℤ q.a -ℤ q.d)
    second z q e f = omega (arith, order)

conjugate_turns : (z : Coefficient) → Divides both_deltas z → HasEvenTurns z
conjugate_turns z d = let e = both_even z d in record { first = e.0; second = e.1 }

both_step : (z : Coefficient) → Divides (both_deltas ⊗ delta) z → HasEvenStep z
both_step z (q, e) = let f = e ∙ both_delta q in (q.a -ℤ q.b +ℤ q.c, step z q (ap (λ (t : Coefficient). t.a) f) (ap (λ (t : Coefficient). t.b) f))
  where
    step : (z q : Coefficient) → z.a ≡ q.a -ℤ q.b +ℤ q.c +ℤ q.d → z.b ≡ q.b -ℤ q.a -ℤ q.c +ℤ q.d → z.a -ℤ z.b ≡ (q.a -ℤ q.b +ℤ q.c) +ℤ (q.a -ℤ q.b +ℤ q.c)
    step z q e f = omega (arith, order)

pub more_even : (d : Divisor) (z : Coefficient) → Divides (divisor_value d ⊗ delta) z → HasMore d z
more_even One z h = even_from_divides z h
more_even Delta z h = square_turns z h
more_even Conjugate z h = conjugate_turns z h
more_even Both z h = both_step z h
more_even BothDelta z h = (h.0.a -ℤ h.0.b +ℤ h.0.d, ap (λ (t : Coefficient). t.a) (h.1) ∙ cube_first (h.0))
more_even BothConjugate z h = (h.0.c, ap (λ (t : Coefficient). t.a) (h.1) ∙ conjugate_first (h.0))
more_even Two z h = tt

-- ---- what the parities of the first n of some sums say
pub record HaveParities (p : Parities) (s : ℕ → Coefficient) (n : ℕ) : Type 0 where
  pub total : IsEven p.total ↔ ((k : ℕ) → k < n → HasEvenTotal (s k))
  pub turns : IsEven p.turns ↔ ((k : ℕ) → k < n → HasEvenTurns (s k))
  pub steps : IsEven p.steps ↔ ((k : ℕ) → k < n → HasEvenStep (s k))
  pub first : IsEven p.first ↔ ((k : ℕ) → k < n → HasEvenFirst (s k))

zero_even : (s : ℕ → Coefficient) (E : Coefficient → Type 0) → IsEven (pos 0) ↔ ((k : ℕ) → k < 0 → E (s k))
zero_even s E = (λ e k l. absurd (omega arith), λ h. (pos 0, refl))

pub none_yet : (s : ℕ → Coefficient) → HaveParities record { total = pos 0; turns = pos 0; steps = pos 0; first = pos 0 } s 0
none_yet s = record { total = zero_even s HasEvenTotal; turns = zero_even s HasEvenTurns; steps = zero_even s HasEvenStep; first = zero_even s HasEvenFirst }

more_of : (s : ℕ → Coefficient) (n : ℕ) (E : Coefficient → Type 0) (p q : Type 0) (z : Coefficient) → z ≡ s n → (p ↔ ((k : ℕ) → k < n → E (s k))) → (q ↔ (p × E z)) → q ↔ ((k : ℕ) → k < n + 1 → E (s k))
more_of s n E p q z e h j = (
  λ t. let u = j.0 t in below_more (λ (k : ℕ). E (s k)) n (h.0 (u.0)) (subst E e (u.1)),
  λ all. j.1 (h.1 (λ k l. all k (omega arith)), subst E (sym e) (all n (omega arith))),
)

pub one_more : (p q : Parities) (s : ℕ → Coefficient) (n : ℕ) (z : Coefficient) → z ≡ s n → HaveParities p s n → IsJoined p z q → HaveParities q s (n + 1)
one_more p q s n z e h j = record {
  total = more_of s n HasEvenTotal (IsEven p.total) (IsEven q.total) z e h.total j.total;
  turns = more_of s n HasEvenTurns (IsEven p.turns) (IsEven q.turns) z e h.turns j.turns;
  steps = more_of s n HasEvenStep (IsEven p.steps) (IsEven q.steps) z e h.steps j.steps;
  first = more_of s n HasEvenFirst (IsEven p.first) (IsEven q.first) z e h.first j.first;
}

-- ---- the divisor that they allow
pub allowed_evens : (d : Divisor) (p : Parities) (s : ℕ → Coefficient) (n : ℕ) → HaveParities p s n → IsAllowed p d → (k : ℕ) → k < n → HasEvens d (s k)
allowed_evens One p s n h a k l = tt
allowed_evens Delta p s n h a k l = h.total.0 (a.0) k l
allowed_evens Conjugate p s n h a k l = h.total.0 (a.0) k l
allowed_evens Both p s n h a k l = h.turns.0 (a.0) k l
allowed_evens BothDelta p s n h a k l = (h.turns.0 (a.0.0) k l, h.steps.0 (a.0.1) k l)
allowed_evens BothConjugate p s n h a k l = (h.turns.0 (a.0.0) k l, h.steps.0 (a.0.1) k l)
allowed_evens Two p s n h a k l = ((h.turns.0 (a.0.0) k l, h.steps.0 (a.0.1) k l), h.first.0 (a.1) k l)

pub allowed_most : (d : Divisor) (p : Parities) (s : ℕ → Coefficient) (n : ℕ) → HaveParities p s n → IsAllowed p d → ((k : ℕ) → k < n → HasMore d (s k)) → d ≡ Two
allowed_most One p s n h a all = absurd (a (h.total.1 all))
allowed_most Delta p s n h a all = absurd (a.1 (h.turns.1 all))
allowed_most Conjugate p s n h a all = absurd (a.1 (h.turns.1 all))
allowed_most Both p s n h a all = absurd (a.1 (h.steps.1 all))
allowed_most BothDelta p s n h a all = absurd (a.1 (h.first.1 all))
allowed_most BothConjugate p s n h a all = absurd (a.1 (h.first.1 all))
allowed_most Two p s n h a all = refl
