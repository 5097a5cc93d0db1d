-- The sums and differences of a reduced list, over what divides them all, are reduced, and their weight is small.
use Prim.Native.Nat.{zero, suc}
use Rattle.std.proofs.Common.{◌≡◌, ◌≢◌, ℕ, ◌*◌, ◌<◌, ◌^◌, ℤ, pos, ◌+ℤ◌, ◌-ℤ◌, ◌*ℤ◌, neg_ℤ, ◌≤ℤ◌, ◌<ℤ◌, List, [], ◌∷◌, length, map, refl, sym, ap, subst, ◌∙◌, arith}
use Rattle.std.proofs.lemmas.Int.{ints}
use Rattle.std.proofs.lemmas.List.{length-map}
use Rattle.state_model.specs.Coefficient.{Coefficient, zero_coefficient, one_coefficient, ◌⊗◌, Weight, weight, scaled}
use Rattle.state_model.specs.Divisors.{Divides, delta, weight_product, IsBalanced}
use Rattle.state_model.specs.CoefficientList.{at, DividesAll, IsReduced, IsScaled, IsNormal, total_weight}
use Rattle.state_model.specs.Gate.{matrix}
use Rattle.state_model.specs.Amplitudes.{IsGateList}
use Rattle.state_model.specs.Undo.{times_one, scale_of}
use Rattle.state_model.specs.declared.Gate.TheVariants.{H}
use Rattle.state_model.proofs.Delta.{product-both, product-conjugate, product-delta}
use Rattle.state_model.proofs.Domain.{zero_coefficient-⊗}
use Rattle.state_model.proofs.Expressions.{quad, mul_quad, same_weight, coordinates}
use Rattle.state_model.proofs.GateLists.{gate_total, gate_divisors, gate_delta_divisors, mixed_weight}
use Rattle.state_model.proofs.Inequalities.{order}
use Rattle.state_model.proofs.Polynomial.{number, plus, less, equal}
use Rattle.state_model.proofs.RegisterLists.{one_not_zero}
use Rattle.state_model.proofs.RegisterSizes.{scaled_trans}
use Rattle.state_model.proofs.Ring.{⊗_comm, ⊗_assoc}
use Rattle.omega_ring.specs.Range.{PartsBelow}
use Rattle.omega_ring.specs.Views.{omega_value}
use Rattle.omega_ring.specs.declared.coefficients.Omega.{Omega}
use Rattle.omega_ring.proofs.UnitSizes.{coordinates_below}
use Rattle.amplitude_register.specs.Multiples.{AllWithin, AreTimes, HasPlace}
use Rattle.amplitude_register.specs.Mixed.{divisor_value, DividesWeight, DividesMixed, IsMixedOver, IsMixedNormal, mixed_at}
use Rattle.amplitude_register.specs.declared.divisor.Divisor.{Divisor}
use Rattle.amplitude_register.specs.declared.divisor.Divisor.TheVariants.{One, Delta, Conjugate, Both, BothDelta, BothConjugate, Two}
use Rattle.amplitude_register.proofs.MixedOver.{both_pair, upper_pair, lower_pair, turned_weight, weight_over_one}
use Rattle.amplitude_register.proofs.Steps.{delta_nonzero, conjugate_nonzero, both_nonzero, scaled_times, times_weight, normal_end}
use Rattle.amplitude_register.proofs.Sums.{IsReal, real_sum, entry_below, small_of}

-- ---- sizes of the old rows
pub value_within : (vs : List Coefficient) → (total_weight vs).x <ℤ pos (2 ^ 60) → AllWithin (2 ^ 31) vs
value_within vs h i = coordinates_below (2 ^ 31) (at vs i) (along (weight (at vs i)).x (total_weight vs).x (entry_below vs i) h)
  where
    along : (x y : ℤ) → x ≤ℤ y → y <ℤ pos (2 ^ 60) → x <ℤ pos (2 ^ 31 * 2 ^ 31)
    along x y k h = omega (arith, order)

pub value_parts : (vs : List Coefficient) (w : Weight) → w ≡ total_weight vs → w.x <ℤ pos (2 ^ 60) → PartsBelow (2 ^ 122) w
value_parts vs w e h = small_of vs w e (further w.x h)
  where
    further : (x : ℤ) → x <ℤ pos (2 ^ 60) → x <ℤ pos (2 ^ 122)
    further x h = omega (arith, order)

-- ---- all sums and differences, as the products of their quotients
abbrev pub multiplied : Coefficient → List Coefficient → List Coefficient
multiplied u us = map (λ z. z ⊗ u) us

at_multiplied : (u : Coefficient) (us : List Coefficient) (i : ℕ) → at (multiplied u us) i ≡ at us i ⊗ u
at_multiplied u [] i = sym (zero_coefficient-⊗ u)
at_multiplied u (z ∷ us) zero = refl
at_multiplied u (z ∷ us) (suc i) = at_multiplied u us i

are_times : (u : Coefficient) (us : List Coefficient) → AreTimes (multiplied u us) us u
are_times u us = record { rows = length-map us (λ z. z ⊗ u); value = at_multiplied u us }

mixed_list : (u : Coefficient) (j : ℕ) (old us : List Coefficient) → IsMixedOver u j old us → IsGateList (matrix H) j old (multiplied u us)
mixed_list u j old us h row = at_multiplied u us row ∙ sym (h row)

-- twice the weight of before
mixed_total : (u : Coefficient) (j : ℕ) (old us : List Coefficient) → HasPlace j (length old) → length us ≡ length old → IsMixedOver u j old us → total_weight (multiplied u us) ≡ scaled 2 (total_weight old)
mixed_total u j old us place e h = let r = are_times u us in gate_total (matrix H) 2 j place.qubits old (multiplied u us) place.inside place.count (r.rows ∙ e ∙ place.count) mixed_weight (mixed_list u j old us h)

-- what w is, once it is doubled
pub doubled_total : (d : Divisor) (j : ℕ) (old us : List Coefficient) (w v : Weight) → HasPlace j (length old) → length us ≡ length old → IsMixedOver (divisor_value d) j old us → w ≡ total_weight old → v ≡ scaled 2 w → v ≡ total_weight (multiplied (divisor_value d) us)
doubled_total d j old us w v place e h is f = f ∙ ap (scaled 2) is ∙ sym (mixed_total (divisor_value d) j old us place e h)

pub doubled_divides : (d : Divisor) (us : List Coefficient) (v : Weight) → v ≡ total_weight (multiplied (divisor_value d) us) → DividesWeight (weight (divisor_value d)) v
doubled_divides d us v e = (total_weight us, e ∙ times_weight (multiplied (divisor_value d) us) us (divisor_value d) (are_times (divisor_value d) us))

doubled_small : (v w : Weight) → v ≡ scaled 2 w → w.x <ℤ pos (2 ^ 60) → v.x <ℤ pos (2 ^ 61)
doubled_small v w e h = let f = ap (λ (t : Weight). t.x) e in twice v.x w.x f h
  where
    twice : (x y : ℤ) → x ≡ pos 2 *ℤ y → y <ℤ pos (2 ^ 60) → x <ℤ pos (2 ^ 61)
    twice x y e h = omega (arith, ints)

pub doubled_parts : (vs : List Coefficient) (v w : Weight) → v ≡ total_weight vs → v ≡ scaled 2 w → w.x <ℤ pos (2 ^ 60) → PartsBelow (2 ^ 122) v
doubled_parts vs v w e f h = small_of vs v e (further v.x (doubled_small v w f h))
  where
    further : (x : ℤ) → x <ℤ pos (2 ^ 61) → x <ℤ pos (2 ^ 122)
    further x h = omega (arith, order)

-- ---- the quotient of the weight
cancel_both : (p q : Weight) → weight_product p both_pair ≡ weight_product q both_pair → p ≡ q
cancel_both p q e =
    let f = sym (product-both p) ∙ e ∙ product-both q in
    let fx = ap (λ (t : Weight). t.x) f in let fy = ap (λ (t : Weight). t.y) f in
    same_weight p q (omega (arith, order)) (omega (arith, order))

cancel_lower : (p q : Weight) → weight_product p lower_pair ≡ weight_product q lower_pair → p ≡ q
cancel_lower p q e =
    let f = sym (product-conjugate p) ∙ e ∙ product-conjugate q in
    let fx = ap (λ (t : Weight). t.x) f in let fy = ap (λ (t : Weight). t.y) f in
    same_weight p q (omega (arith, order)) (omega (arith, order))

cancel_upper : (p q : Weight) → weight_product p upper_pair ≡ weight_product q upper_pair → p ≡ q
cancel_upper p q e =
    let f = sym (product-delta p) ∙ e ∙ product-delta q in
    let fx = ap (λ (t : Weight). t.x) f in let fy = ap (λ (t : Weight). t.y) f in
    same_weight p q (omega (arith, order)) (omega (arith, order))

-- the factor of 1 - w^2 first
cancel_first : (m p q : Weight) → weight_product p (weight_product both_pair m) ≡ weight_product q (weight_product both_pair m) → weight_product p m ≡ weight_product q m
cancel_first m p q e = cancel_both (weight_product p m) (weight_product q m) (sym (turned_weight p m) ∙ e ∙ turned_weight q m)

cancel : (d : Divisor) (p q : Weight) → weight_product p (weight (divisor_value d)) ≡ weight_product q (weight (divisor_value d)) → p ≡ q
cancel One p q e = weight_over_one p ∙ e ∙ sym (weight_over_one q)
cancel Delta p q e = cancel_upper p q e
cancel Conjugate p q e = cancel_lower p q e
cancel Both p q e = cancel_both p q e
cancel BothDelta p q e = cancel_upper p q (cancel_first upper_pair p q e)
cancel BothConjugate p q e = cancel_lower p q (cancel_first lower_pair p q e)
cancel Two p q e = cancel_both p q (cancel_first both_pair p q e)

pub quotient_weight : (d : Divisor) (us : List Coefficient) (v r : Weight) → v ≡ total_weight (multiplied (divisor_value d) us) → v ≡ weight_product r (weight (divisor_value d)) → r ≡ total_weight us
quotient_weight d us v r e f = cancel d r (total_weight us) (sym f ∙ e ∙ times_weight (multiplied (divisor_value d) us) us (divisor_value d) (are_times (divisor_value d) us))

-- ---- its x is at most twice that of the dividend, which is real
halves_real : (v p : Weight) → IsReal v → v ≡ weight_product p both_pair → IsReal p
halves_real v p h e =
    let f = e ∙ product-both p in
    parts v.x v.y p.x p.y (ap (λ (t : Weight). t.x) f) (ap (λ (t : Weight). t.y) f) h.positive h.above h.below
  where
    parts : (x y a b : ℤ) → x ≡ a +ℤ a → y ≡ b +ℤ b → pos 0 ≤ℤ x → y ≤ℤ x → neg_ℤ y ≤ℤ x → IsReal record { x = a; y = b }
    parts x y a b e f h k l = record { positive = omega (arith, order); above = omega (arith, order); below = omega (arith, order) }

halves_smaller : (v p : Weight) → IsReal v → v ≡ weight_product p both_pair → p.x ≤ℤ v.x
halves_smaller v p h e = half v.x p.x (ap (λ (t : Weight). t.x) (e ∙ product-both p)) h.positive
  where
    half : (x a : ℤ) → x ≡ a +ℤ a → pos 0 ≤ℤ x → a ≤ℤ x
    half x a e h = omega (arith, order)

upper_smaller : (v p : Weight) → IsReal v → v ≡ weight_product p upper_pair → p.x ≤ℤ (v.x +ℤ v.x)
upper_smaller v p h e = let f = e ∙ product-delta p in parts v.x v.y p.x p.y (ap (λ (t : Weight). t.x) f) (ap (λ (t : Weight). t.y) f) h.above
  where
    parts : (x y a b : ℤ) → x ≡ a +ℤ a -ℤ b -ℤ b → y ≡ b +ℤ b -ℤ a → y ≤ℤ x → a ≤ℤ (x +ℤ x)
    parts x y a b e f h = omega (arith, order)

lower_smaller : (v p : Weight) → IsReal v → v ≡ weight_product p lower_pair → p.x ≤ℤ (v.x +ℤ v.x)
lower_smaller v p h e = let f = e ∙ product-conjugate p in parts v.x v.y p.x p.y (ap (λ (t : Weight). t.x) f) (ap (λ (t : Weight). t.y) f) h.below
  where
    parts : (x y a b : ℤ) → x ≡ a +ℤ a +ℤ b +ℤ b → y ≡ a +ℤ b +ℤ b → neg_ℤ y ≤ℤ x → a ≤ℤ (x +ℤ x)
    parts x y a b e f h = omega (arith, order)

below_twice : (r v : ℤ) → pos 0 ≤ℤ v → r ≤ℤ v → r ≤ℤ (v +ℤ v)
below_twice r v h k = omega (arith, order)

twice_below : (r p v : ℤ) → r ≤ℤ (p +ℤ p) → p ≤ℤ v → r ≤ℤ (v +ℤ v)
twice_below r p v h k = omega (arith, order)

-- m: the weight of the other factor
smaller_first : (m v r : Weight) → v ≡ weight_product r (weight_product both_pair m) → v ≡ weight_product (weight_product r m) both_pair
smaller_first m v r e = e ∙ turned_weight r m

smaller : (d : Divisor) (v r : Weight) → IsReal v → v ≡ weight_product r (weight (divisor_value d)) → r.x ≤ℤ (v.x +ℤ v.x)
smaller One v r h e = below_twice r.x v.x h.positive (same r.x v.x (ap (λ (t : Weight). t.x) (weight_over_one r ∙ sym e)))
  where
    same : (a b : ℤ) → a ≡ b → a ≤ℤ b
    same a b e = omega (arith, order)
smaller Delta v r h e = upper_smaller v r h e
smaller Conjugate v r h e = lower_smaller v r h e
smaller Both v r h e = below_twice r.x v.x h.positive (halves_smaller v r h e)
smaller BothDelta v r h e =
    let f = smaller_first upper_pair v r e in let p = weight_product r upper_pair in
    twice_below r.x p.x v.x (upper_smaller p r (halves_real v p h f) refl) (halves_smaller v p h f)
smaller BothConjugate v r h e =
    let f = smaller_first lower_pair v r e in let p = weight_product r lower_pair in
    twice_below r.x p.x v.x (lower_smaller p r (halves_real v p h f) refl) (halves_smaller v p h f)
smaller Two v r h e =
    let f = smaller_first both_pair v r e in let p = weight_product r both_pair in
    let k = halves_real v p h f in
    twice_below r.x p.x v.x (below_twice r.x p.x k.positive (halves_smaller p r k refl)) (halves_smaller v p h f)

pub quotient_small : (d : Divisor) (vs : List Coefficient) (v w r : Weight) → v ≡ total_weight vs → v ≡ scaled 2 w → w.x <ℤ pos (2 ^ 60) → v ≡ weight_product r (weight (divisor_value d)) → r.x <ℤ pos (2 ^ 122)
quotient_small d vs v w r e f h q = small r.x v.x (smaller d v r (subst IsReal (sym e) (real_sum vs)) q) (doubled_small v w f h)
  where
    small : (x y : ℤ) → x ≤ℤ (y +ℤ y) → y <ℤ pos (2 ^ 61) → x <ℤ pos (2 ^ 122)
    small x y h k = omega (arith, order)

-- ---- no further factor 1 - w
pub divisor_nonzero : (d : Divisor) → divisor_value d ≢ zero_coefficient
divisor_nonzero One e = one_not_zero e
divisor_nonzero Delta e = delta_nonzero e
divisor_nonzero Conjugate e = conjugate_nonzero e
divisor_nonzero Both e = both_nonzero e
divisor_nonzero BothDelta e = let f : pos 1 ≡ pos 0 = ap (λ (z : Coefficient). z.a) e in cc f
divisor_nonzero BothConjugate e = let f : pos 1 ≡ pos 0 = ap (λ (z : Coefficient). z.a) e in cc f
divisor_nonzero Two e = let f : pos 2 ≡ pos 0 = ap (λ (z : Coefficient). z.a) e in cc f

further : (u : Coefficient) (q : Coefficient) → (q ⊗ delta) ⊗ u ≡ q ⊗ (u ⊗ delta)
further u q = ⊗_assoc q delta u ∙ ap (λ (t : Coefficient). q ⊗ t) (⊗_comm delta u)

delta_more : (u : Coefficient) (j : ℕ) (old us : List Coefficient) → IsMixedOver u j old us → DividesAll delta us → DividesMixed (u ⊗ delta) j old
delta_more u j old us h all row = let d : Divides delta (at us row) = all row in (d.0, h row ∙ ap (λ (t : Coefficient). t ⊗ u) (d.1) ∙ further u (d.0))

-- 2 (1 - w) doesn't divide 2
abbrev twice_delta : Coefficient
twice_delta = divisor_value Two ⊗ delta

too_much : Divides twice_delta (divisor_value Two) → ⊥
too_much (q, e) = none q.a q.b q.c q.d (ap (λ (t : Coefficient). t.a) e ∙ first) (ap (λ (t : Coefficient). t.b) e ∙ second) (ap (λ (t : Coefficient). t.c) e ∙ third) (ap (λ (t : Coefficient). t.d) e ∙ fourth)
  where
    first : (q ⊗ twice_delta).a ≡ (q.a +ℤ q.d) +ℤ (q.a +ℤ q.d)
    first = let z = quad 0 in equal (q.a ∷ q.b ∷ q.c ∷ q.d ∷ []) (mul_quad z record { a = number (pos 2); b = number (neg_ℤ (pos 2)); c = number (pos 0); d = number (pos 0) }).a (plus (plus z.a z.d) (plus z.a z.d)) refl

    second : (q ⊗ twice_delta).b ≡ (q.b -ℤ q.a) +ℤ (q.b -ℤ q.a)
    second = let z = quad 0 in equal (q.a ∷ q.b ∷ q.c ∷ q.d ∷ []) (mul_quad z record { a = number (pos 2); b = number (neg_ℤ (pos 2)); c = number (pos 0); d = number (pos 0) }).b (plus (less z.b z.a) (less z.b z.a)) refl

    third : (q ⊗ twice_delta).c ≡ (q.c -ℤ q.b) +ℤ (q.c -ℤ q.b)
    third = let z = quad 0 in equal (q.a ∷ q.b ∷ q.c ∷ q.d ∷ []) (mul_quad z record { a = number (pos 2); b = number (neg_ℤ (pos 2)); c = number (pos 0); d = number (pos 0) }).c (plus (less z.c z.b) (less z.c z.b)) refl

    fourth : (q ⊗ twice_delta).d ≡ (q.d -ℤ q.c) +ℤ (q.d -ℤ q.c)
    fourth = let z = quad 0 in equal (q.a ∷ q.b ∷ q.c ∷ q.d ∷ []) (mul_quad z record { a = number (pos 2); b = number (neg_ℤ (pos 2)); c = number (pos 0); d = number (pos 0) }).d (plus (less z.d z.c) (less z.d z.c)) refl

    none : (a b c d : ℤ) → pos 2 ≡ (a +ℤ d) +ℤ (a +ℤ d) → pos 0 ≡ (b -ℤ a) +ℤ (b -ℤ a) → pos 0 ≡ (c -ℤ b) +ℤ (c -ℤ b) → pos 0 ≡ (d -ℤ c) +ℤ (d -ℤ c) → ⊥
    none a b c d e f g h = omega (arith, order)

scale_two : times_one (scale_of H) ≡ divisor_value Two
unfolding times_one scale_of
scale_two = refl

no_more : (d : Divisor) (j : ℕ) (old us : List Coefficient) → IsReduced old → IsMixedOver (divisor_value d) j old us → (DividesMixed (divisor_value d ⊗ delta) j old → d ≡ Two) → DividesAll delta us → ⊥
no_more d j old us reduced h most all =
    let more = delta_more (divisor_value d) j old us h all in
    let g = mixed_list (divisor_value d) j old us h in
    let two : DividesAll twice_delta (multiplied (divisor_value d) us) = λ i. subst (Divides twice_delta) (sym (g i)) (subst (λ (t : Divisor). Divides (divisor_value t ⊗ delta) (mixed_at j old i)) (most more) (more i)) in
    too_much (subst (Divides twice_delta) scale_two (gate_divisors H j old (multiplied (divisor_value d) us) g reduced twice_delta two))

-- ---- the whole
pub mixed_normal : (d : Divisor) (j : ℕ) (old us new : List Coefficient) (w : Weight) → IsReduced old → length us ≡ length old → IsMixedOver (divisor_value d) j old us → (DividesMixed (divisor_value d ⊗ delta) j old → d ≡ Two)
    → IsScaled new us → w ≡ total_weight new → IsBalanced w → IsMixedNormal j old new
mixed_normal d j old us new w reduced rows h most scaled e balanced =
    let g = mixed_list (divisor_value d) j old us h in let t = are_times (divisor_value d) us in
    let s = scaled_times (multiplied (divisor_value d) us) us (divisor_value d) (divisor_nonzero d) t in
    record {
      mixed = multiplied (divisor_value d) us;
      rows = t.rows ∙ rows;
      list = g;
      scaled = scaled_trans new us (multiplied (divisor_value d) us) scaled s;
      normal = normal_end (multiplied (divisor_value d) us) us new w (gate_delta_divisors H j old (multiplied (divisor_value d) us) g reduced) s (no_more d j old us reduced h most) scaled e balanced;
    }

-- ---- lists as the code has them
pub same_rows : (xs ys : List Omega) → length ys ≡ length xs → length (map omega_value ys) ≡ length (map omega_value xs)
same_rows xs ys e = length-map ys omega_value ∙ e ∙ sym (length-map xs omega_value)

pub same_place : (j : ℕ) (xs : List Omega) → HasPlace j (length xs) → HasPlace j (length (map omega_value xs))
same_place j xs h = subst (HasPlace j) (sym (length-map xs omega_value)) h

pub weight_within : (vs : List Coefficient) (w : Weight) → w ≡ total_weight vs → w.x <ℤ pos (2 ^ 60) → AllWithin (2 ^ 31) vs
weight_within vs w e h = value_within vs (subst (λ (t : Weight). t.x <ℤ pos (2 ^ 60)) e h)
