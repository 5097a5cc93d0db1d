-- What the code's operations at 64 bits give, where the numbers are small: sums, and quotients by 1 - w, 1 + w and both.
use Rattle.std.proofs.Common.{◌≡◌, ◌<◌, ◌^◌, ℤ, ◌+ℤ◌, ◌-ℤ◌, ◌*ℤ◌, unsigned_abs, FitsSigned, to_z, of_z, sym, ap, ◌∙◌, arith}
use Rattle.std.proofs.lemmas.Int.{ints, to_z-of_z, unsigned_abs-mul, fits_signed_from_abs}
use Rattle.std.proofs.lemmas.Nat.{mul-lt}
use mir.Syntax.{w64}
use Rattle.state_model.specs.Coefficient.{Coefficient, ◌⊗◌}
use Rattle.state_model.specs.Divisors.{delta, delta_conjugate, both_deltas}
use Rattle.omega_ring.specs.Range.{CoordinatesBelow}
use Rattle.state_model.proofs.Ring.{same_coordinates}
use Rattle.state_model.proofs.Delta.{delta_quotient, delta_quotient_is, conjugate_quotient, conjugate_quotient_is, both_quotient, both_quotient_is}

-- a number as its bits are read
abbrev pub short : ℤ → ℤ
short z = to_z w64 (of_z w64 z)

pub short_is : (z : ℤ) → unsigned_abs z < 2 ^ 63 → short z ≡ z
short_is z h = to_z-of_z w64 z (fits_signed_from_abs w64 z h)

-- x, as the code has it, is n, and small
pub record IsShort (x n : ℤ) : Type 0 where
  pub value : x ≡ n
  pub small : unsigned_abs n < 2 ^ 63

pub short_self : (z : ℤ) → unsigned_abs z < 2 ^ 63 → IsShort (short z) z
short_self z h = record { value = short_is z h; small = h }

pub short_add : (x y n m : ℤ) → IsShort x n → IsShort y m → unsigned_abs (n +ℤ m) < 2 ^ 63 → IsShort (short (x +ℤ y)) (n +ℤ m)
short_add x y n m h k l = record { value = ap short (ap (λ (t : ℤ). t +ℤ y) h.value ∙ ap (λ (t : ℤ). n +ℤ t) k.value) ∙ short_is (n +ℤ m) l; small = l }

pub short_sub : (x y n m : ℤ) → IsShort x n → IsShort y m → unsigned_abs (n -ℤ m) < 2 ^ 63 → IsShort (short (x -ℤ y)) (n -ℤ m)
short_sub x y n m h k l = record { value = ap short (ap (λ (t : ℤ). t -ℤ y) h.value ∙ ap (λ (t : ℤ). n -ℤ t) k.value) ∙ short_is (n -ℤ m) l; small = l }

fits_sum : (x y n m : ℤ) → IsShort x n → IsShort y m → unsigned_abs (n +ℤ m) < 2 ^ 63 → FitsSigned w64 (x +ℤ y)
fits_sum x y n m h k l = rw (h.value, k.value) (fits_signed_from_abs w64 (n +ℤ m) l)

fits_difference : (x y n m : ℤ) → IsShort x n → IsShort y m → unsigned_abs (n -ℤ m) < 2 ^ 63 → FitsSigned w64 (x -ℤ y)
fits_difference x y n m h k l = rw (h.value, k.value) (fits_signed_from_abs w64 (n -ℤ m) l)

-- ---- products
pub short_product_size : (m n : ℤ) → unsigned_abs m < 2 ^ 30 → unsigned_abs n < 2 ^ 30 → unsigned_abs (m *ℤ n) < 2 ^ 60
short_product_size m n p q = rw (unsigned_abs-mul m n) (mul-lt (unsigned_abs m) (unsigned_abs n) (2 ^ 30) (2 ^ 30) p q)

pub short_product : (m n : ℤ) → unsigned_abs m < 2 ^ 30 → unsigned_abs n < 2 ^ 30 → short (short m *ℤ short n) ≡ m *ℤ n
short_product m n p q = rw (short_is m (omega arith), short_is n (omega arith)) (short_is (m *ℤ n) (let h = short_product_size m n p q in omega (arith, h)))

-- ---- the sum of the coordinates
pub sum_is : (a b c d : ℤ) → unsigned_abs a < 2 ^ 61 → unsigned_abs b < 2 ^ 61 → unsigned_abs c < 2 ^ 61 → unsigned_abs d < 2 ^ 61
    → short (short (short (short a +ℤ short b) +ℤ short c) +ℤ short d) ≡ a +ℤ b +ℤ c +ℤ d
sum_is a b c d p q r s =
    let h = short_add _ _ _ _ (short_add _ _ _ _ (short_add _ _ _ _ (short_self a (omega (arith, ints))) (short_self b (omega (arith, ints))) (two a b p q)) (short_self c (omega (arith, ints))) (three a b c p q r)) (short_self d (omega (arith, ints))) (four a b c d p q r s) in h.value
  where
    two : (a b : ℤ) → unsigned_abs a < 2 ^ 61 → unsigned_abs b < 2 ^ 61 → unsigned_abs (a +ℤ b) < 2 ^ 63
    two a b p q = omega (arith, ints)

    three : (a b c : ℤ) → unsigned_abs a < 2 ^ 61 → unsigned_abs b < 2 ^ 61 → unsigned_abs c < 2 ^ 61 → unsigned_abs (a +ℤ b +ℤ c) < 2 ^ 63
    three a b c p q r = omega (arith, ints)

    four : (a b c d : ℤ) → unsigned_abs a < 2 ^ 61 → unsigned_abs b < 2 ^ 61 → unsigned_abs c < 2 ^ 61 → unsigned_abs d < 2 ^ 61 → unsigned_abs (a +ℤ b +ℤ c +ℤ d) < 2 ^ 63
    four a b c d p q r s = omega (arith, ints)

-- ---- the quotient by 1 - w
delta_a : (z : Coefficient) (h : ℤ) → CoordinatesBelow (2 ^ 61) z → z.a +ℤ z.b +ℤ z.c +ℤ z.d ≡ h +ℤ h → unsigned_abs h < 2 ^ 63 × unsigned_abs (z.a -ℤ h) < 2 ^ 63 × unsigned_abs (z.b +ℤ (z.a -ℤ h)) < 2 ^ 63 × unsigned_abs (z.c +ℤ (z.b +ℤ (z.a -ℤ h))) < 2 ^ 63
delta_a z h r e = at z.a z.b z.c z.d h r.a r.b r.c r.d e
  where
    at : (a b c d h : ℤ) → unsigned_abs a < 2 ^ 61 → unsigned_abs b < 2 ^ 61 → unsigned_abs c < 2 ^ 61 → unsigned_abs d < 2 ^ 61 → a +ℤ b +ℤ c +ℤ d ≡ h +ℤ h → unsigned_abs h < 2 ^ 63 × unsigned_abs (a -ℤ h) < 2 ^ 63 × unsigned_abs (b +ℤ (a -ℤ h)) < 2 ^ 63 × unsigned_abs (c +ℤ (b +ℤ (a -ℤ h))) < 2 ^ 63
    at a b c d h p q r s e = (omega (arith, ints), omega (arith, ints), omega (arith, ints), omega (arith, ints))

pub record DeltaParts (z : Coefficient) (h : ℤ) : Type 0 where
  pub a : IsShort (short (short z.a -ℤ short h)) (z.a -ℤ h)
  pub b : IsShort (short (short z.b +ℤ short (short z.a -ℤ short h))) (z.b +ℤ (z.a -ℤ h))
  pub c : IsShort (short (short z.c +ℤ short (short z.b +ℤ short (short z.a -ℤ short h)))) (z.c +ℤ (z.b +ℤ (z.a -ℤ h)))

pub delta_parts : (z : Coefficient) (h : ℤ) → CoordinatesBelow (2 ^ 61) z → z.a +ℤ z.b +ℤ z.c +ℤ z.d ≡ h +ℤ h → DeltaParts z h
delta_parts z h r e =
    let k = delta_a z h r e in
    let a = short_sub (short z.a) (short h) z.a h (short_self z.a (omega (arith, r.a))) (short_self h (k.0)) (k.1) in
    let b = short_add (short z.b) (short (short z.a -ℤ short h)) z.b (z.a -ℤ h) (short_self z.b (omega (arith, r.b))) a (k.2) in
    record { a = a; b = b; c = short_add (short z.c) (short (short z.b +ℤ short (short z.a -ℤ short h))) z.c (z.b +ℤ (z.a -ℤ h)) (short_self z.c (omega (arith, r.c))) b (k.3) }

pub delta_fits : (z : Coefficient) (h : ℤ) → CoordinatesBelow (2 ^ 61) z → z.a +ℤ z.b +ℤ z.c +ℤ z.d ≡ h +ℤ h → FitsSigned w64 (short z.c +ℤ short (short z.b +ℤ short (short z.a -ℤ short h)))
delta_fits z h r e =
    let k = delta_a z h r e in
    let p = delta_parts z h r e in
    fits_sum (short z.c) (short (short z.b +ℤ short (short z.a -ℤ short h))) z.c (z.b +ℤ (z.a -ℤ h)) (short_self z.c (omega (arith, r.c))) p.b (k.3)

pub delta_fits_b : (z : Coefficient) (h : ℤ) → CoordinatesBelow (2 ^ 61) z → z.a +ℤ z.b +ℤ z.c +ℤ z.d ≡ h +ℤ h → FitsSigned w64 (short z.b +ℤ short (short z.a -ℤ short h))
delta_fits_b z h r e =
    let k = delta_a z h r e in
    let p = delta_parts z h r e in
    fits_sum (short z.b) (short (short z.a -ℤ short h)) z.b (z.a -ℤ h) (short_self z.b (omega (arith, r.b))) p.a (k.2)

pub over_delta_is : (z : Coefficient) (h : ℤ) → CoordinatesBelow (2 ^ 61) z → z.a +ℤ z.b +ℤ z.c +ℤ z.d ≡ h +ℤ h
    → z ≡ record { a = short (short z.a -ℤ short h); b = short (short z.b +ℤ short (short z.a -ℤ short h)); c = short (short z.c +ℤ short (short z.b +ℤ short (short z.a -ℤ short h))); d = short h } ⊗ delta
over_delta_is z h r e =
    let p = delta_parts z h r e in
    delta_quotient_is z h e ∙ ap (λ (t : Coefficient). t ⊗ delta) (sym (same_coordinates _ (delta_quotient z h) (let q = p.a in q.value) (let q = p.b in q.value) (let q = p.c in q.value) (let k = delta_a z h r e in short_is h (k.0))))

-- ---- the quotient by 1 + w
conjugate_a : (z : Coefficient) (h : ℤ) → CoordinatesBelow (2 ^ 61) z → z.a +ℤ z.b +ℤ z.c +ℤ z.d ≡ h +ℤ h → unsigned_abs h < 2 ^ 63 × unsigned_abs (h -ℤ z.c) < 2 ^ 63 × unsigned_abs (z.b -ℤ (h -ℤ z.c)) < 2 ^ 63 × unsigned_abs (z.c -ℤ (z.b -ℤ (h -ℤ z.c))) < 2 ^ 63 × unsigned_abs (z.d -ℤ (z.c -ℤ (z.b -ℤ (h -ℤ z.c)))) < 2 ^ 63
conjugate_a z h r e = at z.a z.b z.c z.d h r.a r.b r.c r.d e
  where
    at : (a b c d h : ℤ) → unsigned_abs a < 2 ^ 61 → unsigned_abs b < 2 ^ 61 → unsigned_abs c < 2 ^ 61 → unsigned_abs d < 2 ^ 61 → a +ℤ b +ℤ c +ℤ d ≡ h +ℤ h → unsigned_abs h < 2 ^ 63 × unsigned_abs (h -ℤ c) < 2 ^ 63 × unsigned_abs (b -ℤ (h -ℤ c)) < 2 ^ 63 × unsigned_abs (c -ℤ (b -ℤ (h -ℤ c))) < 2 ^ 63 × unsigned_abs (d -ℤ (c -ℤ (b -ℤ (h -ℤ c)))) < 2 ^ 63
    at a b c d h p q r s e = (omega (arith, ints), omega (arith, ints), omega (arith, ints), omega (arith, ints), omega (arith, ints))

abbrev conj_a : Coefficient → ℤ → ℤ
conj_a z h = short (short h -ℤ short z.c)

abbrev conj_b : Coefficient → ℤ → ℤ
conj_b z h = short (short z.b -ℤ conj_a z h)

abbrev conj_c : Coefficient → ℤ → ℤ
conj_c z h = short (short z.c -ℤ conj_b z h)

abbrev conj_d : Coefficient → ℤ → ℤ
conj_d z h = short (short z.d -ℤ conj_c z h)

pub record ConjugateParts (z : Coefficient) (h : ℤ) : Type 0 where
  pub a : IsShort (conj_a z h) (h -ℤ z.c)
  pub b : IsShort (conj_b z h) (z.b -ℤ (h -ℤ z.c))
  pub c : IsShort (conj_c z h) (z.c -ℤ (z.b -ℤ (h -ℤ z.c)))
  pub d : IsShort (conj_d z h) (z.d -ℤ (z.c -ℤ (z.b -ℤ (h -ℤ z.c))))
  pub fits_b : FitsSigned w64 (short z.b -ℤ conj_a z h)
  pub fits_c : FitsSigned w64 (short z.c -ℤ conj_b z h)
  pub fits_d : FitsSigned w64 (short z.d -ℤ conj_c z h)

pub conjugate_parts : (z : Coefficient) (h : ℤ) → CoordinatesBelow (2 ^ 61) z → z.a +ℤ z.b +ℤ z.c +ℤ z.d ≡ h +ℤ h → ConjugateParts z h
conjugate_parts z h r e =
    let k = conjugate_a z h r e in
    let sb = short_self z.b (omega (arith, r.b)) in
    let sc = short_self z.c (omega (arith, r.c)) in
    let sd = short_self z.d (omega (arith, r.d)) in
    let a = short_sub (short h) (short z.c) h z.c (short_self h (k.0)) sc (k.1) in
    let b = short_sub (short z.b) (conj_a z h) z.b (h -ℤ z.c) sb a (k.2) in
    let c = short_sub (short z.c) (conj_b z h) z.c (z.b -ℤ (h -ℤ z.c)) sc b (k.3) in
    record {
      a = a;
      b = b;
      c = c;
      d = short_sub (short z.d) (conj_c z h) z.d (z.c -ℤ (z.b -ℤ (h -ℤ z.c))) sd c (k.4);
      fits_b = fits_difference (short z.b) (conj_a z h) z.b (h -ℤ z.c) sb a (k.2);
      fits_c = fits_difference (short z.c) (conj_b z h) z.c (z.b -ℤ (h -ℤ z.c)) sc b (k.3);
      fits_d = fits_difference (short z.d) (conj_c z h) z.d (z.c -ℤ (z.b -ℤ (h -ℤ z.c))) sd c (k.4);
    }

pub over_conjugate_is : (z : Coefficient) (h : ℤ) → CoordinatesBelow (2 ^ 61) z → z.a +ℤ z.b +ℤ z.c +ℤ z.d ≡ h +ℤ h
    → z ≡ record { a = conj_a z h; b = conj_b z h; c = conj_c z h; d = conj_d z h } ⊗ delta_conjugate
over_conjugate_is z h r e =
    let p = conjugate_parts z h r e in
    conjugate_quotient_is z h e ∙ ap (λ (t : Coefficient). t ⊗ delta_conjugate) (sym (same_coordinates _ (conjugate_quotient z h) (let q = p.a in q.value) (let q = p.b in q.value) (let q = p.c in q.value) (let q = p.d in q.value)))

-- ---- the quotient by 1 - w^2
-- differences of coordinates
pub difference_is : (x y : ℤ) → unsigned_abs x < 2 ^ 61 → unsigned_abs y < 2 ^ 61 → short (short x -ℤ short y) ≡ x -ℤ y
difference_is x y p q = let h = short_sub (short x) (short y) x y (short_self x (omega (arith, ints))) (short_self y (omega (arith, ints))) (omega (arith, ints)) in h.value

-- what is left of a coordinate, where twice h is a difference
rest_small : (x y h : ℤ) → unsigned_abs x < 2 ^ 61 → unsigned_abs y < 2 ^ 61 → x -ℤ y ≡ h +ℤ h → (unsigned_abs h < 2 ^ 63) × (unsigned_abs (x -ℤ h) < 2 ^ 63)
rest_small x y h p q e = (omega (arith, ints), omega (arith, ints))

pub rest_is : (x y h : ℤ) → unsigned_abs x < 2 ^ 61 → unsigned_abs y < 2 ^ 61 → x -ℤ y ≡ h +ℤ h → short (short x -ℤ short h) ≡ x -ℤ h
rest_is x y h p q e = let k = rest_small x y h p q e in let s = short_sub (short x) (short h) x h (short_self x (omega (arith, ints))) (short_self h (k.0)) (k.1) in s.value

pub half_is : (x y h : ℤ) → unsigned_abs x < 2 ^ 61 → unsigned_abs y < 2 ^ 61 → x -ℤ y ≡ h +ℤ h → short h ≡ h
half_is x y h p q e = short_is h ((rest_small x y h p q e).0)

pub over_both_is : (z : Coefficient) (h k : ℤ) → CoordinatesBelow (2 ^ 61) z → z.a -ℤ z.c ≡ h +ℤ h → z.b -ℤ z.d ≡ k +ℤ k
    → z ≡ record { a = short h; b = short k; c = short (short z.a -ℤ short h); d = short (short z.b -ℤ short k) } ⊗ both_deltas
over_both_is z h k r e f =
    both_quotient_is z h k e f
    ∙ ap (λ (t : Coefficient). t ⊗ both_deltas) (sym (same_coordinates _ (both_quotient z h k) (half_is z.a z.c h r.a r.c e) (half_is z.b z.d k r.b r.d f) (rest_is z.a z.c h r.a r.c e) (rest_is z.b z.d k r.b r.d f)))
