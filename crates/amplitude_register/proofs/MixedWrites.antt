-- The sum and the difference of two rows, as H gives them to both, and over a divisor.
use Rattle.std.proofs.Common.{◌≡◌, ℕ, ◌≤◌, ◌<◌, ◌^◌, ℤ, ◌+ℤ◌, ◌-ℤ◌, unsigned_abs, true, false, List, length, map, slice_index_or, refl, sym, ap, subst, ◌∙◌, arith}
use Rattle.std.proofs.lemmas.Int.{ints}
use Rattle.state_model.specs.Coefficient.{Coefficient, zero_coefficient, ◌⊕◌, ◌⊖◌, ◌⊗◌}
use Rattle.state_model.specs.CoefficientList.{at}
use Rattle.state_model.specs.Divisors.{Divides}
use Rattle.state_model.specs.Row.{is_set, with_bit}
use Rattle.state_model.proofs.Domain.{zero_coefficient-⊗}
use Rattle.state_model.proofs.RowLaws.{is_set-with_bit_same}
use Rattle.omega_ring.specs.Range.{CoordinatesBelow}
use Rattle.omega_ring.specs.Views.{omega_value}
use Rattle.omega_ring.specs.declared.coefficients.Omega.{Omega}
use Rattle.omega_ring.proofs.Entries.{zero_omega, at_map}
use Rattle.state_model.specs.Gate.{matrix}
use Rattle.state_model.specs.declared.Gate.TheVariants.{H}
use Rattle.amplitude_register.specs.Multiples.{AllWithin, HasPlace}
use Rattle.amplitude_register.specs.Mixed.{divisor_value, mixed_at, DividesMixed, IsMixedRowOver, IsMixedOver}
use Rattle.amplitude_register.specs.declared.divisor.Divisor.{Divisor}
use Rattle.amplitude_register.proofs.RowPairs.{value_at, low_of_high}
use Rattle.amplitude_register.proofs.Written.{mixed_low, mixed_high, gate_past}

-- ---- sizes
pub row_within : (xs : List Omega) (k : ℕ) → AllWithin (2 ^ 31) (map omega_value xs) → CoordinatesBelow (2 ^ 31) (value_at xs k)
row_within xs k h = subst (CoordinatesBelow (2 ^ 31)) (at_map xs k) (h k)

pub row_wide : (xs : List Omega) (k : ℕ) → AllWithin (2 ^ 31) (map omega_value xs) → CoordinatesBelow (2 ^ 61) (value_at xs k)
row_wide xs k h = wide (value_at xs k) (row_within xs k h)
  where
    wide : (z : Coefficient) → CoordinatesBelow (2 ^ 31) z → CoordinatesBelow (2 ^ 61) z
    wide z h = record { a = omega (arith, h.a); b = omega (arith, h.b); c = omega (arith, h.c); d = omega (arith, h.d) }

sum_small : (z y u : ℤ) → z ≡ y +ℤ u → unsigned_abs y < 2 ^ 31 → unsigned_abs u < 2 ^ 31 → unsigned_abs z < 2 ^ 60
sum_small z y u e h k = omega (arith, ints)

difference_small : (z y u : ℤ) → z ≡ y -ℤ u → unsigned_abs y < 2 ^ 31 → unsigned_abs u < 2 ^ 31 → unsigned_abs z < 2 ^ 60
difference_small z y u e h k = omega (arith, ints)

pub sum_range : (z y u : Coefficient) → z ≡ y ⊕ u → CoordinatesBelow (2 ^ 31) y → CoordinatesBelow (2 ^ 31) u → CoordinatesBelow (2 ^ 60) z
sum_range z y u e h k = record {
  a = sum_small z.a y.a u.a (ap (λ (t : Coefficient). t.a) e) h.a k.a;
  b = sum_small z.b y.b u.b (ap (λ (t : Coefficient). t.b) e) h.b k.b;
  c = sum_small z.c y.c u.c (ap (λ (t : Coefficient). t.c) e) h.c k.c;
  d = sum_small z.d y.d u.d (ap (λ (t : Coefficient). t.d) e) h.d k.d;
}

pub sum_wide : (z y u : Coefficient) → z ≡ y ⊕ u → CoordinatesBelow (2 ^ 31) y → CoordinatesBelow (2 ^ 31) u → CoordinatesBelow (2 ^ 61) z
sum_wide z y u e h k = let r = sum_range z y u e h k in record { a = omega (arith, r.a); b = omega (arith, r.b); c = omega (arith, r.c); d = omega (arith, r.d) }

pub difference_range : (z y u : Coefficient) → z ≡ y ⊖ u → CoordinatesBelow (2 ^ 31) y → CoordinatesBelow (2 ^ 31) u → CoordinatesBelow (2 ^ 60) z
difference_range z y u e h k = record {
  a = difference_small z.a y.a u.a (ap (λ (t : Coefficient). t.a) e) h.a k.a;
  b = difference_small z.b y.b u.b (ap (λ (t : Coefficient). t.b) e) h.b k.b;
  c = difference_small z.c y.c u.c (ap (λ (t : Coefficient). t.c) e) h.c k.c;
  d = difference_small z.d y.d u.d (ap (λ (t : Coefficient). t.d) e) h.d k.d;
}

-- ---- the two rows of a pair
pub sum_at : (j : ℕ) (xs : List Omega) (low high : ℕ) (z : Omega) → is_set j low ≡ false → high ≡ with_bit j true low → omega_value z ≡ value_at xs low ⊕ value_at xs high → omega_value z ≡ mixed_at j (map omega_value xs) low
sum_at j xs low high z e f is = mixed_low j xs low high z (slice_index_or xs low zero_omega) (slice_index_or xs high zero_omega) e f refl refl is

pub difference_at : (j : ℕ) (xs : List Omega) (low high : ℕ) (z : Omega) → is_set j low ≡ false → high ≡ with_bit j true low → omega_value z ≡ value_at xs low ⊖ value_at xs high → omega_value z ≡ mixed_at j (map omega_value xs) high
difference_at j xs low high z e f is =
    mixed_high j xs high low z (slice_index_or xs low zero_omega) (slice_index_or xs high zero_omega)
    (ap (is_set j) f ∙ is_set-with_bit_same j true low) (sym (ap (with_bit j false) f ∙ low_of_high j low e)) refl refl is

pub divides_at : (u : Coefficient) (j : ℕ) (old : List Coefficient) (row : ℕ) (z : Coefficient) → z ≡ mixed_at j old row → DividesMixed u j old → Divides u z
divides_at u j old row z e h = subst (Divides u) (sym e) (h row)

pub over_past : (u : Coefficient) (j : ℕ) (xs : List Omega) → HasPlace j (length xs) → (r : ℕ) → length xs ≤ r → IsMixedRowOver u j (map omega_value xs) r zero_coefficient
over_past u j xs place r l = sym (gate_past (matrix H) j xs place r l) ∙ sym (zero_coefficient-⊗ u)

-- ---- which divisor it is
pub divides_mixed_as : (s d : Divisor) (j : ℕ) (old : List Coefficient) → s ≡ d → DividesMixed (divisor_value s) j old → DividesMixed (divisor_value d) j old
divides_mixed_as s d j old e h = subst (λ (t : Divisor). DividesMixed (divisor_value t) j old) e h

pub mixed_over_as : (s d : Divisor) (j : ℕ) (old new : List Coefficient) → s ≡ d → IsMixedOver (divisor_value d) j old new → IsMixedOver (divisor_value s) j old new
mixed_over_as s d j old new e h = subst (λ (t : Divisor). IsMixedOver (divisor_value t) j old new) (sym e) h
