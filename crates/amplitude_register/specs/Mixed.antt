-- The sums and differences of a list's rows, as the gate H makes them, and what they are divided by.
use Rattle.std.specs.Prelude.{◌≡◌, ◌↔◌, ℕ, pos, ◌+ℤ◌, ◌-ℤ◌, true, false, List, length}
use Rattle.state_model.specs.Coefficient.{Coefficient, coefficient, one_coefficient, ◌⊗◌, Weight}
use Rattle.state_model.specs.CoefficientList.{at, IsNormal, IsScaled}
use Rattle.state_model.specs.Divisors.{Divides, delta, delta_conjugate, both_deltas, weight_product}
use Rattle.state_model.specs.Quotients.{IsEven}
use Rattle.state_model.specs.Row.{is_set, with_bit}
use Rattle.state_model.specs.Gate.{matrix, entry}
use Rattle.state_model.specs.Amplitudes.{IsGateList}
use Rattle.state_model.specs.declared.Gate.TheVariants.{H}
use Rattle.amplitude_register.specs.declared.divisor.Divisor.{Divisor}
use Rattle.amplitude_register.specs.declared.divisor.Divisor.TheVariants.{One, Delta, Conjugate, Both, BothDelta, BothConjugate, Two}
use Rattle.amplitude_register.specs.declared.mixing.Parities.{Parities}

-- the coefficient that a divisor stands for
abbrev pub divisor_value : Divisor → Coefficient
divisor_value One = one_coefficient
divisor_value Delta = delta
divisor_value Conjugate = delta_conjugate
divisor_value Both = both_deltas
divisor_value BothDelta = both_deltas ⊗ delta
divisor_value BothConjugate = both_deltas ⊗ delta_conjugate
divisor_value Two = coefficient (pos 2) (pos 0) (pos 0) (pos 0)

-- a weight is a multiple of another
abbrev pub DividesWeight : Weight → Weight → Type 0
DividesWeight p w = (v : Weight) × (w ≡ weight_product v p)

-- the sum or the difference that H gives a row
abbrev pub mixed_at : ℕ → List Coefficient → ℕ → Coefficient
mixed_at place old row = entry (matrix H) (is_set place row) (at old (with_bit place false row)) (at old (with_bit place true row))

-- u divides every sum and difference
abbrev pub DividesMixed : Coefficient → ℕ → List Coefficient → Type 0
DividesMixed u place old = (row : ℕ) → Divides u (mixed_at place old row)

-- u times the coefficient is the row's sum or difference
abbrev pub IsMixedRowOver : Coefficient → ℕ → List Coefficient → ℕ → Coefficient → Type 0
IsMixedRowOver u place old row z = mixed_at place old row ≡ z ⊗ u

-- the second list has the sums and differences of the first, each over u
abbrev pub IsMixedOver : Coefficient → ℕ → List Coefficient → List Coefficient → Type 0
IsMixedOver u place old new = (row : ℕ) → IsMixedRowOver u place old row (at new row)

-- the second list is what H makes of the first, reduced and balanced
pub record IsMixedNormal (place : ℕ) (old new : List Coefficient) : Type 0 where
  pub mixed : List Coefficient
  pub rows : length mixed ≡ length old
  pub list : IsGateList (matrix H) place old mixed
  pub scaled : IsScaled new mixed
  pub normal : IsNormal new

-- the coordinates in turn agree in parity
pub record HasEvenTurns (z : Coefficient) : Type 0 where
  pub first : IsEven (z.a -ℤ z.c)
  pub second : IsEven (z.b -ℤ z.d)

-- each parity is even exactly where it is even in both, those before and the coefficient
pub record IsJoined (old : Parities) (z : Coefficient) (new : Parities) : Type 0 where
  pub total : IsEven new.total ↔ (IsEven old.total × IsEven (z.a +ℤ z.b +ℤ z.c +ℤ z.d))
  pub turns : IsEven new.turns ↔ (IsEven old.turns × HasEvenTurns z)
  pub steps : IsEven new.steps ↔ (IsEven old.steps × IsEven (z.a -ℤ z.b))
  pub first : IsEven new.first ↔ (IsEven old.first × IsEven z.a)

-- the divisor is the greatest that the parities allow
abbrev pub IsAllowed : Parities → Divisor → Type 0
IsAllowed p One = ¬ (IsEven p.total)
IsAllowed p Delta = IsEven p.total × (¬ (IsEven p.turns))
IsAllowed p Conjugate = IsEven p.total × (¬ (IsEven p.turns))
IsAllowed p Both = IsEven p.turns × (¬ (IsEven p.steps))
IsAllowed p BothDelta = (IsEven p.turns × IsEven p.steps) × (¬ (IsEven p.first))
IsAllowed p BothConjugate = (IsEven p.turns × IsEven p.steps) × (¬ (IsEven p.first))
IsAllowed p Two = (IsEven p.turns × IsEven p.steps) × IsEven p.first
