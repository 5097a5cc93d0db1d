-- A greatest common divisor of the first entries of a list, as it goes on entry by entry.
use Rattle.std.proofs.Common.{◌≡◌, ℕ, ◌+◌, ◌<◌, ◌≤◌, ◌^◌, pos, ◌<ℤ◌, List, map, length, get_or, subst, arith}
use Rattle.state_model.specs.Coefficient.{Coefficient, zero_coefficient, weight}
use Rattle.state_model.specs.CoefficientList.{at, HasDeltaDivisors, total_weight}
use Rattle.state_model.specs.Divisors.{Divides, IsDeltaPower}
use Rattle.state_model.specs.Quotients.{IsGreatest}
use Rattle.state_model.proofs.Euclid.{divides_zero}
use Rattle.omega_ring.specs.Steps.{IsReady}
use Rattle.omega_ring.specs.Views.{omega_value}
use Rattle.omega_ring.specs.declared.coefficients.Omega.{Omega}
use Rattle.omega_ring.proofs.DeltaPowers.{delta_divisors}
use Rattle.omega_ring.proofs.Entries.{at_map, divides_more, divides_whole, greatest_more, zero_omega, zero_ready}
use Rattle.omega_ring.proofs.Greatest.{greatest_at_zero}
use Rattle.amplitude_register.specs.Multiples.{IsGreatestOf}
use Rattle.amplitude_register.proofs.Divided.{entries_small}

pub record IsFolded (xs : List Omega) (n : ℕ) (c : Coefficient) : Type 0 where
  pub ready : IsReady c
  pub common : (i : ℕ) → i < n → Divides c (at (map omega_value xs) i)
  pub greatest : (h : Coefficient) → ((i : ℕ) → i < n → Divides h (at (map omega_value xs) i)) → Divides h c

pub folded_none : (xs : List Omega) → IsFolded xs 0 zero_coefficient
folded_none xs = record { ready = zero_ready; common = λ i l. absurd (omega arith); greatest = λ h d. divides_zero h }

pub folded_more : (xs : List Omega) (n : ℕ) (c g : Coefficient) → IsFolded xs n c → IsReady g → IsGreatest c (omega_value (get_or xs n zero_omega)) g → IsFolded xs (n + 1) g
folded_more xs n c g f r k = record { ready = r; common = divides_more xs n c g f.common k; greatest = greatest_more xs n c g f.greatest k }

-- an entry that is zero changes nothing
pub folded_skip : (xs : List Omega) (n : ℕ) (c : Coefficient) → IsFolded xs n c → omega_value (get_or xs n zero_omega) ≡ zero_coefficient → IsFolded xs (n + 1) c
folded_skip xs n c f e = folded_more xs n c c f f.ready (greatest_at_zero c (omega_value (get_or xs n zero_omega)) e)

-- a power of 1 - w tells of the whole list
pub folded_delta : (xs : List Omega) (n : ℕ) (c g : Coefficient) → IsFolded xs n c → IsGreatest c (omega_value (get_or xs n zero_omega)) g → IsDeltaPower g → HasDeltaDivisors (map omega_value xs)
folded_delta xs n c g f k p = delta_divisors (map omega_value xs) g p (λ u d. greatest_more xs n c g f.greatest k u (λ i l. d i))

pub folded_whole : (xs : List Omega) (n : ℕ) (c : Coefficient) → length xs ≤ n → IsFolded xs n c → IsGreatestOf (map omega_value xs) c
folded_whole xs n c l f = record { common = divides_whole xs n c l f.common; greatest = λ h d. f.greatest h (λ i m. d i); ready = f.ready }

pub entry_fits : (xs : List Omega) (n : ℕ) → (total_weight (map omega_value xs)).x <ℤ pos (2 ^ 60) → (weight (omega_value (get_or xs n zero_omega))).x <ℤ pos (2 ^ 61)
entry_fits xs n h = subst (λ (t : Coefficient). (weight t).x <ℤ pos (2 ^ 61)) (at_map xs n) (entries_small (map omega_value xs) h n)
