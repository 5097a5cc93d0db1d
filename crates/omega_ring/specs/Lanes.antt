-- Four lists of coordinates, and the coefficients that they stand for.
use Rattle.std.specs.Prelude.{◌≡◌, ℕ, ◌<◌, ℤ, pos, ◌+ℤ◌, ◌-ℤ◌, unsigned_abs, Bool, if◌then◌else◌, List, [], ◌∷◌, length, slice_index_or}
use Rattle.state_model.specs.Coefficient.{Coefficient, coefficient}
use Rattle.state_model.specs.Quotients.{IsEven}

-- the number of a place, zero past the end
abbrev pub place : List ℤ → ℕ → ℤ
place xs i = slice_index_or xs i (pos 0)

-- all numbers lie strictly between -n and n
pub record AreBelow (n : ℕ) (xs : List ℤ) : Type 0 where
  pub each : (i : ℕ) → unsigned_abs (place xs i) < n

-- the four lists are equally long
pub record AreLanes (a b c d : List ℤ) : Type 0 where
  pub second : length b ≡ length a
  pub third : length c ≡ length a
  pub fourth : length d ≡ length a

-- the coefficient of each place
abbrev pub lane_values : List ℤ → List ℤ → List ℤ → List ℤ → List Coefficient
lane_values [] b c d = []
lane_values (p ∷ a) [] c d = []
lane_values (p ∷ a) (q ∷ b) [] d = []
lane_values (p ∷ a) (q ∷ b) (r ∷ c) [] = []
lane_values (p ∷ a) (q ∷ b) (r ∷ c) (s ∷ d) = coefficient p q r s ∷ lane_values a b c d

-- the sum of two numbers, or the first less the second
abbrev pub added : Bool → ℤ → ℤ → ℤ
added minus x y = if minus then (x -ℤ y) else (x +ℤ y)

-- each place of new is the old one plus, or less, that of from
pub record AreAdded (minus : Bool) (old from new : List ℤ) : Type 0 where
  pub same : length new ≡ length old
  pub each : (i : ℕ) → place new i ≡ added minus (place old i) (place from i)

-- the sum of the four coordinates of a place is odd
abbrev pub IsOddAt : List ℤ → List ℤ → List ℤ → List ℤ → ℕ → Type 0
IsOddAt a b c d i = ¬ IsEven (place a i +ℤ place b i +ℤ place c i +ℤ place d i)

-- the sum of the four coordinates is odd at some place
abbrev pub HasOddSum : List ℤ → List ℤ → List ℤ → List ℤ → Type 0
HasOddSum a b c d = (i : ℕ) × IsOddAt a b c d i
