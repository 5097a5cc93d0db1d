-- What a part of the places has of a sum over all of them.
use Rattle.std.specs.Prelude.{◌≡◌, ℕ, ◌≤◌, ◌<◌, ◌^◌, ℤ, pos, ◌+ℤ◌, Bool, List, [], ◌∷◌, length, FitsSigned}
use Rattle.std.specs.Int.{w64, int_wrap}
use Rattle.std.specs.Simd.Lanes.{Each1, chunk}
use Rattle.state_model.specs.Coefficient.{Weight, weight_sum}
use Rattle.omega_ring.specs.declared.lanes.Sums.{Sums}
use Rattle.omega_ring.specs.Range.{PartsBelow}
use Rattle.omega_ring.specs.Lanes.{place, added, IsOddAt}

-- from start up to end each place is the old one plus, or less, that of from, and the others stay
pub record AreAddedBetween (minus : Bool) (start end : ℕ) (old from new : List ℤ) : Type 0 where
  pub same : length new ≡ length old
  pub before : (i : ℕ) → i < start → place new i ≡ place old i
  pub each : (i : ℕ) → start ≤ i → i < end → place new i ≡ added minus (place old i) (place from i)
  pub after : (i : ℕ) → end ≤ i → place new i ≡ place old i

-- the eight numbers from place i on, each of 64 bits
pub record IsChunk (i : ℕ) (xs v : List ℤ) : Type 0 where
  pub long : length v ≡ 8
  pub value : v ≡ chunk i 8 xs
  pub fits : (k : ℕ) → FitsSigned w64 (place v k)

-- the sum of a list
abbrev pub lane_sum : List ℤ → ℤ
lane_sum [] = pos 0
lane_sum (x ∷ xs) = x +ℤ lane_sum xs

-- eight numbers of 64 bits, whose sum is z up to a multiple of 2^64
pub record IsSum (z : ℤ) (xs : List ℤ) : Type 0 where
  pub long : length xs ≡ 8
  pub fits : Each1 (FitsSigned w64) xs
  pub sum : int_wrap w64 (lane_sum xs) ≡ int_wrap w64 z

-- the sums stand for a weight
pub record AreSums (w : Weight) (sums : Sums) : Type 0 where
  pub x : IsSum w.x sums.x
  pub y : IsSum w.y sums.y

-- the sums after stand for a weight that is more by w
abbrev pub GrowBy : Weight → Sums → Sums → Type 0
GrowBy w old new = (v : Weight) → AreSums v old → AreSums (weight_sum v w) new

-- w is the weight that the sums stand for, where that is small
abbrev pub IsTotal : Sums → Weight → Type 0
IsTotal sums w = (v : Weight) → AreSums v sums → PartsBelow (2 ^ 60) v → w ≡ v

-- the sum of the four coordinates is odd at a place from start up to end
abbrev pub HasOddBetween : ℕ → ℕ → List ℤ → List ℤ → List ℤ → List ℤ → Type 0
HasOddBetween start end a b c d = (i : ℕ) × (start ≤ i) × (i < end) × IsOddAt a b c d i
