-- What is held.
use Rattle.std.specs.Prelude.{ℕ, zero, suc, ◌+◌, ◌≤◌, ◌==◌, List, [], ◌∷◌, map, Option, Some, None, box_value, if◌then◌else◌}
use Rattle.std.specs.Borrow.{Lends, MutBor, Fml, RattleType}
use Rattle.std.specs.Box.{with_value}
use Rattle.register_locks.specs.declared.slot.Slot.{Slot}
use Rattle.register_locks.specs.contracts.slot.Slot.{the_row}

-- how many locks there are, and the slots of those that are held, in the order in which they were taken
pub record Holding (T : Type 0) : Type 0 where
  pub count : ℕ
  pub slots : List (Slot T)

module _ {T : Type 0} where
  -- the number of a slot's lock
  abbrev pub slot_number : Slot T → ℕ
  slot_number s = s.number

  -- the value of a slot, where it is there
  abbrev pub slot_value : Slot T → Option T
  slot_value s = elim s.value [ Some b ↦ Some (box_value b) | None ↦ None ]

  -- the slot with another value
  abbrev pub slot_with : Slot T → T → Slot T
  slot_with s w = record { number = s.number; value = elim s.value [ Some b ↦ Some (with_value b w) | None ↦ None ] }

  -- the numbers of the locks of slots
  abbrev pub numbers : List (Slot T) → List ℕ
  numbers ss = map slot_number ss

  -- the value of that number, where it is held
  abbrev pub held : List (Slot T) → ℕ → Option T
  held [] n = None
  held (s ∷ ss) n = if s.number == n then slot_value s else held ss n

  -- the same with another value of that number
  abbrev pub held_with : List (Slot T) → ℕ → T → List (Slot T)
  held_with [] n w = []
  held_with (s ∷ ss) n w = if s.number == n then slot_with s w ∷ ss else (s ∷ held_with ss n w)

  -- the same with another value at that place
  abbrev pub place_with : List (Slot T) → ℕ → T → List (Slot T)
  place_with [] k w = []
  place_with (s ∷ ss) zero w = slot_with s w ∷ ss
  place_with (s ∷ ss) (suc k) w = s ∷ place_with ss k w

-- the numbers rise from a on, and stay below b
abbrev pub RisesTo : ℕ → List ℕ → ℕ → Type 0
RisesTo a [] b = a ≤ b
RisesTo a (n ∷ ns) b = (a ≤ n) × RisesTo (n + 1) ns b

-- a slot ends as the borrower of its value left that
abbrev pub LendsSlot : (R : RattleType) → MutBor (Slot R.Denot) → MutBor R.Denot → Fml
LendsSlot R s r = Lends (the_row R) R s r (slot_with s.now)
