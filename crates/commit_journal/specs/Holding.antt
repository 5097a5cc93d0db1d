-- Held cells: which fit a history, and when they are an entry's.
use Rattle.std.specs.Prelude.{ℕ, zero, suc, ◌≡◌, ◌≤◌, ◌<◌, ◌==◌, Bool, true, false, cond, ◌&&◌, ◌||◌, List, [], ◌∷◌, ◌++◌, map, length, Option, Some, None, option_map, slice_get, slice_index}
use Rattle.std.specs.Box.{with_value}
use Rattle.network_model.specs.Network.{Shape}
use Rattle.network_model.specs.History.{IsLegal}
use Rattle.network_model.specs.declared.Entry.{Entry}
use Rattle.register_locks.specs.declared.slot.Slot.{Slot}
use Rattle.register_locks.specs.Slots.{slot_value}
use Rattle.commit_journal.specs.Touching.{touches}
use Rattle.commit_journal.specs.Keeping.{LastTouch}
use Rattle.commit_journal.specs.Views.{Stamp}

-- a value is held
abbrev pub IsHeld : {T : Type 0} → List (Slot T) → T → Type 0
IsHeld {T} slots v = (i : ℕ) × (s : Slot T) × (slice_get slots i ≡ Some s) × (slot_value s ≡ Some v)

-- a slot whose value is changed
abbrev pub slot_map : {T : Type 0} → (T → T) → Slot T → Slot T
slot_map f s = record { number = s.number; value = elim s.value [ Some b ↦ Some (with_value b (f b.value)) | None ↦ None ] }

-- slots whose values are changed
abbrev pub map_values : {T : Type 0} → (T → T) → List (Slot T) → List (Slot T)
map_values f slots = map (slot_map f) slots

-- every held cell's stamp is the kept number
abbrev pub AreFresh : {C : Type 0} → Shape → List (Slot (Stamp C)) → List Entry → Type 0
AreFresh {C} shape slots h = (c : Stamp C) → IsHeld slots c → LastTouch shape c.number h (length c.seen)

-- no held cell has a next value
abbrev pub AreIdle : {C : Type 0} → (C → Bool) → List (Slot (Stamp C)) → Type 0
AreIdle {C} has_next slots = (c : Stamp C) (x : C) → IsHeld slots c → c.cell ≡ Some x → has_next x ≡ false

module _ {C : Type 0} (fits : Shape → ℕ → C → List Entry → Type 0) where
  -- every held cell fits the history
  abbrev pub AllFit : Shape → List (Slot (Stamp C)) → List Entry → Type 0
  AllFit shape slots h = (c : Stamp C) (x : C) → IsHeld slots c → c.cell ≡ Some x → fits shape c.number x h

module _ {C : Type 0} (fits : Shape → ℕ → C → List Entry → Type 0) (has_next : C → Bool) (settled : C → C) where
  -- the entry may follow the history; the cells that it touches are held, with next values that fit the history with the entry; and no other held cell has one
  pub record IsEntered (shape : Shape) (cells : ℕ) (slots : List (Slot (Stamp C))) (h : List Entry) (e : Entry) : Type 0 where
    pub legal : IsLegal shape (h ++ e ∷ [])
    pub held : (n : ℕ) → n < cells → touches shape h e n ≡ true → (c : Stamp C) × IsHeld slots c × (c.number ≡ n)
    pub next : (c : Stamp C) → IsHeld slots c → touches shape h e c.number ≡ true → (x : C) × (c.cell ≡ Some x) × (has_next x ≡ true) × fits shape c.number (settled x) (h ++ e ∷ [])
    pub others : (c : Stamp C) (x : C) → IsHeld slots c → touches shape h e c.number ≡ false → c.cell ≡ Some x → has_next x ≡ false

  -- a hold has an entry's cells: so it is for every legal history that all held cells fit
  abbrev pub HasEntry : Shape → ℕ → List (Slot (Stamp C)) → Entry → Type 0
  HasEntry shape cells slots e = (h : List Entry) → IsLegal shape h → AllFit fits shape slots h → IsEntered shape cells slots h e

-- whether a stamped cell is there and has a next value
abbrev pub is_ready : {C : Type 0} → (C → Bool) → Option C → Bool
is_ready has_next None = false
is_ready has_next (Some x) = has_next x

-- a stamped cell behind a commit: where it has a next value this is its value, which fits the new history
abbrev pub committed_stamp : {C : Type 0} → (C → Bool) → (C → C) → List Entry → Stamp C → Stamp C
committed_stamp has_next settled h c = cond (is_ready has_next c.cell) (record { number = c.number; cell = option_map settled c.cell; seen = h }) c

-- a stamped cell without its next value
abbrev pub forgotten_stamp : {C : Type 0} → (C → C) → Stamp C → Stamp C
forgotten_stamp forgotten c = record c { cell = option_map forgotten c.cell }

-- the next values of held cells fit a history
abbrev pub AreNext : {C : Type 0} → (Shape → ℕ → C → List Entry → Type 0) → (C → Bool) → (C → C) → Shape → List (Slot (Stamp C)) → List Entry → Type 0
AreNext {C} fits has_next settled shape slots h = (c : Stamp C) (x : C) → IsHeld slots c → c.cell ≡ Some x → has_next x ≡ true → fits shape c.number (settled x) h

-- the slots with the first k values changed
abbrev pub mapped_below : {T : Type 0} → ℕ → (T → T) → List (Slot T) → List (Slot T)
mapped_below zero f ss = ss
mapped_below (suc k) f [] = []
mapped_below (suc k) f (s ∷ ss) = slot_map f s ∷ mapped_below k f ss

-- whether a slot holds a cell of a number that has a next value
abbrev pub marks_value : {C : Type 0} → (C → Bool) → ℕ → Option (Stamp C) → Bool
marks_value has_next n None = false
marks_value has_next n (Some c) = is_ready has_next c.cell && (c.number == n)

-- whether one of the first k slots does
abbrev pub is_marked : {C : Type 0} → (C → Bool) → ℕ → List (Slot (Stamp C)) → ℕ → Bool
is_marked has_next zero ss n = false
is_marked has_next (suc k) [] n = false
is_marked has_next (suc k) (s ∷ ss) n = marks_value has_next n (slot_value s) || is_marked has_next k ss n

-- the kept numbers where the cells with next values have got a new one
pub record AreMarked {C : Type 0} (has_next : C → Bool) (k : ℕ) (slots : List (Slot (Stamp C))) (count : ℕ) (old new : List ℕ) : Type 0 where
  pub length_stays : length new ≡ length old
  pub marks : (n : ℕ) → n < length old → slice_index new n ≡ cond (is_marked has_next k slots n) count (slice_index old n)

-- where a hold has an entry's cells, what fits a touched cell behind one history that all held cells fit fits it behind every such history
abbrev pub DependsOnTouched : {C : Type 0} → (Shape → ℕ → C → List Entry → Type 0) → (C → Bool) → (C → C) → Type 0
DependsOnTouched {C} fits has_next settled =
    (shape : Shape) (cells : ℕ) (slots : List (Slot (Stamp C))) (e : Entry) → 1 ≤ shape.limit → HasEntry fits has_next settled shape cells slots e
    → (h k : List Entry) → IsLegal shape h → IsLegal shape k → AllFit fits shape slots h → AllFit fits shape slots k
    → (n : ℕ) (d : C) → n < cells → touches shape h e n ≡ true → fits shape n d (h ++ e ∷ []) → fits shape n d (k ++ e ∷ [])
