-- Values of slots: what is lent and left as it was changes nothing, what is changed at place after place is mapped, and what is held.
use Rattle.std.proofs.Common.{◌≡◌, ℕ, zero, suc, ◌+◌, ◌<◌, ◌≤◌, ◌==◌, Bool, true, false, ◌&&◌, ◌||◌, List, [], ◌∷◌, length, Some, None, slice_get, take, refl, ap, sym, ◌∙◌, subst, arith}
use Rattle.std.specs.Prelude.{Option, IfSome}
use Rattle.std.specs.Box.{with_value}
use Rattle.std.proofs.lemmas.Option.{slice_get_within}
use mathlib.Core.Logic.{dite}
use native.Mathlib.Decide.{ℕ_discrete}
use Rattle.state_model.proofs.Booleans.{clash, both_true, eq_of, eq_true}
use Rattle.register_locks.specs.declared.slot.Slot.{Slot}
use Rattle.register_locks.specs.Slots.{Holding, slot_value, slot_with, place_with}
use Rattle.commit_journal.specs.Views.{Stamp}
use Rattle.commit_journal.proofs.Staleness.{get_take}
use Rattle.commit_journal.specs.Holding.{IsHeld, slot_map, map_values, mapped_below, is_ready, marks_value, is_marked}

module _ {T : Type 0} where
  slot_same : (s : Slot T) (v : T) → slot_value s ≡ Some v → slot_with s v ≡ s
  slot_same s v = elim s.value as (λ o. ◌≡◌ {A = Option T} (elim o [ Some b ↦ Some b.value | None ↦ None ]) (Some v) → ◌≡◌ {A = Slot T} (record { number = s.number; value = elim o [ Some b ↦ Some (with_value b v) | None ↦ None ] }) (record { number = s.number; value = o })) [
    | Some b ↦ λ h. let same : b.value ≡ v = cc in ap (λ (w : T). record { number = s.number; value = Some (with_value b w) }) (sym same)
    | None ↦ λ h. absurd (cc)
  ]

  slot_mapped : (f : T → T) (s : Slot T) (v w : T) → slot_value s ≡ Some v → w ≡ f v → slot_with s w ≡ slot_map f s
  slot_mapped f s v w at is = elim s.value as (λ o. ◌≡◌ {A = Option T} (elim o [ Some b ↦ Some b.value | None ↦ None ]) (Some v) → ◌≡◌ {A = Slot T} (record { number = s.number; value = elim o [ Some b ↦ Some (with_value b w) | None ↦ None ] }) (record { number = s.number; value = elim o [ Some b ↦ Some (with_value b (f b.value)) | None ↦ None ] })) [
    | Some b ↦ λ h. let same : b.value ≡ v = cc in ap (λ (u : T). record { number = s.number; value = Some (with_value b u) }) (is ∙ ap f (sym same))
    | None ↦ λ h. absurd (cc)
  ] at

  -- a value that is lent and left as it was
  pub place_same : (ss : List (Slot T)) (k : ℕ) (v w : T) → k < length ss → IfSome (slice_get ss k) (λ s. slot_value s ≡ Some v) → w ≡ v → place_with ss k w ≡ ss
  place_same [] k v w lt at is = refl
  place_same (x ∷ ss) zero v w lt at is = ap (λ (u : Slot T). u ∷ ss) (ap (λ (z : T). slot_with x z) is ∙ slot_same x v at)
  place_same (x ∷ ss) (suc k) v w lt at is = ap (λ l. x ∷ l) (place_same ss k v w (omega arith) at is)

  pub value_there : (o : Option (Slot T)) (s : Slot T) (v c : T) → IfSome o (λ u. slot_value u ≡ Some v) → o ≡ Some s → slot_value s ≡ Some c → v ≡ c
  value_there (Some u) s v c at is here = let same : u ≡ s = cc (is) in cc (at, same, here)
  value_there None s v c at is here = absurd (cc (is))

  -- ---- a fact of each value below a place
  abbrev pub HeldBelow : (T → Type 0) → ℕ → List (Slot T) → Type 0
  HeldBelow P k ss = (i : ℕ) (s : Slot T) (c : T) → i < k → slice_get ss i ≡ Some s → slot_value s ≡ Some c → P c

  pub below_more : (P : T → Type 0) (ss : List (Slot T)) (k : ℕ) (v : T) → HeldBelow P k ss → IfSome (slice_get ss k) (λ s. slot_value s ≡ Some v) → P v → HeldBelow P (k + 1) ss
  below_more P ss k v below at p i s c lt here is = dite (ℕ_discrete i k)
      (λ same. subst P (value_there (slice_get ss k) s v c at (ap (λ (m : ℕ). slice_get ss m) (sym same) ∙ here) is) p)
      (λ apart. below i s c (omega arith) here is)

  pub below_all : (P : T → Type 0) (ss : List (Slot T)) (k : ℕ) → length ss ≤ k → HeldBelow P k ss → (c : T) → IsHeld ss c → P c
  below_all P ss k past below c h = let lt = slice_get_within ss h.0 h.1 h.2 in below h.0 h.1 c (omega arith) h.2 h.3

  pub below_take : (P : T → Type 0) (ss : List (Slot T)) (k : ℕ) → HeldBelow P k ss → (c : T) → IsHeld (take k ss) c → P c
  below_take P ss k below c h = let r = get_take ss k h.0 h.1 h.2 in below h.0 h.1 c r.0 r.1 h.3

  -- the slot at a place whose value is lent
  pub slot_there : (ss : List (Slot T)) (k : ℕ) (v : T) → k < length ss → IfSome (slice_get ss k) (λ s. slot_value s ≡ Some v) → (s : Slot T) × (slice_get ss k ≡ Some s) × (slot_value s ≡ Some v)
  slot_there [] k v lt at = absurd (omega arith)
  slot_there (x ∷ ss) zero v lt at = (x, refl, at)
  slot_there (x ∷ ss) (suc k) v lt at = slot_there ss k v (omega arith) at

  pub held_place : (ss : List (Slot T)) (k : ℕ) (v : T) → k < length ss → IfSome (slice_get ss k) (λ s. slot_value s ≡ Some v) → IsHeld ss v
  held_place ss k v lt at = let s = slot_there ss k v lt at in (k, s.0, s.1, s.2)

  -- ---- values that are changed at place after place
  pub mapped_length : (f : T → T) (ss : List (Slot T)) (k : ℕ) → length (mapped_below k f ss) ≡ length ss
  mapped_length f ss zero = refl
  mapped_length f [] (suc k) = refl
  mapped_length f (x ∷ ss) (suc k) = ap suc (mapped_length f ss k)

  pub mapped_at : (f : T → T) (ss : List (Slot T)) (k : ℕ) → slice_get (mapped_below k f ss) k ≡ slice_get ss k
  mapped_at f ss zero = refl
  mapped_at f [] (suc k) = refl
  mapped_at f (x ∷ ss) (suc k) = mapped_at f ss k

  pub mapped_step : (f : T → T) (ss : List (Slot T)) (k : ℕ) (v w : T) → k < length ss → IfSome (slice_get (mapped_below k f ss) k) (λ s. slot_value s ≡ Some v) → w ≡ f v → place_with (mapped_below k f ss) k w ≡ mapped_below (suc k) f ss
  mapped_step f [] k v w lt at is = absurd (omega arith)
  mapped_step f (x ∷ ss) zero v w lt at is = ap (λ (u : Slot T). u ∷ ss) (slot_mapped f x v w at is)
  mapped_step f (x ∷ ss) (suc k) v w lt at is = ap (λ l. slot_map f x ∷ l) (mapped_step f ss k v w (omega arith) at is)

  pub mapped_all : (f : T → T) (ss : List (Slot T)) (k : ℕ) → length ss ≤ k → mapped_below k f ss ≡ map_values f ss
  mapped_all f [] zero le = refl
  mapped_all f [] (suc k) le = refl
  mapped_all f (x ∷ ss) zero le = absurd (omega arith)
  mapped_all f (x ∷ ss) (suc k) le = ap (λ l. slot_map f x ∷ l) (mapped_all f ss k (omega arith))

  mapped_value : (f : T → T) (s : Slot T) (v : T) → slot_value (slot_map f s) ≡ Some v → (c : T) × (slot_value s ≡ Some c) × (v ≡ f c)
  mapped_value f s v at = elim s.value as (λ o. slot_value (record { number = s.number; value = elim o [ Some b ↦ Some (with_value b (f b.value)) | None ↦ None ] }) ≡ Some v → (c : T) × (◌≡◌ {A = Option T} (elim o [ Some b ↦ Some b.value | None ↦ None ]) (Some c)) × (v ≡ f c)) [
    | Some b ↦ λ h. let same : f b.value ≡ v = cc in (b.value, refl, sym same)
    | None ↦ λ h. absurd (cc)
  ] at

  -- what is held where values are changed
  pub held_mapped : (f : T → T) (ss : List (Slot T)) (v : T) → IsHeld (map_values f ss) v → (c : T) × IsHeld ss c × (v ≡ f c)
  held_mapped f [] v h = absurd (cc (h.2))
  held_mapped f (x ∷ ss) v h = by (h.0) (h.2) (λ i at. held_mapped f ss v (i, h.1, at, h.3))
    where
      by : (i : ℕ) → slice_get (map_values f (x ∷ ss)) i ≡ Some (h.1) → ((i : ℕ) → slice_get (map_values f ss) i ≡ Some (h.1) → (c : T) × IsHeld ss c × (v ≡ f c)) → (c : T) × IsHeld (x ∷ ss) c × (v ≡ f c)
      by zero at rest =
          let same : slot_map f x ≡ h.1 = cc (at) in
          let r = mapped_value f x v (ap slot_value same ∙ h.3) in
          (r.0, (0, x, refl, r.1), r.2)
      by (suc i) at rest = let r = rest i at in (r.0, (suc (r.1.0), r.1.1, r.1.2, r.1.3), r.2)

  -- a fact of each value behind the change is one of each value before
  pub all_mapped : (f : T → T) (ss : List (Slot T)) (Q : T → Type 0) → ((c : T) → IsHeld ss c → Q (f c)) → (v : T) → IsHeld (map_values f ss) v → Q v
  all_mapped f ss Q all v held = let r = held_mapped f ss v held in subst Q (sym r.2) (all r.0 r.1)

-- ---- cells with next values
module _ {C : Type 0} (has_next : C → Bool) where
  pub marked_step : (ss : List (Slot (Stamp C))) (k n : ℕ) (v : Stamp C) → k < length ss → IfSome (slice_get ss k) (λ s. slot_value s ≡ Some v)
      → is_marked has_next (suc k) ss n ≡ is_marked has_next k ss n || (is_ready has_next v.cell && (v.number == n))
  marked_step [] k n v lt at = absurd (omega arith)
  marked_step (x ∷ ss) zero n v lt at = ap (λ o. marks_value has_next n o || false) at ∙ or_none (is_ready has_next v.cell && (v.number == n))
    where
      or_none : (b : Bool) → b || false ≡ b
      or_none true = refl
      or_none false = refl
  marked_step (x ∷ ss) (suc k) n v lt at =
      ap (λ b. marks_value has_next n (slot_value x) || b) (marked_step ss k n v (omega arith) at)
      ∙ or_assoc (marks_value has_next n (slot_value x)) (is_marked has_next k ss n) (is_ready has_next v.cell && (v.number == n))
    where
      or_assoc : (a b c : Bool) → a || (b || c) ≡ (a || b) || c
      or_assoc true b c = refl
      or_assoc false b c = refl

  -- a held cell with a next value marks its number
  pub marked_held : (ss : List (Slot (Stamp C))) (n : ℕ) (c : Stamp C) → IsHeld ss c → is_ready has_next c.cell ≡ true → c.number ≡ n → is_marked has_next (length ss) ss n ≡ true
  marked_held [] n c h ready is = absurd (cc (h.2))
  marked_held (x ∷ ss) n c h ready is = by (h.0) (h.2) (λ i at. marked_held ss n c (i, h.1, at, h.3) ready is)
    where
      or_right : (a b : Bool) → b ≡ true → a || b ≡ true
      or_right true b e = refl
      or_right false b e = e

      by : (i : ℕ) → slice_get (x ∷ ss) i ≡ Some (h.1) → ((i : ℕ) → slice_get ss i ≡ Some (h.1) → is_marked has_next (length ss) ss n ≡ true) → is_marked has_next (length (x ∷ ss)) (x ∷ ss) n ≡ true
      by zero at rest =
          let same : x ≡ h.1 = cc (at) in
          ap (λ o. marks_value has_next n o || is_marked has_next (length ss) ss n) (ap slot_value same ∙ h.3)
          ∙ ap (λ b. (b && (c.number == n)) || is_marked has_next (length ss) ss n) ready ∙ ap (λ b. b || is_marked has_next (length ss) ss n) (eq_true c.number n is)
      by (suc i) at rest = or_right (marks_value has_next n (slot_value x)) (is_marked has_next (length ss) ss n) (rest i at)

  marks_by : (n : ℕ) (o : Option (Stamp C)) → marks_value has_next n o ≡ true → (c : Stamp C) × (o ≡ Some c) × (is_ready has_next c.cell ≡ true) × (c.number ≡ n)
  marks_by n None e = absurd (clash (sym e))
  marks_by n (Some c) e = let b = both_true (is_ready has_next c.cell) (c.number == n) e in (c, refl, b.0, eq_of c.number n b.1)

  -- and nothing else does
  pub held_marked : (ss : List (Slot (Stamp C))) (n : ℕ) → is_marked has_next (length ss) ss n ≡ true → (c : Stamp C) × IsHeld ss c × (is_ready has_next c.cell ≡ true) × (c.number ≡ n)
  held_marked [] n e = absurd (clash (sym e))
  held_marked (x ∷ ss) n e = by (marks_value has_next n (slot_value x)) refl (held_marked ss n)
    where
      by : (b : Bool) → marks_value has_next n (slot_value x) ≡ b → (is_marked has_next (length ss) ss n ≡ true → (c : Stamp C) × IsHeld ss c × (is_ready has_next c.cell ≡ true) × (c.number ≡ n))
          → (c : Stamp C) × IsHeld (x ∷ ss) c × (is_ready has_next c.cell ≡ true) × (c.number ≡ n)
      by true m rest = let r = marks_by n (slot_value x) m in (r.0, (0, x, refl, r.1), r.2, r.3)
      by false m rest = let r = rest (sym (ap (λ b. b || is_marked has_next (length ss) ss n) m) ∙ e) in (r.0, (suc (r.1.0), r.1.1, r.1.2, r.1.3), r.2, r.3)

-- ---- the same of a hold
module _ {T : Type 0} (f : T → T) (h₀ h : Holding T) (k : ℕ) (is : h ≡ record h₀ { slots = mapped_below k f h₀.slots }) where
  pub hold_length : length h.slots ≡ length h₀.slots
  hold_length = ap (λ (x : Holding T). length x.slots) is ∙ mapped_length f h₀.slots k

  -- the value at the place is the first one
  pub hold_at : (v : T) → IfSome (slice_get h.slots k) (λ s. slot_value s ≡ Some v) → IfSome (slice_get h₀.slots k) (λ s. slot_value s ≡ Some v)
  hold_at v at = subst (λ (o : Option (Slot T)). IfSome o (λ s. slot_value s ≡ Some v)) (ap (λ (x : Holding T). slice_get x.slots k) is ∙ mapped_at f h₀.slots k) at

  pub hold_step : (v w : T) → k < length h₀.slots → IfSome (slice_get h.slots k) (λ s. slot_value s ≡ Some v) → w ≡ f v
      → ◌≡◌ {A = Holding T} (record { count = h.count; slots = place_with h.slots k w }) (record { count = h₀.count; slots = mapped_below (k + 1) f h₀.slots })
  hold_step v w lt at made =
      ap (λ (x : Holding T). record { count = x.count; slots = place_with x.slots k w }) is
      ∙ ap (λ (l : List (Slot T)). record { count = h₀.count; slots = l })
      (mapped_step f h₀.slots k v w lt (subst (λ (o : Option (Slot T)). IfSome o (λ s. slot_value s ≡ Some v)) (ap (λ (x : Holding T). slice_get x.slots k) is) at) made ∙ ap (λ m. mapped_below m f h₀.slots) next)
    where
      next : suc k ≡ k + 1
      next = omega arith

  pub hold_done : length h₀.slots ≤ k → h ≡ record h₀ { slots = map_values f h₀.slots }
  hold_done past = is ∙ ap (λ (l : List (Slot T)). record { count = h₀.count; slots = l }) (mapped_all f h₀.slots k past)

-- a hold whose value at a place was lent and left as it was
pub hold_same : {T : Type 0} (h : Holding T) (k : ℕ) (v w : T) → k < length h.slots → IfSome (slice_get h.slots k) (λ s. slot_value s ≡ Some v) → w ≡ v
    → ◌≡◌ {A = Holding T} (record { count = h.count; slots = place_with h.slots k w }) h
hold_same {T} h k v w lt at is = ap (λ (l : List (Slot T)). record { count = h.count; slots = l }) (place_same h.slots k v w lt at is)
