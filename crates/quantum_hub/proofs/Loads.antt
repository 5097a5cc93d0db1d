-- Loads and lays, one held cell after another.
use Rattle.std.proofs.Common.{ℕ, zero, suc, ◌≡◌, ◌≢◌, ◌⊎◌, inl, inr, ⊎_elim, ◌+◌, ◌<◌, ◌≤◌, false, List, [], ◌∷◌, length, Option, None, Some, IsSome, is_some, slice_get, refl, sym, ap, subst, ◌∙◌, arith}
use Rattle.std.specs.Prelude.{IfSome}
use Rattle.std.specs.Box.{with_value}
use mathlib.Core.Logic.{dite}
use native.Mathlib.Decide.{ℕ_discrete}
use Rattle.state_model.proofs.Booleans.{clash}
use Rattle.network_model.specs.Network.{Shape}
use Rattle.core_cells.specs.Cells.{Cells}
use Rattle.register_locks.specs.declared.slot.Slot.{Slot as Place}
use Rattle.register_locks.specs.Slots.{Holding, slot_value, slot_with, place_with}
use Rattle.commit_journal.specs.Views.{Stamp}
use Rattle.commit_journal.proofs.Slots.{HeldBelow, below_all}
use Rattle.held_board.specs.Held.{HasNone}
use Rattle.hub_cells.specs.declared.cell.Cell.{Cell}
use Rattle.hub_cells.specs.declared.cell.Cell.TheVariants.{Node, Pool, Slot}
use Rattle.hub_cells.specs.Cell.{has_next}
use Rattle.hub_cells.specs.Laid.{cell_at, IsLaid}
use Rattle.hub_cells.proofs.Numbers.{at_node, at_pool, at_slot, Kind, a_node, the_pool, a_slot, kind_of}
use Rattle.std.specs.Prelude.{option_map}
use Rattle.quantum_hub.specs.Moves.{IsLaidOne}

-- ---- places of a list of slots
module _ {T : Type 0} where
  get_other : (ss : List (Place T)) (k i : ℕ) (w : T) → i ≢ k → slice_get (place_with ss k w) i ≡ slice_get ss i
  get_other [] k i w apart = refl
  get_other (x ∷ ss) zero zero w apart = absurd (apart refl)
  get_other (x ∷ ss) zero (suc i) w apart = refl
  get_other (x ∷ ss) (suc k) zero w apart = refl
  get_other (x ∷ ss) (suc k) (suc i) w apart = get_other ss k i w (λ e. apart (ap suc e))

  value_with : (s : Place T) (v w : T) → slot_value s ≡ Some v → slot_value (slot_with s w) ≡ Some w
  value_with s v w = elim s.value as (λ o. ◌≡◌ {A = Option T} (elim o [ Some b ↦ Some b.value | None ↦ None ]) (Some v) → slot_value (record { number = s.number; value = elim o [ Some b ↦ Some (with_value b w) | None ↦ None ] }) ≡ Some w) [
    | Some b ↦ λ h. refl
    | None ↦ λ h. absurd (cc)
  ]

  get_here : (ss : List (Place T)) (k : ℕ) (v w : T) → k < length ss → IfSome (slice_get ss k) (λ s. slot_value s ≡ Some v) → (s : Place T) × (slice_get (place_with ss k w) k ≡ Some s) × (slot_value s ≡ Some w)
  get_here [] k v w lt at = absurd (omega arith)
  get_here (x ∷ ss) zero v w lt at = (slot_with x w, refl, value_with x v w at)
  get_here (x ∷ ss) (suc k) v w lt at = get_here ss k v w (omega arith) at

  place_length : (ss : List (Place T)) (k : ℕ) (w : T) → length (place_with ss k w) ≡ length ss
  place_length [] k w = refl
  place_length (x ∷ ss) zero w = refl
  place_length (x ∷ ss) (suc k) w = ap suc (place_length ss k w)

  pub at_first : (ss ts : List (Place T)) (k : ℕ) (v : T) → slice_get ts k ≡ slice_get ss k → IfSome (slice_get ts k) (λ s. slot_value s ≡ Some v) → IfSome (slice_get ss k) (λ s. slot_value s ≡ Some v)
  at_first ss ts k v same at = subst (λ (o : Option (Place T)). IfSome o (λ s. slot_value s ≡ Some v)) same at

-- ---- laying
-- a stamped cell has its cell, which is the board's or has no next value
abbrev pub IsDone : Shape → Cells → Stamp Cell → Type 0
IsDone shape before v = (x : Cell) × (v.cell ≡ Some x) × ((cell_at shape before v.number ≡ Some x) ⊎ ((cell_at shape before v.number ≡ None) × (has_next x ≡ false)))

-- the first k held cells are laid
pub record IsLaying (shape : Shape) (k : ℕ) (first now : Holding (Stamp Cell)) (before after : Cells) : Type 0 where
  pub size : length now.slots ≡ length first.slots
  pub later : (i : ℕ) → k ≤ i → slice_get now.slots i ≡ slice_get first.slots i
  pub below : HeldBelow (IsDone shape before) k now.slots
  pub fewer : (n : ℕ) (x : Cell) → cell_at shape after n ≡ Some x → cell_at shape before n ≡ Some x
  pub left : (n : ℕ) → IsSome (cell_at shape before n) → IsSome (cell_at shape after n) ⊎ ((i : ℕ) × (s : Place (Stamp Cell)) × (v : Stamp Cell) × (i < k) × (slice_get now.slots i ≡ Some s) × (slot_value s ≡ Some v) × (v.number ≡ n))

pub laying_none : (shape : Shape) (first : Holding (Stamp Cell)) (cs : Cells) → IsLaying shape 0 first first cs cs
laying_none shape first cs = record {
  size = refl;
  later = λ i le. refl;
  below = λ i s c lt at is. absurd (omega arith);
  fewer = λ n x at. at;
  left = λ n has. inl has;
}

module _ (shape : Shape) (k : ℕ) (first now : Holding (Stamp Cell)) (before mid after : Cells) (laying : IsLaying shape k first now before mid) (v w : Stamp Cell) (lt : k < length first.slots)
    (at : IfSome (slice_get now.slots k) (λ s. slot_value s ≡ Some v)) (idle : (x : Cell) → v.cell ≡ Some x → (has_next x ≡ false) × (cell_at shape before v.number ≡ None)) (one : IsLaidOne shape v w mid after) where
  here : (s : Place (Stamp Cell)) × (slice_get (place_with now.slots k w) k ≡ Some s) × (slot_value s ≡ Some w)
  here = get_here now.slots k v w (omega (arith, laying.size)) at

  done : IsDone shape before w
  done = (
    one.cell,
    one.there,
    ⊎_elim (λ old. let i = idle one.cell old in inr (ap (cell_at shape before) one.number ∙ i.1, i.0))
        (λ lifted. inl (ap (cell_at shape before) one.number ∙ laying.fewer v.number one.cell lifted.1)) one.case,
  )

  pub laying_more : IsLaying shape (k + 1) first (record { count = now.count; slots = place_with now.slots k w }) before after
  laying_more = record {
    size = place_length now.slots k w ∙ laying.size;
    later = λ i le. get_other now.slots k i w (λ e. absurd (omega arith)) ∙ laying.later i (omega arith);
    below = λ i s c less there is. dite (ℕ_discrete i k)
        (λ same. let s_is : here.0 ≡ s = cc (here.1, there, same) in let c_is : w ≡ c = cc (here.2, is, s_is) in subst (λ (u : Stamp Cell). IsDone shape before u) c_is done)
        (λ other. laying.below i s c (omega arith) (sym (get_other now.slots k i w other) ∙ there) is);
    fewer = λ n x there. laying.fewer n x (one.fewer n x there);
    left = λ n has. ⊎_elim
        (λ still. ⊎_elim (λ more. inl more) (λ is. inr (k, here.0, w, omega arith, here.1, here.2, one.number ∙ sym is)) (one.left n still))
        (λ laid. let less : laid.0 < k = laid.3 in inr (laid.0, laid.1, laid.2, omega arith, get_other now.slots k laid.0 w (λ e. absurd (omega arith)) ∙ laid.4, laid.5, laid.6))
        (laying.left n has);
  }

-- where no cell is left on the board all are laid
pub cell_none : (shape : Shape) (cs : Cells) → HasNone cs → (n : ℕ) → cell_at shape cs n ≡ None
cell_none shape cs none n = by (kind_of shape n)
  where
    by : Kind shape n → cell_at shape cs n ≡ None
    by (a_node low) = at_node shape cs n low ∙ ap (option_map Node) (none.node n)
    by (the_pool is) = at_pool shape cs n is ∙ ap (option_map Pool) none.pool
    by (a_slot high) = at_slot shape cs n high ∙ ap (option_map Slot) (none.slot _)

pub all_laid : (shape : Shape) (k : ℕ) (first now : Holding (Stamp Cell)) (before after : Cells) → IsLaying shape k first now before after → length first.slots ≤ k
    → ((m : ℕ) → IsSome (before.node m) → m < length shape.places) → HasNone after → IsLaid shape now.slots before
all_laid shape k first now before after laying past nodes none = record {
  nodes = nodes;
  held = λ n has. ⊎_elim
      (λ still. absurd (clash (sym still ∙ ap is_some (cell_none shape after none n))))
      (λ laid. (laid.2, (laid.0, laid.1, laid.4, laid.5), laid.6)) (laying.left n has);
  cells = λ c held. below_all (IsDone shape before) now.slots k (omega (arith, laying.size)) laying.below c held;
}
