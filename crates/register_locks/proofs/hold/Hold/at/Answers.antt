use Rattle.std.proofs.Common.{◌≡◌, ◌<◌, ◌∙◌, ℕ, sym, ap, subst, refl, List, length, set, Some, slice_get, length-set}
use Rattle.std.proofs.lemmas.Bool.{false≢true}
use Rattle.std.specs.Prelude.{IfSome, is_some, Option}
use Rattle.register_locks.specs.Slots.{Holding, place_with, slot_value, slot_with, RisesTo}
use Rattle.register_locks.specs.declared.slot.Slot.{Slot}
use Rattle.register_locks.proofs.HeldLemmas.{get_at, place_with_at, numbers-set, full_set, full_at, some_with}
use Rattle.register_locks.proofs.hold.Hold.at.Goals as goal

pub unreachable-requires : goal.unreachable-requires
unreachable-requires g c =
    let lt : c.args.place < length c.self.inside.slots.items = subst (λ (h : Holding g.row.T.Denot). c.args.place < length h.slots) (sym c.self.view_is) c.requires in
    false≢true (sym (ap is_some c.in-None.is) ∙ c.get_mut.ensures.variant.1 lt)

pub value-requires : goal.value-requires
value-requires g c =
    let ss : List (Slot g.row.T.Denot) = c.self.inside.slots.items in
    let s : Slot g.row.T.Denot = c.in-Some.slot.now in
    full_at ss c.args.place s c.self.invariant.1 (get_at ss c.args.place s (c.in-Some.ensures.variant.0 refl) c.in-Some.ensures.value)

pub invariant_of-self-lent : goal.invariant_of-self-lent
invariant_of-self-lent g c w =
    let ss : List (Slot g.row.T.Denot) = c.self.inside.slots.items in
    let place : ℕ = c.args.place in
    let s : Slot g.row.T.Denot = c.in-Some.slot.now in
    let at : slice_get ss place ≡ Some s = get_at ss place s (c.in-Some.ensures.variant.0 refl) c.in-Some.ensures.value in (
      subst (λ (l : List ℕ). RisesTo 0 l c.self.inside.locks.now) (sym (numbers-set ss place s (slot_with s w) at refl)) c.self.invariant.0,
      full_set ss place (slot_with s w) c.self.invariant.1 (ap is_some (some_with s w (full_at ss place s c.self.invariant.1 at))),
      c.self.invariant.2,
      c.self.invariant.3 ∙ sym (length-set ss place (slot_with s w)),
    )

pub returns : goal.returns
returns g c =
    let ss : List (Slot g.row.T.Denot) = c.self.inside.slots.items in
    let place : ℕ = c.args.place in
    let s : Slot g.row.T.Denot = c.in-Some.slot.now in
    let at : slice_get ss place ≡ Some s = get_at ss place s (c.in-Some.ensures.variant.0 refl) c.in-Some.ensures.value in
    let count : ℕ = c.self.inside.locks.now in (
      (
        refl,
        λ w. subst (λ (h : Holding g.row.T.Denot). ◌≡◌ {A = Holding g.row.T.Denot} (record { count = count; slots = set ss place (slot_with s w) }) (record { count = h.count; slots = place_with h.slots place w })) c.self.view_is
            (ap (λ (l : List (Slot g.row.T.Denot)). record { count = count; slots = l }) (sym (place_with_at ss place s w at))),
      ),
      record {
        writes_back = tt;
        value = subst (λ (h : Holding g.row.T.Denot). IfSome (slice_get h.slots place) (λ u. slot_value u ≡ Some c.value.result.now)) c.self.view_is
            (subst (λ (o : Option (Slot g.row.T.Denot)). IfSome o (λ u. slot_value u ≡ Some c.value.result.now)) (sym at) c.value.ensures.value);
      },
    )
