use Rattle.std.proofs.Common.{◌≡◌, ◌∙◌, ℕ, refl, sym, ap, subst, List, Some, slice_get, arith}
use Rattle.std.specs.Prelude.{IfSome, Option}
use Rattle.register_locks.specs.Slots.{Holding, slot_number, slot_value}
use Rattle.register_locks.specs.declared.slot.Slot.{Slot}
use Rattle.register_locks.proofs.HeldLemmas.{Before, found_within, held_at, held_with_at, some_there}
use Rattle.register_locks.proofs.hold.Hold.get.Goals as goal

pub at-requires : goal.at-requires
at-requires g c =
    let ss : List (Slot g.row.T.Denot) = c.args.self.now.slots in
    let same : c.as_slice.result.now ≡ ss = c.as_slice.ensures.value ∙ ap (λ (h : Holding g.row.T.Denot). h.slots) c.self.view_is in
    (omega arith, found_within c.as_slice.result.now ss c.args.number c.place_of-place.result same c.place_of-place.ensures.within c.place_of-place.ensures.first c.requires)

pub returns : goal.returns
returns g c =
    let ss : List (Slot g.row.T.Denot) = c.args.self.now.slots in
    let n : ℕ = c.args.number in
    let place : ℕ = c.place_of-place.result in
    let same : c.as_slice.result.now ≡ ss = c.as_slice.ensures.value ∙ ap (λ (h : Holding g.row.T.Denot). h.slots) c.self.view_is in
    let before : Before ss n place = subst (λ (l : List (Slot g.row.T.Denot)). Before l n place) same c.place_of-place.ensures.first in
    let there = some_there ss place (found_within c.as_slice.result.now ss n place same c.place_of-place.ensures.within c.place_of-place.ensures.first c.requires) in
    let number_is : slot_number there.0 ≡ n = c.place_of-place.ensures.there there.0 (subst (λ (l : List (Slot g.row.T.Denot)). slice_get l place ≡ Some there.0) (sym same) there.1) in
    let value : slot_value there.0 ≡ Some c.at.result.now = subst (λ (o : Option (Slot g.row.T.Denot)). IfSome o (λ u. slot_value u ≡ Some c.at.result.now)) there.1 c.at.ensures.value in (
      (refl, λ w. ap (λ (l : List (Slot g.row.T.Denot)). record { count = c.args.self.now.count; slots = l }) (held_with_at ss n place there.0 w before there.1 number_is)),
      record { writes_back = tt; value = held_at ss n place there.0 before there.1 number_is ∙ value },
    )
