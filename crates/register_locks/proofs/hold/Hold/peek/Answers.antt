use Rattle.std.proofs.Common.{◌≡◌, ◌∙◌, ℕ, sym, ap, List, Some, slice_get, arith}
use Rattle.register_locks.specs.Slots.{Holding, held}
use Rattle.register_locks.specs.declared.slot.Slot.{Slot}
use Rattle.register_locks.proofs.HeldLemmas.{get_at, held_at, none_past}
use Rattle.register_locks.proofs.hold.Hold.peek.Goals as goal

pub returns-in-Some : goal.returns-in-Some
returns-in-Some g c =
    let ss : List (Slot g.row.T.Denot) = c.as_slice-slots.result.now in
    let place : ℕ = c.place_of.result in
    let s : Slot g.row.T.Denot = c.in-Some.slot.now in
    let at : slice_get ss place ≡ Some s = get_at ss place s c.in-Some.ensures.lookup.3.0 c.in-Some.ensures.lookup.1 in
    c.peek.ensures ∙ sym (held_at ss c.args.number place s c.place_of.ensures.first at (c.place_of.ensures.there s at))
    ∙ ap (λ (l : List (Slot g.row.T.Denot)). held l c.args.number) (c.as_slice-slots.ensures.value ∙ ap (λ (h : Holding g.row.T.Denot). h.slots) c.self.view_is)

pub returns-in-None : goal.returns-in-None
returns-in-None g c =
    let ss : List (Slot g.row.T.Denot) = c.as_slice-slots.result.now in
    let place : ℕ = c.place_of.result in
    sym (none_past ss c.args.number place (omega (arith, c.in-None.ensures.lookup.3, c.place_of.ensures.within)) c.place_of.ensures.first)
    ∙ ap (λ (l : List (Slot g.row.T.Denot)). held l c.args.number) (c.as_slice-slots.ensures.value ∙ ap (λ (h : Holding g.row.T.Denot). h.slots) c.self.view_is)
