use Rattle.std.proofs.Common.{◌≡◌, ◌<◌, ◌+◌, ◌∙◌, ◌++◌, ◌∷◌, [], ℕ, refl, sym, ap, subst, List, length, arith, length-append}
use Rattle.std.specs.Prelude.{is_some, IsSome, All}
use Rattle.register_locks.specs.Slots.{Holding, numbers, slot_value, RisesTo}
use Rattle.register_locks.specs.declared.slot.Slot.{Slot}
use Rattle.register_locks.proofs.HeldLemmas.{Full, all_more, rises_more, numbers-snoc}
use Rattle.register_locks.proofs.hold.Hold.take.Goals as goal

-- the slots have as many places as the hold shows
shown : {T : Type 0} (ss : List (Slot T)) (h : Holding T) (count room : ℕ) → ◌≡◌ {A = Holding T} (record { count = count; slots = ss }) h → length h.slots < room → length ss < room
shown ss h count room is lt = subst (λ (k : Holding _). length k.slots < room) (sym is) lt

pub push-requires : goal.push-requires
push-requires g c =
    (omega arith, shown c.self.inside.slots.items c.args.self.now c.self.inside.locks.now _ c.self.view_is c.requires.room)

pub push-requires-2 : goal.push-requires-2
push-requires-2 g c =
    let r = shown c.self.inside.slots.items c.args.self.now c.self.inside.locks.now _ c.self.view_is c.requires.room in
    (omega arith, omega (arith, c.self.invariant.3, r))

pub invariant_of-self : goal.invariant_of-self
invariant_of-self g c =
    let ss : List (Slot g.row.T.Denot) = c.self.inside.slots.items in
    let s : Slot g.row.T.Denot = c.acquire-slot.result.0 in
    let there = c.acquire-slot.ensures.there in
    let n : ℕ = c.args.number in
    let below : All (λ m. m < n) (numbers ss) = subst (λ (k : Holding g.row.T.Denot). All (λ m. m < n) (numbers k.slots)) (sym c.self.view_is) c.requires.rising in
    let lt : n < c.self.inside.locks.now = subst (λ (k : Holding g.row.T.Denot). n < k.count) (sym c.self.view_is) c.requires.there in
    let all = c.push.ensures.items in (
      subst (λ (l : List ℕ). RisesTo 0 l c.self.inside.locks.now)
          (sym (ap numbers all ∙ (numbers-snoc ss s ∙ ap (λ (m : ℕ). numbers ss ++ m ∷ []) there.0)))
          (rises_more 0 (numbers ss) c.self.inside.locks.now n c.self.invariant.0 below (omega arith) lt),
      subst Full (sym all) (all_more (λ u. IsSome (slot_value u)) ss s c.self.invariant.1 (ap is_some there.1.1)),
      subst (All (λ o. IsSome o)) (sym c.push-2.ensures.items) (all_more (λ o. IsSome o) c.self.inside.guards.items _ c.self.invariant.2 refl),
      ap length c.push-2.ensures.items ∙ (length-append c.self.inside.guards.items _ ∙ (ap (λ (m : ℕ). m + 1) c.self.invariant.3 ∙ (sym (length-append ss (s ∷ [])) ∙ sym (ap length all)))),
    )
