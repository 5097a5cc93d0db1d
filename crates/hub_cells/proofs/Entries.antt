-- A prepared step whose cells were laid back among held cells has them, in the sense of a commit.
use Rattle.std.proofs.Common.{ℕ, ◌≡◌, ◌+◌, ◌-◌, ◌≤◌, ⊎_elim, true, false, List, [], ◌∷◌, ◌++◌, length, Option, None, Some, IsSome, is_some, option_map, refl, sym, ap, subst, ◌∙◌, arith}
use Rattle.state_model.specs.Amplitudes.{Amplitudes}
use Rattle.state_model.proofs.Booleans.{clash}
use Rattle.network_model.specs.Network.{Network, Shape}
use Rattle.network_model.specs.History.{IsLegal, IsLegalEntry, advance, after}
use Rattle.network_model.specs.Factored.{FitsNode, FitsPool, FitsSlot, homes_after}
use Rattle.network_model.specs.declared.Entry.{Entry}
use Rattle.network_model.proofs.Histories.{after-last, homes_after-last, legal-last}
use Rattle.virtual_node.specs.Node.{Node as NodeValue, held_map, arrived_map}
use Rattle.core_cells.specs.Pool.{Pool as PoolValue}
use Rattle.core_cells.specs.Cells.{Cells, CellsFit, settled_slot, register_of}
use Rattle.core_cells.specs.Nodes.{NodeValues}
use Rattle.core_cells.specs.declared.cells.PoolPair.{PoolPair}
use Rattle.core_cells.specs.declared.cells.SlotCell.{SlotCell}
use Rattle.core_cells.specs.Names.{names_node, names_pool, names_slot}
use Rattle.factored_core.specs.Changes.{Changes, change_at, changed, next_of, with_next_node, with_next_pool, with_next_slot, register_with, ChangesFit, IsPreparedStep}
use Rattle.factored_core.specs.declared.prepared.Prepared.{Prepared}
use Rattle.factored_core.proofs.Changed.{there, some_node, some_pool, some_slot}
use Rattle.factored_core.proofs.Homed.{legal_histories_stand}
use Rattle.register_locks.specs.declared.slot.Slot.{Slot as Place}
use Rattle.commit_journal.specs.Touching.{touches}
use Rattle.commit_journal.specs.Views.{Stamp}
use Rattle.commit_journal.specs.Holding.{AllFit, IsEntered}
use Rattle.hub_cells.specs.declared.cell.Cell.{Cell}
use Rattle.hub_cells.specs.declared.cell.Cell.TheVariants.{Node, Pool, Slot}
use Rattle.hub_cells.specs.Cell.{FitsCell, has_next, is_prepared, settled_cell}
use Rattle.hub_cells.specs.CellLaws.{touches_a_node, touches_the_pool, touches_a_slot, node_fits, pool_fits, slot_fits}
use Rattle.hub_cells.specs.Laid.{cell_at, IsLaid, PreparedStepsHaveEntries}
use Rattle.hub_cells.proofs.Numbers.{at_node, at_pool, at_slot, Kind, a_node, the_pool, a_slot, kind_of}

some_of : {A : Type 0} (o : Option A) (x : A) → o ≡ Some x → IsSome o
some_of o x e = ap is_some e

is_there : {A : Type 0} (o : Option A) → is_some o ≡ true → (x : A) × (o ≡ Some x)
is_there None e = absurd (clash (sym e))
is_there (Some x) e = (x, refl)

not_there : {A : Type 0} (o : Option A) → is_some o ≡ false → o ≡ None
not_there None e = refl
not_there (Some x) e = absurd (clash e)

mapped_some : {A B : Type 0} (f : A → B) (o : Option A) → IsSome o → IsSome (option_map f o)
mapped_some f None h = h
mapped_some f (Some x) h = h

same_some : {A : Type 0} (a b : A) → Some a ≡ Some b → a ≡ b
same_some a b e = cc (e)

module _ (shape : Shape) (cells : ℕ) (old new : Cells) (p : Prepared) (slots : List (Place (Stamp Cell))) (limit : 1 ≤ shape.limit) (step : IsPreparedStep shape old new p) (laid : IsLaid shape slots new)
    (h : List Entry) (legal : IsLegal shape h) (all : AllFit FitsCell shape slots h) where
  abbrev ch : Changes
  ch = step.changes

  abbrev e : Entry
  e = p.entry

  -- ---- what the board has
  new_node : (m : ℕ) (w : NodeValues) → old.node m ≡ Some w → new.node m ≡ Some (with_next_node (change_at ch.nodes m) w)
  unfolding changed
  new_node m w is = ap (λ (c : Cells). c.node m) step.after ∙ ap (option_map (with_next_node (change_at ch.nodes m))) is

  new_pool : (w : PoolPair) → old.pool ≡ Some w → new.pool ≡ Some (with_next_pool ch.pool w)
  unfolding changed
  new_pool w is = ap (λ (c : Cells). c.pool) step.after ∙ ap (option_map (with_next_pool ch.pool)) is

  new_slot : (t : ℕ) (w : SlotCell) → old.slot t ≡ Some w → new.slot t ≡ Some (with_next_slot (change_at ch.slots t) w)
  unfolding changed
  new_slot t w is = ap (λ (c : Cells). c.slot t) step.after ∙ ap (option_map (with_next_slot (change_at ch.slots t))) is

  old_node : (m : ℕ) (v : NodeValues) → new.node m ≡ Some v → (w : NodeValues) × (v ≡ with_next_node (change_at ch.nodes m) w)
  unfolding changed
  old_node m v is = let x = there (with_next_node (change_at ch.nodes m)) (old.node m) v (ap (λ (c : Cells). c.node m) (sym step.after) ∙ is) in (x.0, sym (x.1.1))

  old_pool : (v : PoolPair) → new.pool ≡ Some v → (w : PoolPair) × (v ≡ with_next_pool ch.pool w)
  unfolding changed
  old_pool v is = let x = there (with_next_pool ch.pool) old.pool v (ap (λ (c : Cells). c.pool) (sym step.after) ∙ is) in (x.0, sym (x.1.1))

  old_slot : (t : ℕ) (v : SlotCell) → new.slot t ≡ Some v → (w : SlotCell) × (old.slot t ≡ Some w) × (v ≡ with_next_slot (change_at ch.slots t) w)
  unfolding changed
  old_slot t v is = let x = there (with_next_slot (change_at ch.slots t)) (old.slot t) v (ap (λ (c : Cells). c.slot t) (sym step.after) ∙ is) in (x.0, x.1.0, sym (x.1.1))

  -- ---- the cells of the board fit the history
  fits_at : (n : ℕ) (x : Cell) → cell_at shape new n ≡ Some x → FitsCell shape n x h
  fits_at n x is =
      let c = laid.held n (some_of (cell_at shape new n) x is) in
      let y = laid.cells c.0 c.1 in
      let fit : FitsCell shape c.0.number y.0 h = all c.0 y.0 c.1 y.1 in
      let here : cell_at shape new c.0.number ≡ Some x = ap (cell_at shape new) c.2 ∙ is in
      let same : y.0 ≡ x = ⊎_elim (λ at. same_some y.0 x (sym at ∙ here)) (λ none. absurd (cc (none.0, here))) y.2 in
      subst (λ (z : Cell). FitsCell shape n z h) same (subst (λ (m : ℕ). FitsCell shape m y.0 h) c.2 fit)

  old_fits : CellsFit shape (after shape h) (homes_after shape h) old
  old_fits = record {
    nodes = λ m w is.
        let here = new_node m w is in
        let low = laid.nodes m (some_of (new.node m) _ here) in
        ((fits_at m (Node (with_next_node (change_at ch.nodes m) w)) (at_node shape new m low ∙ ap (option_map Node) here)).node (with_next_node (change_at ch.nodes m) w) refl).1;
    pool = λ w is.
        ((fits_at (length shape.places) (Pool (with_next_pool ch.pool w)) (at_pool shape new (length shape.places) refl ∙ ap (option_map Pool) (new_pool w is))).pool (with_next_pool ch.pool w) refl).1;
    slots = λ t w is.
        let n : ℕ = length shape.places + 1 + t in
        let place : n - (length shape.places + 1) ≡ t = omega arith in
        let at : cell_at shape new n ≡ Some (Slot (with_next_slot (change_at ch.slots t) w)) =
        at_slot shape new n (omega arith) ∙ ap (λ u. option_map Slot (new.slot u)) place ∙ ap (option_map Slot) (new_slot t w is) in
        subst (λ (u : ℕ). FitsSlot shape (after shape h) (homes_after shape h) u (register_of w.register)) place
        (((fits_at n (Slot (with_next_slot (change_at ch.slots t) w)) at).slot (with_next_slot (change_at ch.slots t) w) refl).1);
  }

  got : IsLegalEntry shape (after shape h) e × ChangesFit shape (after shape h) (homes_after shape h) e ch
  got = step.step (after shape h) (homes_after shape h) (legal_histories_stand shape h limit legal) old_fits

  -- ---- what the entry touches is there
  some_after : IsSome old.pool → IsSome new.pool
  some_after has = subst (λ (c : Cells). IsSome c.pool) (sym step.after) (some_pool old ch has)

  touched_there : (n : ℕ) → touches shape h e n ≡ true → IsSome (cell_at shape new n)
  touched_there n t = by (kind_of shape n)
    where
      by : Kind shape n → IsSome (cell_at shape new n)
      by (a_node low) =
          let named : names_node p.touched n ≡ true = step.named.nodes n ∙ (sym (got.1.nodes_touched n) ∙ (sym (touches_a_node shape h e n low) ∙ t)) in
          let has : IsSome (new.node n) = subst (λ (c : Cells). IsSome (c.node n)) (sym step.after) (some_node old ch n (step.there.node n named)) in
          subst (λ (o : Option Cell). IsSome o) (sym (at_node shape new n low)) (mapped_some Node (new.node n) has)
      by (the_pool is) =
          let named : names_pool p.touched ≡ true = step.named.pool ∙ (sym got.1.pool_touched ∙ (sym (touches_the_pool shape h e n is) ∙ t)) in
          subst (λ (o : Option Cell). IsSome o) (sym (at_pool shape new n is)) (mapped_some Pool new.pool (some_after (step.there.pool named)))
      by (a_slot high) =
          let u : ℕ = n - (length shape.places + 1) in
          let named : names_slot p.touched u ≡ true = step.named.slots u ∙ (sym (got.1.slots_touched u) ∙ (sym (touches_a_slot shape h e n high) ∙ t)) in
          let has : IsSome (new.slot u) = subst (λ (c : Cells). IsSome (c.slot u)) (sym step.after) (some_slot old ch u (step.there.slot u named)) in
          subst (λ (o : Option Cell). IsSome o) (sym (at_slot shape new n high)) (mapped_some Slot (new.slot u) has)

  -- ---- a touched cell has a next value, which fits; another has none
  next_at : (n : ℕ) (x : Cell) → cell_at shape new n ≡ Some x → touches shape h e n ≡ true → (has_next x ≡ true) × FitsCell shape n (settled_cell x) (h ++ e ∷ [])
  next_at n x at t = by (kind_of shape n)
    where
      by : Kind shape n → (has_next x ≡ true) × FitsCell shape n (settled_cell x) (h ++ e ∷ [])
      by (a_node low) =
          let v = there Node (new.node n) x (sym (at_node shape new n low) ∙ at) in
          let w = old_node n v.0 v.1.0 in
          let next = is_there (change_at ch.nodes n) (sym (got.1.nodes_touched n) ∙ (sym (touches_a_node shape h e n low) ∙ t)) in
          let is : Node (record w.0 { next = Some next.0 }) ≡ x = ap (λ (o : Option NodeValue). Node (with_next_node o w.0)) (sym next.1) ∙ ap Node (sym w.1) ∙ v.1.1 in
          let fit : FitsNode (after shape (h ++ e ∷ [])) n (held_map next.0) (arrived_map next.0) =
          subst (λ (s : Network). FitsNode s n (held_map next.0) (arrived_map next.0)) (sym (after-last shape h e)) (got.1.nodes n next.0 next.1) in (
            ap has_next (sym is),
            subst (λ (y : Cell). FitsCell shape n (settled_cell y) (h ++ e ∷ [])) is (node_fits shape n (h ++ e ∷ []) (record { now = next.0; next = None }) low fit),
          )
      by (the_pool is_pool) =
          let v = there Pool new.pool x (sym (at_pool shape new n is_pool) ∙ at) in
          let w = old_pool v.0 v.1.0 in
          let next = is_there ch.pool (sym got.1.pool_touched ∙ (sym (touches_the_pool shape h e n is_pool) ∙ t)) in
          let is : Pool (record w.0 { next = Some next.0 }) ≡ x = ap (λ (o : Option PoolValue). Pool (with_next_pool o w.0)) (sym next.1) ∙ ap Pool (sym w.1) ∙ v.1.1 in
          let fit : FitsPool shape (after shape (h ++ e ∷ [])) (homes_after shape (h ++ e ∷ [])) next.0.numbers next.0.slots next.0.pairs =
          subst (λ (s : Network). FitsPool shape s (homes_after shape (h ++ e ∷ [])) next.0.numbers next.0.slots next.0.pairs) (sym (after-last shape h e))
          (subst (λ (f : ℕ → ℕ). FitsPool shape (advance shape (after shape h) e) f next.0.numbers next.0.slots next.0.pairs) (sym (homes_after-last shape h e)) (got.1.pool next.0 next.1)) in (
            ap has_next (sym is),
            subst (λ (y : Cell). FitsCell shape n (settled_cell y) (h ++ e ∷ [])) is (pool_fits shape n (h ++ e ∷ []) (record { now = next.0; next = None }) is_pool fit),
          )
      by (a_slot high) =
          let u : ℕ = n - (length shape.places + 1) in
          let v = there Slot (new.slot u) x (sym (at_slot shape new n high) ∙ at) in
          let w = old_slot u v.0 v.1.0 in
          let next = is_there (change_at ch.slots u) (sym (got.1.slots_touched u) ∙ (sym (touches_a_slot shape h e n high) ∙ t)) in
          let is : Slot (with_next_slot (Some next.0) w.0) ≡ x = ap (λ (o : Option Amplitudes). Slot (with_next_slot o w.0)) (sym next.1) ∙ ap Slot (sym w.2) ∙ v.1.1 in
          let fit : FitsSlot shape (after shape (h ++ e ∷ [])) (homes_after shape (h ++ e ∷ [])) u (register_with shape.limit next.0) =
          subst (λ (s : Network). FitsSlot shape s (homes_after shape (h ++ e ∷ [])) u (register_with shape.limit next.0)) (sym (after-last shape h e))
          (subst (λ (f : ℕ → ℕ). FitsSlot shape (advance shape (after shape h) e) f u (register_with shape.limit next.0)) (sym (homes_after-last shape h e)) (got.1.slots u next.0 next.1)) in
          let limit_is : w.0.register.limit ≡ shape.limit = (old_fits.slots u w.0 w.1).limit in (
            ap has_next (sym is),
            subst (λ (y : Cell). FitsCell shape n (settled_cell y) (h ++ e ∷ [])) is
                (slot_fits shape n (h ++ e ∷ []) (settled_slot (with_next_slot (Some next.0) w.0)) high
                (subst (λ (l : ℕ). FitsSlot shape (after shape (h ++ e ∷ [])) (homes_after shape (h ++ e ∷ [])) u (register_with l next.0)) (sym limit_is) fit)),
          )

  none_at : (n : ℕ) (x : Cell) → cell_at shape new n ≡ Some x → touches shape h e n ≡ false → has_next x ≡ false
  none_at n x at t = by (kind_of shape n)
    where
      by : Kind shape n → has_next x ≡ false
      by (a_node low) =
          let v = there Node (new.node n) x (sym (at_node shape new n low) ∙ at) in
          let w = old_node n v.0 v.1.0 in
          let none = not_there (change_at ch.nodes n) (sym (got.1.nodes_touched n) ∙ (sym (touches_a_node shape h e n low) ∙ t)) in
          ap has_next (sym (v.1.1)) ∙ ap (λ (y : NodeValues). is_some y.next) w.1 ∙ ap is_some none
      by (the_pool is_pool) =
          let v = there Pool new.pool x (sym (at_pool shape new n is_pool) ∙ at) in
          let w = old_pool v.0 v.1.0 in
          let none = not_there ch.pool (sym got.1.pool_touched ∙ (sym (touches_the_pool shape h e n is_pool) ∙ t)) in
          ap has_next (sym (v.1.1)) ∙ ap (λ (y : PoolPair). is_some y.next) w.1 ∙ ap is_some none
      by (a_slot high) =
          let u : ℕ = n - (length shape.places + 1) in
          let v = there Slot (new.slot u) x (sym (at_slot shape new n high) ∙ at) in
          let w = old_slot u v.0 v.1.0 in
          let none = not_there (change_at ch.slots u) (sym (got.1.slots_touched u) ∙ (sym (touches_a_slot shape h e n high) ∙ t)) in
          ap has_next (sym (v.1.1)) ∙ ap (λ (y : SlotCell). is_prepared y.register.next) w.2 ∙ ap (λ (o : Option Amplitudes). is_prepared (next_of o)) none

  pub entered : IsEntered FitsCell has_next settled_cell shape cells slots h e
  entered = record {
    legal = legal-last shape h e legal got.0;
    held = λ n lt t. laid.held n (touched_there n t);
    next = λ c held t.
        let y = laid.cells c held in
        let at : cell_at shape new c.number ≡ Some y.0 = ⊎_elim (λ at. at) (λ none. absurd (clash (sym (touched_there c.number t) ∙ ap is_some none.0))) y.2 in
        let n = next_at c.number y.0 at t in
        (y.0, y.1, n.0, n.1);
    others = λ c x held t is.
        let y = laid.cells c held in
        let same : y.0 ≡ x = same_some y.0 x (sym y.1 ∙ is) in
        ap has_next (sym same) ∙ ⊎_elim (λ at. none_at c.number y.0 at t) (λ none. none.1) y.2;
  }

pub prepared_steps_have_entries : PreparedStepsHaveEntries
prepared_steps_have_entries shape cells old new p slots limit step laid h legal all = entered shape cells old new p slots limit step laid h legal all
