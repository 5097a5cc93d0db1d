-- Cells that were moved from a hold onto a board: they stand for the history, a step can be prepared, and they can be laid back.
use Rattle.std.proofs.Common.{ℕ, ◌≡◌, ◌+◌, ◌-◌, ◌<◌, ◌≤◌, Bool, true, false, cond, List, [], length, Option, None, Some, IsSome, is_some, option_map, refl, sym, ap, subst, ◌∙◌, arith}
use Rattle.state_model.specs.Row.{is_listed}
use Rattle.state_model.proofs.Booleans.{clash}
use Rattle.amplitude_register.specs.States.{empty}
use Rattle.network_model.specs.Network.{Shape}
use Rattle.network_model.specs.History.{IsLegal, after}
use Rattle.network_model.specs.Factored.{FitsSlot, homes_after}
use Rattle.network_model.specs.declared.Entry.{Entry}
use Rattle.cell_laws.specs.Standing.{IsStanding}
use Rattle.core_cells.specs.Cells.{Cells, CellsFit, IsUnprepared, register_of, forgotten_node, forgotten_pool, forgotten_slot}
use Rattle.core_cells.specs.Nodes.{NodeValues}
use Rattle.core_cells.specs.declared.cells.PoolPair.{PoolPair}
use Rattle.core_cells.specs.declared.cells.SlotCell.{SlotCell}
use Rattle.factored_core.specs.Changes.{Changes, Stands, changed, change_at, with_next_node, with_next_pool, with_next_slot, IsPreparedStep}
use Rattle.factored_core.specs.declared.prepared.Prepared.{Prepared}
use Rattle.factored_core.proofs.Changed.{there}
use Rattle.factored_core.proofs.Homed.{legal_histories_stand}
use Rattle.register_locks.specs.declared.slot.Slot.{Slot as Place}
use Rattle.register_locks.specs.Slots.{Holding}
use Rattle.commit_journal.specs.Views.{Stamp}
use Rattle.commit_journal.specs.Holding.{IsHeld, AllFit, map_values, forgotten_stamp}
use Rattle.commit_journal.proofs.Slots.{held_mapped}
use Rattle.held_board.specs.Held.{Held, held_cells}
use Rattle.hub_cells.specs.declared.cell.Cell.{Cell}
use Rattle.hub_cells.specs.declared.cell.Cell.TheVariants.{Node, Pool, Slot}
use Rattle.hub_cells.specs.Cell.{FitsCell, has_next, forgotten_cell}
use Rattle.hub_cells.specs.CellLaws.{none_forgotten_is, same_node, same_pool, same_slot, node_fits, pool_fits, slot_fits}
use Rattle.hub_cells.specs.Laid.{cell_at}
use Rattle.hub_cells.proofs.Numbers.{at_node, at_pool, at_slot, Kind, a_node, the_pool, a_slot, kind_of}
use Rattle.quantum_hub.specs.Moves.{IsLoaded, lifted}
use Rattle.quantum_hub.specs.Steps.{KeepsValues}
use Rattle.quantum_hub.specs.Tries.{AreApart}
use Rattle.quantum_hub.proofs.Loads.{cell_none}

same_some : {A : Type 0} (a b : A) → Some a ≡ Some b → a ≡ b
same_some a b e = cc (e)

some_of : {A B : Type 0} (f : A → B) (o : Option A) (x : B) → option_map f o ≡ Some x → (y : A) × (o ≡ Some y) × (f y ≡ x)
some_of f None x e = absurd (cc (e))
some_of f (Some y) x e = (y, refl, cc (e))

-- ---- held cells whose next values were forgotten
abbrev pub AreForgotten : List (Place (Stamp Cell)) → Type 0
AreForgotten slots = (c : Stamp Cell) (x : Cell) → IsHeld slots c → c.cell ≡ Some x → (y : Cell) × (x ≡ forgotten_cell y)

pub forgotten_mapped : (h₀ h : Holding (Stamp Cell)) → h ≡ record h₀ { slots = map_values (forgotten_stamp forgotten_cell) h₀.slots } → AreForgotten h.slots
forgotten_mapped h₀ h is c x held at =
    let r = held_mapped (forgotten_stamp forgotten_cell) h₀.slots c (subst (λ (k : Holding (Stamp Cell)). IsHeld k.slots c) is held) in
    let y = some_of forgotten_cell r.0.cell x (ap (λ (w : Stamp Cell). w.cell) (sym r.2) ∙ at) in
    (y.0, sym y.2)

pub apart_mapped : (h₀ h : Holding (Stamp Cell)) → h ≡ record h₀ { slots = map_values (forgotten_stamp forgotten_cell) h₀.slots } → AreApart h₀.slots → AreApart h.slots
apart_mapped h₀ h is apart c d held_c held_d same =
    let a = held_mapped (forgotten_stamp forgotten_cell) h₀.slots c (subst (λ (k : Holding (Stamp Cell)). IsHeld k.slots c) is held_c) in
    let b = held_mapped (forgotten_stamp forgotten_cell) h₀.slots d (subst (λ (k : Holding (Stamp Cell)). IsHeld k.slots d) is held_d) in
    a.2 ∙ ap (forgotten_stamp forgotten_cell) (apart a.0 b.0 a.1 b.1 (sym (ap (λ (w : Stamp Cell). w.number) a.2) ∙ same ∙ ap (λ (w : Stamp Cell). w.number) b.2)) ∙ sym b.2

idle_node : (w : NodeValues) (y : Cell) → Node w ≡ forgotten_cell y → w.next ≡ None
idle_node w (Node v) e = ap (λ (u : NodeValues). u.next) (same_node w (forgotten_node v) e)
idle_node w (Pool v) e = absurd (cc (e))
idle_node w (Slot v) e = absurd (cc (e))

idle_pool : (w : PoolPair) (y : Cell) → Pool w ≡ forgotten_cell y → w.next ≡ None
idle_pool w (Node v) e = absurd (cc (e))
idle_pool w (Pool v) e = ap (λ (u : PoolPair). u.next) (same_pool w (forgotten_pool v) e)
idle_pool w (Slot v) e = absurd (cc (e))

idle_slot : (w : SlotCell) (y : Cell) → Slot w ≡ forgotten_cell y → w.register.next ≡ empty
idle_slot w (Node v) e = absurd (cc (e))
idle_slot w (Pool v) e = absurd (cc (e))
idle_slot w (Slot v) e = ap (λ (u : SlotCell). u.register.next) (same_slot w (forgotten_slot v) e)

-- ---- an empty board is loaded
pub loaded_none : (shape : Shape) (picks : List ℕ) (slots : List (Place (Stamp Cell))) (b : Held) → b ≡ record { nodes = []; pool = None; slots = [] } → IsLoaded shape picks slots (held_cells b)
loaded_none shape picks slots b is = subst (λ (k : Held). IsLoaded shape picks slots (held_cells k)) (sym is) (record {
  nodes = λ m has. absurd (clash (sym has));
  from = λ n x at. absurd (clash (sym (ap is_some at) ∙ ap is_some (cell_none shape (held_cells (record { nodes = []; pool = None; slots = [] })) (record { node = λ m. refl; pool = refl; slot = λ t. refl }) n)));
})

-- ---- prepared cells have the values that they had
module _ (shape : Shape) (cs new : Cells) (p : Prepared) (step : IsPreparedStep shape cs new p) where
  abbrev ch : Changes
  ch = step.changes

  value_at : (n : ℕ) (x : Cell) → cell_at shape new n ≡ Some x → (y : Cell) × (cell_at shape cs n ≡ Some y) × ((h : List Entry) → FitsCell shape n y h → FitsCell shape n x h)
  unfolding changed
  value_at n x at = by (kind_of shape n)
    where
      by : Kind shape n → (y : Cell) × (cell_at shape cs n ≡ Some y) × ((h : List Entry) → FitsCell shape n y h → FitsCell shape n x h)
      by (a_node low) =
          let v = there Node (new.node n) x (sym (at_node shape new n low) ∙ at) in
          let w = there (with_next_node (change_at ch.nodes n)) (cs.node n) v.0 (ap (λ (c : Cells). c.node n) (sym step.after) ∙ v.1.0) in (
            Node w.0,
            at_node shape cs n low ∙ ap (option_map Node) w.1.0,
            λ h fit. subst (λ (y : Cell). FitsCell shape n y h) (ap Node w.1.1 ∙ v.1.1) (node_fits shape n h (with_next_node (change_at ch.nodes n) w.0) low ((fit.node w.0 refl).1)),
          )
      by (the_pool is) =
          let v = there Pool new.pool x (sym (at_pool shape new n is) ∙ at) in
          let w = there (with_next_pool ch.pool) cs.pool v.0 (ap (λ (c : Cells). c.pool) (sym step.after) ∙ v.1.0) in (
            Pool w.0,
            at_pool shape cs n is ∙ ap (option_map Pool) w.1.0,
            λ h fit. subst (λ (y : Cell). FitsCell shape n y h) (ap Pool w.1.1 ∙ v.1.1) (pool_fits shape n h (with_next_pool ch.pool w.0) is ((fit.pool w.0 refl).1)),
          )
      by (a_slot high) =
          let u : ℕ = n - (length shape.places + 1) in
          let v = there Slot (new.slot u) x (sym (at_slot shape new n high) ∙ at) in
          let w = there (with_next_slot (change_at ch.slots u)) (cs.slot u) v.0 (ap (λ (c : Cells). c.slot u) (sym step.after) ∙ v.1.0) in (
            Slot w.0,
            at_slot shape cs n high ∙ ap (option_map Slot) w.1.0,
            λ h fit. subst (λ (y : Cell). FitsCell shape n y h) (ap Slot w.1.1 ∙ v.1.1) (slot_fits shape n h (with_next_slot (change_at ch.slots u) w.0) high ((fit.slot w.0 refl).1)),
          )

  kept_node : (m : ℕ) → IsSome (new.node m) → IsSome (cs.node m)
  unfolding changed
  kept_node m has = by (cs.node m) (subst (λ (c : Cells). IsSome (c.node m)) step.after has)
    where
      by : (o : Option NodeValues) → IsSome (option_map (with_next_node (change_at ch.nodes m)) o) → IsSome o
      by None e = absurd (clash (sym e))
      by (Some w) e = refl

  pub step_keeps : KeepsValues shape cs new
  step_keeps = record { nodes = kept_node; value = value_at }

-- cells that nobody changed have their values
pub same_keeps : (shape : Shape) (cs : Cells) → KeepsValues shape cs cs
same_keeps shape cs = record { nodes = λ m has. has; value = λ n x at. (x, at, λ h fit. fit) }

module _ (shape : Shape) (limit : 1 ≤ shape.limit) (picks : List ℕ) (slots : List (Place (Stamp Cell))) (cs : Cells) (loaded : IsLoaded shape picks slots cs) where
  -- ---- the board's cells fit what all held cells fit
  module _ (h : List Entry) (legal : IsLegal shape h) (all : AllFit FitsCell shape slots h) where
    fit_at : (n : ℕ) (x : Cell) → cell_at shape cs n ≡ Some x → FitsCell shape n x h
    fit_at n x at = let f = (loaded.from n x at).1 in subst (λ (m : ℕ). FitsCell shape m x h) f.2 (all f.0 x f.1 f.3)

    pub cells_fit : CellsFit shape (after shape h) (homes_after shape h) cs
    cells_fit = record {
      nodes = λ m w is. let low = loaded.nodes m (ap is_some is) in ((fit_at m (Node w) (at_node shape cs m low ∙ ap (option_map Node) is)).node w refl).1;
      pool = λ w is. ((fit_at (length shape.places) (Pool w) (at_pool shape cs (length shape.places) refl ∙ ap (option_map Pool) is)).pool w refl).1;
      slots = λ t w is.
          let n : ℕ = length shape.places + 1 + t in
          let place : n - (length shape.places + 1) ≡ t = omega arith in
          let at : cell_at shape cs n ≡ Some (Slot w) = at_slot shape cs n (omega arith) ∙ ap (λ u. option_map Slot (cs.slot u)) place ∙ ap (option_map Slot) is in
          subst (λ (u : ℕ). FitsSlot shape (after shape h) (homes_after shape h) u (register_of w.register)) place (((fit_at n (Slot w) at).slot w refl).1);
    }

    pub standing : IsStanding shape (after shape h) (homes_after shape h)
    standing = legal_histories_stand shape h limit legal

    pub stands : Stands shape cs
    stands = record { state = after shape h; home = homes_after shape h; standing = standing; fit = cells_fit }

  -- ---- and have no next values
  pub unprepared : AreForgotten slots → IsUnprepared cs
  unprepared idle = record {
    node = λ m w is.
        let low = loaded.nodes m (ap is_some is) in
        let f = (loaded.from m (Node w) (at_node shape cs m low ∙ ap (option_map Node) is)).1 in
        let y = idle f.0 (Node w) f.1 f.3 in idle_node w y.0 y.1;
    pool = λ w is.
        let f = (loaded.from (length shape.places) (Pool w) (at_pool shape cs (length shape.places) refl ∙ ap (option_map Pool) is)).1 in
        let y = idle f.0 (Pool w) f.1 f.3 in idle_pool w y.0 y.1;
    slot = λ t w is.
        let n : ℕ = length shape.places + 1 + t in
        let place : n - (length shape.places + 1) ≡ t = omega arith in
        let at : cell_at shape cs n ≡ Some (Slot w) = at_slot shape cs n (omega arith) ∙ ap (λ u. option_map Slot (cs.slot u)) place ∙ ap (option_map Slot) is in
        let f = (loaded.from n (Slot w) at).1 in
        let y = idle f.0 (Slot w) f.1 f.3 in idle_slot w y.0 y.1;
  }

  -- ---- what is needed to lay cells back whose values are those that were lifted out
  module _ (new : Cells) (keeps : KeepsValues shape cs new) where
    pub laid_nodes : (m : ℕ) → IsSome (new.node m) → m < length shape.places
    laid_nodes m has = loaded.nodes m (keeps.nodes m has)

    lifted_is : (c : Stamp Cell) (b : Bool) → is_listed picks c.number ≡ b → lifted picks c ≡ cond b (record c { cell = None }) c
    lifted_is c b e = ap (λ t. cond t (record c { cell = None }) c) e

    -- what doesn't depend on the cell stays where it is lifted
    lifted_keeps : {A : Type 0} (f : Stamp Cell → A) → ((c : Stamp Cell) → f (record c { cell = None }) ≡ f c) → (c : Stamp Cell) → f (lifted picks c) ≡ f c
    lifted_keeps f same c = by (is_listed picks c.number)
      where
        by : (b : Bool) → f (cond b (record c { cell = None }) c) ≡ f c
        by true = same c
        by false = refl

    module _ (h₁ : Holding (Stamp Cell)) (h₀ : Holding (Stamp Cell)) (same : h₀.slots ≡ slots) (is : h₁ ≡ record h₀ { slots = map_values (lifted picks) h₀.slots }) where
      held_first : (c : Stamp Cell) → IsHeld h₁.slots c → (d : Stamp Cell) × IsHeld slots d × (c ≡ lifted picks d)
      held_first c held =
          let r = held_mapped (lifted picks) h₀.slots c (subst (λ (k : Holding (Stamp Cell)). IsHeld k.slots c) is held) in
          (r.0, subst (λ (ss : List (Place (Stamp Cell))). IsHeld ss r.0) same r.1, r.2)

      pub lay_fits : AreApart slots → (c : Stamp Cell) (x : Cell) → IsHeld h₁.slots c → c.cell ≡ None → cell_at shape new c.number ≡ Some x → FitsCell shape c.number x c.seen
      lay_fits apart c x held none at =
          let d = held_first c held in
          let y = keeps.value c.number x at in
          let f = (loaded.from c.number y.0 y.1).1 in
          let number : c.number ≡ d.0.number = ap (λ (w : Stamp Cell). w.number) d.2 ∙ lifted_keeps (λ w. w.number) (λ w. refl) d.0 in
          let one : f.0 ≡ d.0 = apart f.0 d.0 f.1 d.1 (f.2 ∙ number) in
          let seen : f.0.seen ≡ c.seen = ap (λ (w : Stamp Cell). w.seen) one ∙ sym (ap (λ (w : Stamp Cell). w.seen) d.2 ∙ lifted_keeps (λ w. w.seen) (λ w. refl) d.0) in
          y.2 c.seen (subst (λ (l : List Entry). FitsCell shape c.number y.0 l) seen f.4)

      pub lay_idle : AreForgotten slots → (c : Stamp Cell) (x : Cell) → IsHeld h₁.slots c → c.cell ≡ Some x → (has_next x ≡ false) × (cell_at shape new c.number ≡ None)
      lay_idle idle c x held at =
          let d = held_first c held in
          by d.0 d.1 d.2 (is_listed picks d.0.number) refl
        where
          none_at : (o : Option Cell) → cell_at shape new c.number ≡ o → is_listed picks c.number ≡ false → cell_at shape new c.number ≡ None
          none_at None e off = e
          none_at (Some z) e off = let y = keeps.value c.number z e in absurd (clash (sym ((loaded.from c.number y.0 y.1).0) ∙ off))

          by : (d : Stamp Cell) → IsHeld slots d → c ≡ lifted picks d → (b : Bool) → is_listed picks d.number ≡ b → (has_next x ≡ false) × (cell_at shape new c.number ≡ None)
          by d held_d is_d true on = let e = ap (λ (w : Stamp Cell). w.cell) (is_d ∙ lifted_is d true on) in absurd (cc (at, e))
          by d held_d is_d false off =
              let e : c ≡ d = is_d ∙ lifted_is d false off in
              let y = idle d x held_d (ap (λ (w : Stamp Cell). w.cell) (sym e) ∙ at) in (
                ap has_next y.1 ∙ none_forgotten_is y.0,
                none_at (cell_at shape new c.number) refl (ap (λ (w : Stamp Cell). is_listed picks w.number) e ∙ off),
              )
