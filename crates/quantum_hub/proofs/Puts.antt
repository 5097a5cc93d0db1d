-- Cells that are put on a board and taken out of it, by their numbers.
use Rattle.std.proofs.Common.{ℕ, zero, suc, ◌≡◌, ◌≢◌, ◌⊎◌, inl, inr, ⊎_elim, ◌+◌, ◌-◌, ◌<◌, ◌≤◌, ◌==◌, ◌||◌, true, false, List, [], ◌∷◌, ◌++◌, length, get_or, Option, None, Some, IsSome, is_some, option_map, slice_get, refl, sym, ap, subst, ◌∙◌, arith}
use Rattle.std.proofs.lemmas.Option.{slice_get-get_or}
use Rattle.state_model.specs.Row.{is_listed}
use Rattle.state_model.proofs.Booleans.{clash, eq_true, eq_false, or_true}
use Rattle.network_model.specs.Network.{Shape}
use Rattle.core_cells.specs.Cells.{Cells}
use Rattle.core_cells.specs.Nodes.{NodeValues}
use Rattle.core_cells.specs.declared.cells.PoolPair.{PoolPair}
use Rattle.core_cells.specs.declared.cells.SlotCell.{SlotCell}
use Rattle.factored_core.proofs.Changed.{there}
use Rattle.held_board.specs.Held.{Held, held_cells}
use Rattle.held_board.specs.Seats.{cell_of, without_cell}
use mathlib.Core.Logic.{dite}
use native.Mathlib.Decide.{ℕ_discrete}
use Rattle.quantum_hub.proofs.Seats.{cell_more, cell_gone, cell_apart}
use Rattle.hub_cells.specs.declared.cell.Cell.{Cell}
use Rattle.hub_cells.specs.declared.cell.Cell.TheVariants.{Node, Pool, Slot}
use Rattle.hub_cells.specs.Laid.{cell_at}
use Rattle.hub_cells.proofs.Numbers.{at_node, at_pool, at_slot, Kind, a_node, the_pool, a_slot, kind_of}
use Rattle.quantum_hub.specs.Moves.{IsPut, IsTaken}

some_there : {A : Type 0} (o : Option A) → IsSome o → (x : A) × (o ≡ Some x)
some_there None h = absurd (clash (sym h))
some_there (Some x) h = (x, refl)

mapped : {A B : Type 0} (f : A → B) (o : Option A) (x : A) (y : B) → o ≡ Some x → f x ≡ y → option_map f o ≡ Some y
mapped f o x y is e = ap (option_map f) is ∙ ap Some e

module _ (shape : Shape) (number : ℕ) (h : Held) where
  -- ---- put
  pub put_node_is : (b : Held) (w : NodeValues) (x : Cell) → number < length shape.places → x ≡ Node w → b ≡ record h { nodes = h.nodes ++ record { number = number; cell = Some w } ∷ [] } → IsPut shape number x (held_cells h) (held_cells b)
  put_node_is b w x low same is = subst (λ (c : Held). IsPut shape number x (held_cells h) (held_cells c)) (sym is) (record {
    nodes = λ m has. let s = some_there (cell_of (h.nodes ++ record { number = number; cell = Some w } ∷ []) m) has in
        ⊎_elim (λ old. inl (ap is_some old)) (λ new. inr (subst (λ (k : ℕ). k < length shape.places) (sym new.0) low)) (cell_more h.nodes number m w s.0 s.1);
    cells = λ n y at. by n y at (kind_of shape n);
  })
    where
      c : Cells
      c = held_cells (record h { nodes = h.nodes ++ record { number = number; cell = Some w } ∷ [] })

      by : (n : ℕ) (y : Cell) → cell_at shape (held_cells (record h { nodes = h.nodes ++ record { number = number; cell = Some w } ∷ [] })) n ≡ Some y → Kind shape n → (cell_at shape (held_cells h) n ≡ Some y) ⊎ ((n ≡ number) × (y ≡ x))
      by n y at (a_node few) =
          let v = there Node (cell_of (h.nodes ++ record { number = number; cell = Some w } ∷ []) n) y (sym (at_node shape (held_cells (record h { nodes = h.nodes ++ record { number = number; cell = Some w } ∷ [] })) n few) ∙ at) in
          ⊎_elim (λ old. inl (at_node shape (held_cells h) n few ∙ mapped Node (cell_of h.nodes n) v.0 y old v.1.1)) (λ new. inr (new.0, sym v.1.1 ∙ ap Node new.1 ∙ sym same)) (cell_more h.nodes number n w v.0 v.1.0)
      by n y at (the_pool e) = inl (at_pool shape (held_cells h) n e ∙ sym (at_pool shape (held_cells (record h { nodes = h.nodes ++ record { number = number; cell = Some w } ∷ [] })) n e) ∙ at)
      by n y at (a_slot high) = inl (at_slot shape (held_cells h) n high ∙ sym (at_slot shape (held_cells (record h { nodes = h.nodes ++ record { number = number; cell = Some w } ∷ [] })) n high) ∙ at)

  pub put_pool_is : (b : Held) (w : PoolPair) (x : Cell) → number ≡ length shape.places → x ≡ Pool w → b ≡ record h { pool = Some w } → IsPut shape number x (held_cells h) (held_cells b)
  put_pool_is b w x here same is = subst (λ (c : Held). IsPut shape number x (held_cells h) (held_cells c)) (sym is) (record {
    nodes = λ m has. inl has;
    cells = λ n y at. by n y at (kind_of shape n);
  })
    where
      by : (n : ℕ) (y : Cell) → cell_at shape (held_cells (record h { pool = Some w })) n ≡ Some y → Kind shape n → (cell_at shape (held_cells h) n ≡ Some y) ⊎ ((n ≡ number) × (y ≡ x))
      by n y at (a_node few) = inl (at_node shape (held_cells h) n few ∙ sym (at_node shape (held_cells (record h { pool = Some w })) n few) ∙ at)
      by n y at (the_pool e) =
          let v = there Pool (Some w) y (sym (at_pool shape (held_cells (record h { pool = Some w })) n e) ∙ at) in
          let is_w : w ≡ v.0 = cc (v.1.0) in
          inr (e ∙ sym here, sym v.1.1 ∙ ap Pool (sym is_w) ∙ sym same)
      by n y at (a_slot high) = inl (at_slot shape (held_cells h) n high ∙ sym (at_slot shape (held_cells (record h { pool = Some w })) n high) ∙ at)

  pub put_slot_is : (b : Held) (t : ℕ) (w : SlotCell) (x : Cell) → length shape.places + 1 ≤ number → t ≡ number - (length shape.places + 1) → x ≡ Slot w → b ≡ record h { slots = h.slots ++ record { number = t; cell = Some w } ∷ [] }
      → IsPut shape number x (held_cells h) (held_cells b)
  put_slot_is b t w x far place same is = subst (λ (c : Held). IsPut shape number x (held_cells h) (held_cells c)) (sym is) (record {
    nodes = λ m has. inl has;
    cells = λ n y at. by n y at (kind_of shape n);
  })
    where
      by : (n : ℕ) (y : Cell) → cell_at shape (held_cells (record h { slots = h.slots ++ record { number = t; cell = Some w } ∷ [] })) n ≡ Some y → Kind shape n → (cell_at shape (held_cells h) n ≡ Some y) ⊎ ((n ≡ number) × (y ≡ x))
      by n y at (a_node few) = inl (at_node shape (held_cells h) n few ∙ sym (at_node shape (held_cells (record h { slots = h.slots ++ record { number = t; cell = Some w } ∷ [] })) n few) ∙ at)
      by n y at (the_pool e) = inl (at_pool shape (held_cells h) n e ∙ sym (at_pool shape (held_cells (record h { slots = h.slots ++ record { number = t; cell = Some w } ∷ [] })) n e) ∙ at)
      by n y at (a_slot high) =
          let u : ℕ = n - (length shape.places + 1) in
          let v = there Slot (cell_of (h.slots ++ record { number = t; cell = Some w } ∷ []) u) y (sym (at_slot shape (held_cells (record h { slots = h.slots ++ record { number = t; cell = Some w } ∷ [] })) n high) ∙ at) in
          ⊎_elim (λ old. inl (at_slot shape (held_cells h) n high ∙ mapped Slot (cell_of h.slots u) v.0 y old v.1.1))
          (λ new. let e : u ≡ t = new.0 in let same_number : n ≡ number = omega (arith, e, place, high, far) in inr (same_number, sym v.1.1 ∙ ap Slot new.1 ∙ sym same)) (cell_more h.slots t u w v.0 v.1.0)

  -- ---- taken
  pub take_node_is : (b : Held) → number < length shape.places → b ≡ record h { nodes = without_cell h.nodes number } → IsTaken shape number (held_cells h) (held_cells b)
  take_node_is b low is = subst (λ (c : Held). IsTaken shape number (held_cells h) (held_cells c)) (sym is) (record {
    others = λ n apart. by n apart (kind_of shape n);
    none = at_node shape (held_cells (record h { nodes = without_cell h.nodes number })) number low
        ∙ ap (option_map Node) (cell_gone h.nodes number);
  })
    where
      by : (n : ℕ) → (n ≡ number → ⊥) → Kind shape n → cell_at shape (held_cells (record h { nodes = without_cell h.nodes number })) n ≡ cell_at shape (held_cells h) n
      by n apart (a_node few) =
          at_node shape (held_cells (record h { nodes = without_cell h.nodes number })) n few
          ∙ ap (option_map Node) (cell_apart h.nodes number n apart) ∙ sym (at_node shape (held_cells h) n few)
      by n apart (the_pool e) = at_pool shape (held_cells (record h { nodes = without_cell h.nodes number })) n e ∙ sym (at_pool shape (held_cells h) n e)
      by n apart (a_slot high) = at_slot shape (held_cells (record h { nodes = without_cell h.nodes number })) n high ∙ sym (at_slot shape (held_cells h) n high)

  pub take_pool_is : (b : Held) → number ≡ length shape.places → b ≡ record h { pool = None } → IsTaken shape number (held_cells h) (held_cells b)
  take_pool_is b here is = subst (λ (c : Held). IsTaken shape number (held_cells h) (held_cells c)) (sym is) (record {
    others = λ n apart. by n apart (kind_of shape n);
    none = at_pool shape (held_cells (record h { pool = None })) number here;
  })
    where
      by : (n : ℕ) → (n ≡ number → ⊥) → Kind shape n → cell_at shape (held_cells (record h { pool = None })) n ≡ cell_at shape (held_cells h) n
      by n apart (a_node few) = at_node shape (held_cells (record h { pool = None })) n few ∙ sym (at_node shape (held_cells h) n few)
      by n apart (the_pool e) = absurd (apart (e ∙ sym here))
      by n apart (a_slot high) = at_slot shape (held_cells (record h { pool = None })) n high ∙ sym (at_slot shape (held_cells h) n high)

  pub take_slot_is : (b : Held) (t : ℕ) → length shape.places + 1 ≤ number → t ≡ number - (length shape.places + 1) → b ≡ record h { slots = without_cell h.slots t } → IsTaken shape number (held_cells h) (held_cells b)
  take_slot_is b t far place is = subst (λ (c : Held). IsTaken shape number (held_cells h) (held_cells c)) (sym is) (record {
    others = λ n apart. by n apart (kind_of shape n);
    none = at_slot shape (held_cells (record h { slots = without_cell h.slots t })) number far
        ∙ ap (option_map Slot) (ap (cell_of (without_cell h.slots t)) (sym place) ∙ cell_gone h.slots t);
  })
    where
      by : (n : ℕ) → (n ≡ number → ⊥) → Kind shape n → cell_at shape (held_cells (record h { slots = without_cell h.slots t })) n ≡ cell_at shape (held_cells h) n
      by n apart (a_node few) = at_node shape (held_cells (record h { slots = without_cell h.slots t })) n few ∙ sym (at_node shape (held_cells h) n few)
      by n apart (the_pool e) = at_pool shape (held_cells (record h { slots = without_cell h.slots t })) n e ∙ sym (at_pool shape (held_cells h) n e)
      by n apart (a_slot high) =
          let u : ℕ = n - (length shape.places + 1) in
          at_slot shape (held_cells (record h { slots = without_cell h.slots t })) n high
          ∙ ap (option_map Slot) (cell_apart h.slots t u (λ e. apart (omega (arith, e, place, high, far)))) ∙ sym (at_slot shape (held_cells h) n high)

-- ---- picked numbers
pub picked_at : (ns : List ℕ) (k n : ℕ) → slice_get ns k ≡ Some n → is_listed ns n ≡ true
unfolding is_listed
picked_at [] k n at = absurd (cc (at))
picked_at (m ∷ ns) zero n at = let same : m ≡ n = cc (at) in ap (λ b. b || is_listed ns n) (eq_true m n same)
picked_at (m ∷ ns) (suc k) n at = ap (λ b. (m == n) || b) (picked_at ns k n at) ∙ or_true (m == n)

pub not_picked : (ns : List ℕ) (k n : ℕ) → length ns ≤ k → ((j m : ℕ) → j < k → slice_get ns j ≡ Some m → m ≢ n) → is_listed ns n ≡ false
unfolding is_listed
not_picked [] k n past before = refl
not_picked (m ∷ ns) zero n past before = absurd (omega arith)
not_picked (m ∷ ns) (suc k) n past before =
    ap (λ b. b || is_listed ns n) (eq_false m n (before zero m (omega arith) refl)) ∙ not_picked ns k n (omega arith) (λ j i lt at. before (suc j) i (omega arith) at)

pub number_at : (ns : List ℕ) (k n : ℕ) → k < length ns → get_or ns k 0 ≡ n → slice_get ns k ≡ Some n
number_at ns k n lt is = slice_get-get_or ns k 0 lt ∙ ap Some is

pub not_before : (ns : List ℕ) (k n : ℕ) → ((j m : ℕ) → j < k → slice_get ns j ≡ Some m → m ≢ n) → k < length ns → (get_or ns k 0 ≡ n → ⊥) → (j m : ℕ) → j < k + 1 → slice_get ns j ≡ Some m → m ≢ n
not_before ns k n before lt apart j m less at e = dite (ℕ_discrete j k)
    (λ is. let here : slice_get ns k ≡ Some (get_or ns k 0) = slice_get-get_or ns k 0 lt in
    let same : m ≡ get_or ns k 0 = cc (at, here, is) in apart (sym same ∙ e))
    (λ other. before j m (omega arith) at e)
