-- The cells that a prepared step names are on the board, shown one by one.
use Rattle.std.proofs.Common.{ℕ, ◌≡◌, ◌==◌, ◌||◌, Bool, true, false, List, [], ◌∷◌, Option, Some, None, IsSome, option_map, refl, subst, sym}
use Rattle.std.specs.Prelude.{⊤}
use Rattle.state_model.proofs.Booleans.{clash, eq_of, or_false}
use Rattle.network_model.specs.Step.{holds_of}
use Rattle.core_cells.specs.declared.names.CellName.{CellName}
use Rattle.core_cells.specs.declared.names.CellName.TheVariants.{Node, Pool, Slot}
use Rattle.core_cells.specs.Cells.{Cells}
use Rattle.core_cells.specs.Names.{is_node, is_pool, is_slot, names_node, names_pool, names_slot, AreThere}

-- the cell of this name, if there is one, is on the board
abbrev pub IsNamedThere : Cells → Option CellName → Type 0
IsNamedThere cs None = ⊤
IsNamedThere cs (Some (Node m)) = IsSome (cs.node m)
IsNamedThere cs (Some Pool) = IsSome cs.pool
IsNamedThere cs (Some (Slot t)) = IsSome (cs.slot t)

abbrev pub AreAllThere : Cells → List (Option CellName) → Type 0
AreAllThere cs [] = ⊤
AreAllThere cs (o ∷ os) = IsNamedThere cs o × AreAllThere cs os

either : {P : Type 0} (a b : Bool) → (a || b) ≡ true → (a ≡ true → P) → (b ≡ true → P) → P
either true b e f g = f refl
either false b e f g = g e

module _ (cs : Cells) where
  at_node : (m : ℕ) (o : Option CellName) → IsNamedThere cs o → is_node m o ≡ true → IsSome (cs.node m)
  at_node m None h e = absurd (clash (sym e))
  at_node m (Some (Node n)) h e = subst (λ k. IsSome (cs.node k)) (eq_of n m e) h
  at_node m (Some Pool) h e = absurd (clash (sym e))
  at_node m (Some (Slot t)) h e = absurd (clash (sym e))

  at_pool : (o : Option CellName) → IsNamedThere cs o → is_pool o ≡ true → IsSome cs.pool
  at_pool None h e = absurd (clash (sym e))
  at_pool (Some (Node n)) h e = absurd (clash (sym e))
  at_pool (Some Pool) h e = h
  at_pool (Some (Slot t)) h e = absurd (clash (sym e))

  at_slot : (t : ℕ) (o : Option CellName) → IsNamedThere cs o → is_slot t o ≡ true → IsSome (cs.slot t)
  at_slot t None h e = absurd (clash (sym e))
  at_slot t (Some (Node n)) h e = absurd (clash (sym e))
  at_slot t (Some Pool) h e = absurd (clash (sym e))
  at_slot t (Some (Slot u)) h e = subst (λ k. IsSome (cs.slot k)) (eq_of u t e) h

  nodes_there : (os : List (Option CellName)) → AreAllThere cs os → (m : ℕ) → names_node os m ≡ true → IsSome (cs.node m)
  nodes_there [] all m e = absurd (clash (sym e))
  nodes_there (o ∷ os) all m e = either (is_node m o) (names_node os m) e (λ f. at_node m o all.0 f) (λ f. nodes_there os all.1 m f)

  pools_there : (os : List (Option CellName)) → AreAllThere cs os → names_pool os ≡ true → IsSome cs.pool
  pools_there [] all e = absurd (clash (sym e))
  pools_there (o ∷ os) all e = either (is_pool o) (names_pool os) e (λ f. at_pool o all.0 f) (λ f. pools_there os all.1 f)

  slots_there : (os : List (Option CellName)) → AreAllThere cs os → (t : ℕ) → names_slot os t ≡ true → IsSome (cs.slot t)
  slots_there [] all t e = absurd (clash (sym e))
  slots_there (o ∷ os) all t e = either (is_slot t o) (names_slot os t) e (λ f. at_slot t o all.0 f) (λ f. slots_there os all.1 t f)

  pub all_there : (os : List (Option CellName)) → AreAllThere cs os → AreThere cs os
  all_there os all = record { node = nodes_there os all; pool = pools_there os all; slot = slots_there os all }

-- ---- a node or a slot that may be named
pub maybe_node : (o : Option ℕ) (m : ℕ) → (is_node m (option_map Node o) || false) ≡ holds_of o (λ n. n == m)
maybe_node None m = refl
maybe_node (Some n) m = or_false (n == m)

pub maybe_slot : (o : Option ℕ) (t : ℕ) → (is_slot t (option_map Slot o) || false) ≡ holds_of o (λ u. u == t)
maybe_slot None t = refl
maybe_slot (Some u) t = or_false (u == t)

pub no_node_is_slot : (o : Option ℕ) (t : ℕ) → is_slot t (option_map Node o) ≡ false
no_node_is_slot None t = refl
no_node_is_slot (Some n) t = refl

pub no_node_is_pool : (o : Option ℕ) → is_pool (option_map Node o) ≡ false
no_node_is_pool None = refl
no_node_is_pool (Some n) = refl

pub no_slot_is_node : (o : Option ℕ) (m : ℕ) → is_node m (option_map Slot o) ≡ false
no_slot_is_node None m = refl
no_slot_is_node (Some u) m = refl
