-- Cells by their names: whether they are named and there, and what is done to those that are named.
use Rattle.std.specs.Prelude.{ℕ, ◌≡◌, ◌==◌, Bool, true, false, cond, List, Option, None, Some, IsSome, option_map, unwrap_or}
use Rattle.std.specs.List.{list_any}
use Rattle.core_cells.specs.declared.names.CellName.{CellName}
use Rattle.core_cells.specs.declared.names.CellName.TheVariants.{Node, Pool, Slot}
use Rattle.core_cells.specs.declared.names.Ending.{Ending}
use Rattle.core_cells.specs.declared.names.Ending.TheVariants.{Settle, Forget}
use Rattle.core_cells.specs.Nodes.{NodeValues}
use Rattle.core_cells.specs.declared.cells.PoolPair.{PoolPair}
use Rattle.core_cells.specs.declared.cells.SlotCell.{SlotCell}
use Rattle.core_cells.specs.Cells.{Cells, settled_slot, forgotten_slot}

-- whether a name, if there is one, is that of a node, of the pool or of a slot
abbrev pub is_node : ℕ → Option CellName → Bool
is_node m (Some (Node n)) = n == m
is_node m o = false

abbrev pub is_pool : Option CellName → Bool
is_pool (Some Pool) = true
is_pool o = false

abbrev pub is_slot : ℕ → Option CellName → Bool
is_slot t (Some (Slot u)) = u == t
is_slot t o = false

-- whether a node, the pool or a slot is among the names
abbrev pub names_node : List (Option CellName) → ℕ → Bool
names_node names m = list_any (is_node m) names

abbrev pub names_pool : List (Option CellName) → Bool
names_pool names = list_any is_pool names

abbrev pub names_slot : List (Option CellName) → ℕ → Bool
names_slot names t = list_any (is_slot t) names

-- the cells that are named are on the board
pub record AreThere (cs : Cells) (names : List (Option CellName)) : Type 0 where
  pub node : (m : ℕ) → names_node names m ≡ true → IsSome (cs.node m)
  pub pool : names_pool names ≡ true → IsSome cs.pool
  pub slot : (t : ℕ) → names_slot names t ≡ true → IsSome (cs.slot t)

-- what is done to a node's cell, to the pool's and to a slot's
pub record CellMap : Type 0 where
  pub node : NodeValues → NodeValues
  pub pool : PoolPair → PoolPair
  pub slot : SlotCell → SlotCell

-- the value after an ending, from the value and the prepared one, if there is one
abbrev pub value_by : {A : Type 0} → Ending → A → Option A → A
value_by Settle now next = unwrap_or next now
value_by Forget now next = now

-- what an ending does to a slot's cell
abbrev pub slot_by : Ending → SlotCell → SlotCell
slot_by Settle w = settled_slot w
slot_by Forget w = forgotten_slot w

-- what it does to each cell
abbrev pub done_by : Ending → CellMap
done_by e = record {
  node = λ w. record { now = value_by e w.now w.next; next = None };
  pool = λ w. record { now = value_by e w.now w.next; next = None };
  slot = slot_by e;
}

-- it is done to the cells that are named, and all others stay
unfoldable pub on_named : CellMap → List (Option CellName) → Cells → Cells
on_named f names cs = record {
  node = λ m. cond (names_node names m) (option_map f.node (cs.node m)) (cs.node m);
  pool = cond (names_pool names) (option_map f.pool cs.pool) cs.pool;
  slot = λ t. cond (names_slot names t) (option_map f.slot (cs.slot t)) (cs.slot t);
}
