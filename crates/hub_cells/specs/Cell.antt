-- Cells of any kind: their next values, and when they fit a history.
use Rattle.std.specs.Prelude.{ℕ, ◌≡◌, ◌+◌, ◌-◌, ◌<◌, ◌≤◌, Bool, true, false, List, length, is_some}
use Rattle.amplitude_register.specs.States.{Next, prepared}
use Rattle.network_model.specs.Network.{Shape}
use Rattle.network_model.specs.History.{after}
use Rattle.network_model.specs.Factored.{FitsNode, FitsPool, FitsSlot, homes_after}
use Rattle.network_model.specs.declared.Entry.{Entry}
use Rattle.virtual_node.specs.Node.{held_map, arrived_map}
use Rattle.core_cells.specs.Cells.{register_of}
use Rattle.core_cells.specs.Names.{done_by}
use Rattle.core_cells.specs.declared.names.Ending.{Ending}
use Rattle.core_cells.specs.declared.names.Ending.TheVariants.{Settle, Forget}
use Rattle.core_cells.specs.Nodes.{NodeValues}
use Rattle.core_cells.specs.declared.cells.PoolPair.{PoolPair}
use Rattle.core_cells.specs.declared.cells.SlotCell.{SlotCell}
use Rattle.hub_cells.specs.declared.cell.Cell.{Cell}
use Rattle.hub_cells.specs.declared.cell.Cell.TheVariants.{Node, Pool, Slot}

-- whether a value is prepared
abbrev pub is_prepared : Next → Bool
is_prepared (prepared a) = true
is_prepared _ = false

-- whether a cell's next value is prepared
abbrev pub has_next : Cell → Bool
has_next (Node w) = is_some w.next
has_next (Pool w) = is_some w.next
has_next (Slot w) = is_prepared w.register.next

-- a cell behind an ending of what is prepared
abbrev pub ended_cell : Ending → Cell → Cell
ended_cell e (Node w) = Node ((done_by e).node w)
ended_cell e (Pool w) = Pool ((done_by e).pool w)
ended_cell e (Slot w) = Slot ((done_by e).slot w)

-- the cell whose next value became its value, and the cell without its next value
abbrev pub settled_cell : Cell → Cell
settled_cell c = ended_cell Settle c

abbrev pub forgotten_cell : Cell → Cell
forgotten_cell c = ended_cell Forget c

-- the value of the cell of a number fits a history: nodes are numbered from 0, then the pool, then slots
pub record FitsCell (shape : Shape) (n : ℕ) (c : Cell) (h : List Entry) : Type 0 where
  pub node : (w : NodeValues) → c ≡ Node w → (n < length shape.places) × FitsNode (after shape h) n (held_map w.now) (arrived_map w.now)
  pub pool : (w : PoolPair) → c ≡ Pool w → (n ≡ length shape.places) × FitsPool shape (after shape h) (homes_after shape h) w.now.numbers w.now.slots w.now.pairs
  pub slot : (w : SlotCell) → c ≡ Slot w → (length shape.places + 1 ≤ n) × FitsSlot shape (after shape h) (homes_after shape h) (n - (length shape.places + 1)) (register_of w.register)
