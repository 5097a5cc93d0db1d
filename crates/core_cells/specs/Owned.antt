-- Cells in lists, as the cells of a board.
use Rattle.std.proofs.Common.{refl}
use Rattle.std.specs.Prelude.{ℕ, ◌≡◌, ◌*◌, ◌≤◌, List, length, Some, None, slice_get, slice_set}
use Rattle.network_model.specs.Network.{Shape, opening}
use Rattle.core_cells.specs.Cells.{Cells, Writes, ArePut, put_node, put_pool, put_slot, HasAllCells, IsUnprepared, CellsFit}
use Rattle.core_cells.specs.Writing.{set_is_put}
use Rattle.core_cells.specs.Nodes.{NodeValues}
use Rattle.core_cells.specs.declared.cells.PoolPair.{PoolPair}
use Rattle.core_cells.specs.declared.cells.SlotCell.{SlotCell}

-- the nodes, the pool and the slots, each by its number
pub record Owned : Type 0 where
  pub nodes : List NodeValues
  pub pool : PoolPair
  pub slots : List SlotCell

-- the cells that they are
abbrev pub cells_of : Owned → Cells
cells_of o = record { node = slice_get o.nodes; pool = Some o.pool; slot = slice_get o.slots }

-- the same with another cell at a place
abbrev pub owned_writes : Writes Owned
owned_writes = record {
  node = λ o k w. record o { nodes = slice_set o.nodes k w };
  pool = λ o w. record o { pool = w };
  slot = λ o k w. record o { slots = slice_set o.slots k w };
}

pub owned_are_put : ArePut cells_of owned_writes
unfolding put_node put_pool put_slot
owned_are_put = record {
  node = λ o k w has i. record (cells_of o) { node = λ m. set_is_put o.nodes k m w has i };
  pool = λ o w has. refl;
  slot = λ o k w has i. record (cells_of o) { slot = λ m. set_is_put o.slots k m w has i };
}

-- exactly the cells of a shape are there, nothing is prepared, and they fit the opening
pub record IsOpened (shape : Shape) (cs : Cells) : Type 0 where
  pub all : HasAllCells shape cs
  pub unprepared : IsUnprepared cs
  pub fits : CellsFit shape opening (λ q. 0) cs
  pub no_more_nodes : (m : ℕ) → length shape.places ≤ m → cs.node m ≡ None
  pub no_more_slots : (t : ℕ) → length shape.places * shape.room ≤ t → cs.slot t ≡ None
