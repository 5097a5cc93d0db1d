-- Held cells, as the cells of a board.
use Rattle.std.proofs.Common.{refl}
use Rattle.std.specs.Prelude.{ℕ, ◌≡◌, List, Option, Some, None, false, is_some}
use Rattle.core_cells.specs.Cells.{Cells, Writes, ArePut, put_node, put_pool, put_slot}
use Rattle.core_cells.specs.Nodes.{NodeValues}
use Rattle.core_cells.specs.declared.cells.PoolPair.{PoolPair}
use Rattle.core_cells.specs.declared.cells.SlotCell.{SlotCell}
use Rattle.held_board.specs.declared.seat.Seat.{Seat}
use Rattle.held_board.specs.Seats.{cell_of, with_cell, AreVacant}
use Rattle.held_board.specs.HeldLaws.{cell_set}

-- the nodes and slots in their seats, and the pool
pub record Held : Type 0 where
  pub nodes : List (Seat NodeValues)
  pub pool : Option PoolPair
  pub slots : List (Seat SlotCell)

-- the cells that they are
abbrev pub held_cells : Held → Cells
held_cells h = record { node = cell_of h.nodes; pool = h.pool; slot = cell_of h.slots }

-- the same with another cell
abbrev pub held_writes : Writes Held
held_writes = record {
  node = λ h k w. record h { nodes = with_cell h.nodes k w };
  pool = λ h w. record h { pool = Some w };
  slot = λ h k w. record h { slots = with_cell h.slots k w };
}

pub held_are_put : ArePut held_cells held_writes
unfolding put_node put_pool put_slot
held_are_put = record {
  node = λ h k w has i. record (held_cells h) { node = λ m. cell_set h.nodes k m w has i };
  pool = λ h w has. refl;
  slot = λ h k w has i. record (held_cells h) { slot = λ m. cell_set h.slots k m w has i };
}

-- no seat has a cell, and the pool isn't there
pub record IsVacant (h : Held) : Type 0 where
  pub nodes : AreVacant h.nodes
  pub pool : is_some h.pool ≡ false
  pub slots : AreVacant h.slots

-- no cell is there
pub record HasNone (cs : Cells) : Type 0 where
  pub node : (n : ℕ) → cs.node n ≡ None
  pub pool : cs.pool ≡ None
  pub slot : (t : ℕ) → cs.slot t ≡ None
