-- What a prepared step leaves on a board, until it is finished or undone.
use Rattle.std.specs.Prelude.{ℕ, ◌≡◌, Bool, true, false, Some, is_some}
use Rattle.state_model.specs.Amplitudes.{Amplitudes}
use Rattle.amplitude_register.specs.States.{Next, empty, prepared}
use Rattle.core_cells.specs.Cells.{Cells}
use Rattle.core_cells.specs.Names.{names_node, names_pool, names_slot, AreThere}
use Rattle.core_cells.specs.Nodes.{NodeValues}
use Rattle.core_cells.specs.declared.cells.PoolPair.{PoolPair}
use Rattle.core_cells.specs.declared.cells.SlotCell.{SlotCell}
use Rattle.factored_core.specs.declared.prepared.Prepared.{Prepared}

-- a register has a next value, or none and no draft
abbrev pub IsNextWhere : Bool → Next → Type 0
IsNextWhere true next = (a : Amplitudes) × (next ≡ prepared a)
IsNextWhere false next = next ≡ empty

-- exactly the cells that the step names have next values
pub record IsLeftBy (cs : Cells) (p : Prepared) : Type 0 where
  pub there : AreThere cs p.touched
  pub node : (m : ℕ) (w : NodeValues) → cs.node m ≡ Some w → is_some w.next ≡ names_node p.touched m
  pub pool : (w : PoolPair) → cs.pool ≡ Some w → is_some w.next ≡ names_pool p.touched
  pub slot : (t : ℕ) (w : SlotCell) → cs.slot t ≡ Some w → IsNextWhere (names_slot p.touched t) w.register.next
