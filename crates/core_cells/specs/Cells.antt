-- All cells of a board, what is put, settled and forgotten there, and when they fit a state.
use Rattle.std.specs.Prelude.{ℕ, ◌≡◌, ◌*◌, ◌<◌, ◌==◌, true, cond, length, Option, Some, None, IsSome, option_map, unwrap_or}
use Rattle.state_model.specs.Row.{is_listed}
use Rattle.state_model.specs.Registers.{Register}
use Rattle.state_model.specs.Amplitudes.{Amplitudes}
use Rattle.network_model.specs.Network.{Network, Shape}
use Rattle.network_model.specs.Factored.{FitsNode, FitsPool, FitsSlot}
use Rattle.amplitude_register.specs.States.{RegisterState, Next, empty, draft, prepared, no_qubit}
use Rattle.virtual_node.specs.Node.{held_map, arrived_map}
use Rattle.core_cells.specs.Nodes.{NodeValues}
use Rattle.core_cells.specs.declared.cells.PoolPair.{PoolPair}
use Rattle.core_cells.specs.declared.cells.SlotCell.{SlotCell}

-- the cells that a board has
pub record Cells : Type 0 where
  pub node : ℕ → Option NodeValues
  pub pool : Option PoolPair
  pub slot : ℕ → Option SlotCell

-- a slot whose register has no qubit
abbrev pub empty_slot : ℕ → SlotCell
empty_slot limit = record { register = record { limit = limit; value = no_qubit; next = empty } }

-- the cells with another node, pool or slot
unfoldable pub put_node : Cells → ℕ → NodeValues → Cells
put_node cs k w = record cs { node = λ m. cond (m == k) (Some w) (cs.node m) }

unfoldable pub put_pool : Cells → PoolPair → Cells
put_pool cs w = record cs { pool = Some w }

unfoldable pub put_slot : Cells → ℕ → SlotCell → Cells
put_slot cs k w = record cs { slot = λ m. cond (m == k) (Some w) (cs.slot m) }

-- how a node, the pool or a slot is written on a board
pub record Writes (A : Type 0) : Type 0 where
  pub node : A → ℕ → NodeValues → A
  pub pool : A → PoolPair → A
  pub slot : A → ℕ → SlotCell → A

-- a cell that was there is what was written, and all others stay
pub record ArePut {A : Type 0} (cells : A → Cells) (writes : Writes A) : Type 0 where
  pub node : (a : A) (k : ℕ) (w : NodeValues) → IsSome ((cells a).node k) → cells (writes.node a k w) ≡ put_node (cells a) k w
  pub pool : (a : A) (w : PoolPair) → IsSome (cells a).pool → cells (writes.pool a w) ≡ put_pool (cells a) w
  pub slot : (a : A) (k : ℕ) (w : SlotCell) → IsSome ((cells a).slot k) → cells (writes.slot a k w) ≡ put_slot (cells a) k w

-- the value after the prepared one, if there is one, was put in place
abbrev pub settled_value : Amplitudes → Next → Amplitudes
settled_value a empty = a
settled_value a (draft b) = a
settled_value a (prepared b) = b

-- a cell whose prepared value, if there is one, was put in place
abbrev pub settled_register : RegisterState → RegisterState
settled_register r = record r { value = settled_value r.value r.next; next = empty }

abbrev pub settled_node : NodeValues → NodeValues
settled_node w = record { now = unwrap_or w.next w.now; next = None }

abbrev pub settled_pool : PoolPair → PoolPair
settled_pool w = record { now = unwrap_or w.next w.now; next = None }

abbrev pub settled_slot : SlotCell → SlotCell
settled_slot w = record { register = settled_register w.register }

-- a cell whose draft and prepared value are gone
abbrev pub forgotten_register : RegisterState → RegisterState
forgotten_register r = record r { next = empty }

abbrev pub forgotten_node : NodeValues → NodeValues
forgotten_node w = record w { next = None }

abbrev pub forgotten_pool : PoolPair → PoolPair
forgotten_pool w = record w { next = None }

abbrev pub forgotten_slot : SlotCell → SlotCell
forgotten_slot w = record { register = forgotten_register w.register }

-- all cells settled, all forgotten
unfoldable pub settled : Cells → Cells
settled cs = record { node = λ m. option_map settled_node (cs.node m); pool = option_map settled_pool cs.pool; slot = λ t. option_map settled_slot (cs.slot t) }

unfoldable pub forgotten : Cells → Cells
forgotten cs = record { node = λ m. option_map forgotten_node (cs.node m); pool = option_map forgotten_pool cs.pool; slot = λ t. option_map forgotten_slot (cs.slot t) }

-- no cell has a next value
pub record IsUnprepared (cs : Cells) : Type 0 where
  pub node : (m : ℕ) (w : NodeValues) → cs.node m ≡ Some w → w.next ≡ None
  pub pool : (w : PoolPair) → cs.pool ≡ Some w → w.next ≡ None
  pub slot : (t : ℕ) (w : SlotCell) → cs.slot t ≡ Some w → w.register.next ≡ empty

-- some slot's register lists a qubit number
abbrev pub HasHome : Cells → ℕ → Type 0
HasHome cs q = (t : ℕ) × (w : SlotCell) × (cs.slot t ≡ Some w) × (is_listed w.register.value.qubits q ≡ true)

-- a register's value as the network's state reads it
abbrev pub register_of : RegisterState → Register
register_of r = record { limit = r.limit; qubits = r.value.qubits; list = r.value.list }

-- the cells fit a state with homes
pub record CellsFit (shape : Shape) (s : Network) (home : ℕ → ℕ) (cs : Cells) : Type 0 where
  pub nodes : (m : ℕ) (w : NodeValues) → cs.node m ≡ Some w → FitsNode s m (held_map w.now) (arrived_map w.now)
  pub pool : (w : PoolPair) → cs.pool ≡ Some w → FitsPool shape s home w.now.numbers w.now.slots w.now.pairs
  pub slots : (t : ℕ) (w : SlotCell) → cs.slot t ≡ Some w → FitsSlot shape s home t (register_of w.register)

-- every node, the pool and every slot of the shape is there
pub record HasAllCells (shape : Shape) (cs : Cells) : Type 0 where
  pub nodes : (m : ℕ) → m < length shape.places → IsSome (cs.node m)
  pub pool : IsSome cs.pool
  pub slots : (t : ℕ) → t < length shape.places * shape.room → IsSome (cs.slot t)
