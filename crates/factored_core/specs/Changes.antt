-- What a step prepares on a board: the next values of the cells that it touches, and when they are the step's.
use Rattle.std.specs.Prelude.{ℕ, ◌≡◌, ◌==◌, cond, List, [], ◌∷◌, Option, None, Some, option_map, is_some}
use Rattle.state_model.specs.Amplitudes.{Amplitudes}
use Rattle.state_model.specs.Registers.{Register}
use Rattle.amplitude_register.specs.States.{Next, empty, prepared}
use Rattle.network_model.specs.Network.{Network, Shape}
use Rattle.network_model.specs.History.{IsLegalEntry, advance}
use Rattle.network_model.specs.Factored.{FitsNode, FitsSlot, FitsPool, touches_node, touches_slot, touches_pool, homes_step}
use Rattle.network_model.specs.declared.Entry.{Entry}
use Rattle.virtual_node.specs.Node.{Node, held_map, arrived_map}
use Rattle.cell_laws.specs.Standing.{IsStanding}
use Rattle.core_cells.specs.Pool.{Pool}
use Rattle.core_cells.specs.Cells.{Cells, CellsFit}
use Rattle.core_cells.specs.Names.{names_node, names_pool, names_slot, AreThere}
use Rattle.core_cells.specs.Nodes.{NodeValues}
use Rattle.core_cells.specs.declared.cells.PoolPair.{PoolPair}
use Rattle.core_cells.specs.declared.cells.SlotCell.{SlotCell}
use Rattle.factored_core.specs.declared.prepared.Prepared.{Prepared}

-- the next values of nodes, of the pool and of slots, each by its number
pub record Changes : Type 0 where
  pub nodes : List (ℕ × Node)
  pub pool : Option Pool
  pub slots : List (ℕ × Amplitudes)

-- nothing is prepared
abbrev pub no_changes : Changes
no_changes = record { nodes = []; pool = None; slots = [] }

-- the value that stands first under a number
abbrev pub change_at : {A : Type 0} → List (ℕ × A) → ℕ → Option A
change_at [] k = None
change_at (x ∷ xs) k = cond (k == x.0) (Some (x.1)) (change_at xs k)

-- a register's next value
abbrev pub next_of : Option Amplitudes → Next
next_of None = empty
next_of (Some a) = prepared a

-- a cell with this next value
abbrev pub with_next_node : Option Node → NodeValues → NodeValues
with_next_node o w = record w { next = o }

abbrev pub with_next_pool : Option Pool → PoolPair → PoolPair
with_next_pool o w = record w { next = o }

abbrev pub with_next_slot : Option Amplitudes → SlotCell → SlotCell
with_next_slot o w = record { register = record w.register { next = next_of o } }

-- the cells with these next values, and no others
unfoldable pub changed : Cells → Changes → Cells
changed cs ch = record {
  node = λ m. option_map (with_next_node (change_at ch.nodes m)) (cs.node m);
  pool = option_map (with_next_pool ch.pool) cs.pool;
  slot = λ t. option_map (with_next_slot (change_at ch.slots t)) (cs.slot t);
}

-- a register's value, as slots are compared
abbrev pub register_with : ℕ → Amplitudes → Register
register_with limit a = record { limit = limit; qubits = a.qubits; list = a.list }

-- the entry touches exactly the cells with next values, and these fit the state after it
pub record ChangesFit (shape : Shape) (s : Network) (home : ℕ → ℕ) (e : Entry) (ch : Changes) : Type 0 where
  pub nodes_touched : (m : ℕ) → touches_node shape e m ≡ is_some (change_at ch.nodes m)
  pub pool_touched : touches_pool s e ≡ is_some ch.pool
  pub slots_touched : (t : ℕ) → touches_slot s home e t ≡ is_some (change_at ch.slots t)
  pub nodes : (m : ℕ) (n : Node) → change_at ch.nodes m ≡ Some n → FitsNode (advance shape s e) m (held_map n) (arrived_map n)
  pub pool : (p : Pool) → ch.pool ≡ Some p → FitsPool shape (advance shape s e) (homes_step s home e) p.numbers p.slots p.pairs
  pub slots : (t : ℕ) (a : Amplitudes) → change_at ch.slots t ≡ Some a → FitsSlot shape (advance shape s e) (homes_step s home e) t (register_with shape.limit a)

-- in each state that the cells fit, the entry is legal, and the changes are what it makes of the cells
abbrev pub IsStepBy : Shape → Cells → Changes → Entry → Type 0
IsStepBy shape cs ch e = (s : Network) (home : ℕ → ℕ) → IsStanding shape s home → CellsFit shape s home cs → IsLegalEntry shape s e × ChangesFit shape s home e ch

-- a prepared step names the cells with next values
pub record AreNamed (p : Prepared) (ch : Changes) : Type 0 where
  pub nodes : (m : ℕ) → names_node p.touched m ≡ is_some (change_at ch.nodes m)
  pub pool : names_pool p.touched ≡ is_some ch.pool
  pub slots : (t : ℕ) → names_slot p.touched t ≡ is_some (change_at ch.slots t)

-- the cells are as before but for next values, which are the step's
pub record IsPreparedStep (shape : Shape) (old new : Cells) (p : Prepared) : Type 0 where
  pub changes : Changes
  pub after : new ≡ changed old changes
  pub named : AreNamed p changes
  pub there : AreThere old p.touched
  pub step : IsStepBy shape old changes p.entry

-- the cells fit one state of a network
pub record Stands (shape : Shape) (cs : Cells) : Type 0 where
  pub state : Network
  pub home : ℕ → ℕ
  pub standing : IsStanding shape state home
  pub fit : CellsFit shape state home cs
