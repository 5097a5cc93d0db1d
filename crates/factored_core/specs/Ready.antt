-- When a call's step can be prepared on a board, and when cells of nodes refuse the call.
use Rattle.std.specs.Prelude.{ℕ, ◌≡◌, ◌≢◌, ◌<◌, nat_lt, ◌&&◌, true, false, length, cond, Option, None, Some, IsSome}
use Rattle.cqc_model.specs.declared.Instr.TheVariants.{Allocate}
use Rattle.cqc_model.specs.declared.Fault.{Fault}
use Rattle.cqc_model.specs.declared.Fault.TheVariants.{General}
use Rattle.network_model.specs.Network.{Network, Shape}
use Rattle.network_model.specs.Kinds.{kind_of, second_of, is_gate}
use Rattle.network_model.specs.Step.{refusal, holds_of, united_group, own_number, other_number}
use Rattle.network_model.specs.History.{is_general}
use Rattle.network_model.specs.declared.Call.{Call}
use Rattle.network_model.specs.declared.CoreReply.TheVariants as reply
use Rattle.qubit_handles.specs.Handle.{AreDistinct}
use Rattle.virtual_node.specs.Node.{Node}
use Rattle.cell_laws.specs.Standing.{IsStanding}
use Rattle.core_cells.specs.Marks.{IsLeastListed}
use Rattle.core_cells.specs.Cells.{Cells, CellsFit, IsUnprepared, HasHome}
use Rattle.core_cells.specs.Nodes.{NodeValues}
use Rattle.core_cells.specs.declared.cells.PoolPair.{PoolPair}
use Rattle.factored_core.specs.Changes.{Stands}
use Rattle.factored_core.specs.Needs.{needs_of, other_of}
use Rattle.factored_core.specs.Ranges.{IsCallInRange}
use Rattle.factored_core.specs.Vacancies.{touched_by}

-- a board has the cells that a call's step may touch
pub record HasCells (shape : Shape) (c : Call) (cs : Cells) : Type 0 where
  pub own : NodeValues
  pub own_there : cs.node c.node ≡ Some own
  pub other : (n : ℕ) → (needs_of shape c own.now).other ≡ Some n → IsSome (cs.node n)
  pub pool : (needs_of shape c own.now).pool ≡ true → IsSome cs.pool
  pub first : (q : ℕ) → (needs_of shape c own.now).first ≡ Some q → HasHome cs q
  pub second : (q : ℕ) → (needs_of shape c own.now).second ≡ Some q → HasHome cs q
  pub free : (w : PoolPair) (t : ℕ) → (needs_of shape c own.now).slot ≡ true → cs.pool ≡ Some w → IsLeastListed w.now.slots t → IsSome (cs.slot t)

-- a call is at a node of the network, and asks for one thing
pub record IsAllowedCall (shape : Shape) (c : Call) : Type 0 where
  pub node : c.node < length shape.places
  pub instr : c.command.instr ≢ Allocate

-- the cells are a board's on which nothing is prepared, and the call's own node was read
pub record IsOpen (shape : Shape) (c : Call) (cs : Cells) (own : Node) : Type 0 where
  pub has : HasCells shape c cs
  pub own_is : own ≡ has.own.now
  pub stands : Stands shape cs
  pub unprepared : IsUnprepared cs
  pub range : IsCallInRange c
  pub allowed : IsAllowedCall shape c
  pub distinct : AreDistinct own.handles

-- no line but those on sizes and on a united group refuses the call
abbrev pub IsPassed : Shape → Network → Call → Type 0
IsPassed shape s c = refusal shape s c ≡ cond (holds_of (second_of (kind_of c.command.instr)) (λ id. nat_lt shape.limit (length (united_group s (own_number s c) (other_number s c id))))) (Some General) None

-- the board is open, and no cell of a node refuses the call
pub record IsReady (shape : Shape) (c : Call) (cs : Cells) (own : Node) : Type 0 where
  pub opened : IsOpen shape c cs own
  pub passed : (s : Network) (home : ℕ → ℕ) → IsStanding shape s home → CellsFit shape s home cs → IsPassed shape s c

-- the cells are a board's on which nothing is prepared, and cells of nodes, this other one too, refuse the call with this fault
pub record IsRefusable (shape : Shape) (c : Call) (cs : Cells) (own : Node) (other : Option ℕ) (f : Fault) : Type 0 where
  pub has : HasCells shape c cs
  pub own_is : own ≡ has.own.now
  pub unprepared : IsUnprepared cs
  pub range : IsCallInRange c
  pub allowed : IsAllowedCall shape c
  pub looked : other ≡ touched_by (other_of shape c) f
  pub no_gate : (is_general (reply.Error f) && is_gate (kind_of c.command.instr)) ≡ false
  pub refused : (s : Network) (home : ℕ → ℕ) → IsStanding shape s home → CellsFit shape s home cs → refusal shape s c ≡ Some f
