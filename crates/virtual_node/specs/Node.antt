-- A node: what is held there and what waits there, and both as the maps of the network's state.
use Rattle.std.specs.Prelude.{ℕ, ◌≡◌, ◌+◌, ◌==◌, Bool, ◌&&◌, List, [], ◌∷◌, ◌++◌, length, map, filter, remove, All, Option, None, Some, is_some}
use Rattle.cqc_model.specs.declared.PairInfo.{PairInfo}
use Rattle.network_model.specs.Network.{line_eq}
use Rattle.network_model.specs.declared.Line.{Line}
use Rattle.network_model.specs.declared.Line.TheVariants.{Pair}
use Rattle.qubit_handles.specs.Handle.{number_of, without_handle}
use Rattle.qubit_handles.specs.declared.handles.Handle.{Handle}
use Rattle.virtual_node.specs.declared.arrival.Arrival.{Arrival}
use Rattle.virtual_node.specs.declared.arrival.Look.{Look}
use Rattle.virtual_node.specs.declared.arrival.Look.TheVariants.{Here, Empty}

-- the handles of a node and its arrivals, each by age
pub record Node : Type 0 where
  pub handles : List Handle
  pub arrivals : List Arrival

-- the node with these handles and arrivals
abbrev pub node_of : List Handle → List Arrival → Node
node_of handles arrivals = record { handles = handles; arrivals = arrivals }

-- a node where nothing is held and nothing waits
abbrev pub empty_node : Node
empty_node = node_of [] []

-- how many qubits are held and wait
abbrev pub load_of : Node → ℕ
load_of n = length n.handles + length n.arrivals

-- whether an arrival waits for an application on a line
abbrev pub is_waiting : ℕ → Line → Arrival → Bool
is_waiting app line a = (a.app == app) && line_eq a.line line

-- what a look finds, by the place of the first arrival
abbrev pub look_of : Option ℕ → Look
look_of None = Empty
look_of (Some place) = Here place

-- the halves of pairs, and they alone, come with information
abbrev pub AreInformed : List Arrival → Type 0
AreInformed arrivals = All (λ a. is_some (Arrival.info a) ≡ line_eq (Arrival.line a) Pair) arrivals

-- one more handle, behind the others
abbrev pub with_handle : Node → Handle → Node
with_handle n h = node_of (n.handles ++ h ∷ []) n.arrivals

-- without an application's handle of an id
abbrev pub without_held : Node → ℕ → ℕ → Node
without_held n app id = node_of (without_handle n.handles app id) n.arrivals

-- one more arrival, behind the others
abbrev pub with_arrival : Node → Arrival → Node
with_arrival n a = node_of n.handles (n.arrivals ++ a ∷ [])

-- without the arrival at a place
abbrev pub without_arrival : Node → ℕ → Node
without_arrival n place = node_of n.handles (remove n.arrivals place)

-- the numbers that a node's applications hold, by application and id
abbrev pub held_map : Node → ℕ → ℕ → Option ℕ
held_map n app id = number_of n.handles app id

-- what a queue tells of an arrival
abbrev pub told_of : Arrival → ℕ × Option PairInfo
told_of a = (a.number, a.info)

-- the queues of a node, by application and line
abbrev pub arrived_map : Node → ℕ → Line → List (ℕ × Option PairInfo)
arrived_map n app line = map told_of (filter (is_waiting app line) n.arrivals)
