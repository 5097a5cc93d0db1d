-- What a transfer makes of a node.
use Rattle.std.specs.Prelude.{ℕ, find, Option, None, Some, option_map}
use Rattle.cqc_model.specs.declared.PairInfo.{PairInfo}
use Rattle.network_model.specs.Step.{least_free, without_first}
use Rattle.network_model.specs.declared.Line.{Line}
use Rattle.network_model.specs.declared.Line.TheVariants.{Sent, Pair}
use Rattle.qubit_handles.specs.Handle.{ids_of}
use Rattle.qubit_handles.specs.declared.handles.Handle.{Handle}
use Rattle.virtual_node.specs.Node.{Node, node_of, with_handle, is_waiting}
use Rattle.virtual_node.specs.declared.arrival.Arrival.{Arrival}
use Rattle.epr_transfer.specs.declared.Taken.{Taken}

-- an application holds a number under an id
abbrev pub handle_of : ℕ → ℕ → ℕ → Handle
handle_of app id number = record { app = app; id = id; number = number }

-- a qubit that was sent to an application
abbrev pub sent_to : ℕ → ℕ → Arrival
sent_to app number = record { app = app; line = Sent; number = number; info = None }

-- half of a pair for an application
abbrev pub half_for : ℕ → ℕ → PairInfo → Arrival
half_for app number info = record { app = app; line = Pair; number = number; info = Some info }

-- the first arrival for an application on a line
abbrev pub first_waiting : Node → ℕ → Line → Option Arrival
first_waiting n app line = find (is_waiting app line) n.arrivals

-- the least id that an application has free
abbrev pub next_id : Node → ℕ → ℕ
next_id n app = least_free (ids_of n.handles app)

-- what the application gets, if something waits
abbrev pub taken_by : Node → ℕ → Line → Option Taken
taken_by n app line = option_map (λ a. record { id = next_id n app; info = Arrival.info a }) (first_waiting n app line)

-- the node when an arrival became a handle
abbrev pub with_received : Node → ℕ → Line → Option Arrival → Node
with_received n app line None = n
with_received n app line (Some a) = with_handle (node_of n.handles (without_first (is_waiting app line) n.arrivals)) (handle_of app (next_id n app) a.number)

-- the node when the first arrival, if something waits, became a handle
abbrev pub received_by : Node → ℕ → Line → Node
received_by n app line = with_received n app line (first_waiting n app line)
