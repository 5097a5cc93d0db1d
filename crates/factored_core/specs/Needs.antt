-- What a call needs to be done: the numbers under its ids, the pool, a free slot, and the other node.
use Rattle.std.specs.Prelude.{ℕ, ◌==◌, Bool, true, ◌||◌, cond, Option, None, Some, is_some}
use Rattle.cqc_model.specs.declared.Remote.{Remote}
use Rattle.network_model.specs.Kinds.{kind_of, takes_qubit, second_of, remote_of, is_making, is_measurement}
use Rattle.network_model.specs.Network.{Shape}
use Rattle.network_model.specs.Step.{node_at}
use Rattle.network_model.specs.declared.After.TheVariants.{Left, Cleared}
use Rattle.network_model.specs.declared.Call.{Call}
use Rattle.network_model.specs.declared.Kind.{Kind}
use Rattle.network_model.specs.declared.Kind.TheVariants.{Measure}
use Rattle.qubit_handles.specs.Handle.{number_of}
use Rattle.virtual_node.specs.Node.{Node}
use Rattle.factored_core.specs.declared.needs.Needs.{Needs}

-- the number under the call's own id, where it takes a qubit
unfoldable pub first_of : Call → Node → Kind → Option ℕ
first_of c own k = cond (takes_qubit k) (number_of own.handles c.app c.command.qubit) None

-- the number under an id, if there is one
unfoldable pub number_at : ℕ → Node → Option ℕ → Option ℕ
number_at app own None = None
number_at app own (Some id) = number_of own.handles app id

-- whether the call can touch the pool
unfoldable pub may_touch_pool : Kind → Bool
may_touch_pool k = is_making k || is_measurement k || is_some (second_of k)

-- whether the call can take a free slot
unfoldable pub takes_slot : Kind → Bool
takes_slot (Measure Left told) = true
takes_slot (Measure Cleared told) = true
takes_slot k = is_making k

-- a node, if it is not the own one
unfoldable pub other_than : ℕ → Option ℕ → Option ℕ
other_than own None = None
other_than own (Some n) = cond (n == own) None (Some n)

-- the node at a remote place, if there is one and it is not the own one
unfoldable pub other_at : Shape → ℕ → Option Remote → Option ℕ
other_at shape own None = None
other_at shape own (Some r) = other_than own (node_at shape r)

-- the other node of a transfer
unfoldable pub other_of : Shape → Call → Option ℕ
other_of shape c = other_at shape c.node (remote_of (kind_of c.command.instr))

-- what a call needs, from the settings and its own node
abbrev pub needs_of : Shape → Call → Node → Needs
needs_of shape c own = let k = kind_of c.command.instr in
    record { first = first_of c own k; second = number_at c.app own (second_of k); pool = may_touch_pool k; slot = takes_slot k; other = other_of shape c }
