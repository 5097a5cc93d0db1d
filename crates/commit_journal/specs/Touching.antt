-- Cells by their numbers: nodes from 0, then the pool, then slots.
use Rattle.std.specs.Prelude.{ℕ, ◌+◌, ◌-◌, ◌*◌, ◌==◌, nat_lt, Bool, cond, List, length}
use Rattle.network_model.specs.Network.{Shape}
use Rattle.network_model.specs.History.{after}
use Rattle.network_model.specs.Factored.{homes_after, touches_node, touches_pool, touches_slot}
use Rattle.network_model.specs.declared.Entry.{Entry}

-- the number of the pool
abbrev pub pool_number : Shape → ℕ
pool_number shape = length shape.places

-- the number of a slot
abbrev pub slot_number : Shape → ℕ → ℕ
slot_number shape t = length shape.places + 1 + t

-- how many cells a network has
abbrev pub cell_count : Shape → ℕ
cell_count shape = length shape.places + 1 + length shape.places * shape.room

-- whether an entry behind a history touches the cell of a number
unfoldable pub touches : Shape → List Entry → Entry → ℕ → Bool
touches shape h e n =
    cond (nat_lt n (length shape.places)) (touches_node shape e n)
    (cond (n == length shape.places) (touches_pool (after shape h) e) (touches_slot (after shape h) (homes_after shape h) e (n - (length shape.places + 1))))
