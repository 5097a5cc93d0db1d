-- The keys of settings, as a table.
use Rattle.std.specs.Prelude.{ℕ, List, [], ◌∷◌, codes, Some, None, unwrap_or}
use Rattle.node_table.specs.declared.key.Key.{Key}
use Rattle.node_table.specs.declared.key.Key.TheVariants.{Seed, Limit, Room, Journal, Patience, WaitMs, Workers, Connections, Node, Address, Port}
use Rattle.node_table.specs.declared.key.Whole.{Whole}

-- how a key is written
abbrev pub name_of : Key → List ℕ
name_of Seed = codes "seed"
name_of Limit = codes "limit"
name_of Room = codes "room"
name_of Journal = codes "journal"
name_of Patience = codes "patience"
name_of WaitMs = codes "wait_ms"
name_of Workers = codes "workers"
name_of Connections = codes "connections"
name_of Node = codes "node"
name_of Address = codes "address"
name_of Port = codes "port"

-- the keys of the top table, in the order in which they are checked
abbrev pub top_keys : List Key
top_keys = Seed ∷ Limit ∷ Room ∷ Journal ∷ Patience ∷ WaitMs ∷ Workers ∷ Connections ∷ Node ∷ []

-- the keys of a node's table
abbrev pub node_keys : List Key
node_keys = Address ∷ Port ∷ []

-- ---- the whole numbers: their ranges, and their values where the key is absent, if it may be
-- the most qubits that may be entangled
abbrev pub limit_row : Whole
limit_row = record { key = Limit; least = 1; most = 12; default = Some 12 }

-- the qubits of a node
abbrev pub room_row : Whole
room_row = record { key = Room; least = 1; most = 16; default = Some 16 }

-- the most entries of the journal
abbrev pub journal_row : Whole
journal_row = record { key = Journal; least = 1; most = 1_048_576; default = Some 65_536 }

-- how often a receipt looks again
abbrev pub patience_row : Whole
patience_row = record { key = Patience; least = 0; most = 1_000_000; default = Some 100 }

-- the milliseconds until it does
abbrev pub wait_ms_row : Whole
wait_ms_row = record { key = WaitMs; least = 0; most = 1_000; default = Some 10 }

-- the workers of a node
abbrev pub workers_row : Whole
workers_row = record { key = Workers; least = 1; most = 8; default = Some 1 }

-- the connections of a worker
abbrev pub connections_row : Whole
connections_row = record { key = Connections; least = 1; most = 64; default = Some 64 }

-- the port of a node
abbrev pub port_row : Whole
port_row = record { key = Port; least = 1; most = 65_535; default = None }

-- the value of a row whose key is absent and may be
abbrev pub default_of : Whole → ℕ
default_of row = unwrap_or row.default 0
