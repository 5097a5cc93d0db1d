-- The settings of a network, as the model has them.
use Rattle.std.specs.Prelude.{ℕ, ◌≢◌, ◌≤◌, ◌==◌, Bool, ◌&&◌, List, length, AllPairs}
use Rattle.network_model.specs.Network.{Shape}
use Rattle.network_model.specs.declared.Place.{Place}

-- the model's settings of a network
abbrev pub Settings : Type 0
Settings = Shape

-- the settings with these places, this room and this limit
abbrev pub settings : List Place → ℕ → ℕ → Settings
settings places room limit = record { places = places; room = room; limit = limit }

-- whether a place has this address and port
abbrev pub is_place : ℕ → ℕ → Place → Bool
is_place address port p = (p.address == address) && (p.port == port)

-- 1 to 8 distinct places, 1 to 16 qubits of room, 1 to 12 entangled ones
pub record AreSettings (places : List Place) (room limit : ℕ) : Type 0 where
  pub some : 1 ≤ length places
  pub most : length places ≤ 8
  pub distinct : AllPairs (λ one two. one ≢ two) places
  pub some_room : 1 ≤ room
  pub most_room : room ≤ 16
  pub some_limit : 1 ≤ limit
  pub most_limit : limit ≤ 12
