-- A state that cells can stand for.
use Rattle.std.specs.Prelude.{ℕ, ◌≡◌, ◌<◌, ◌≤◌, ◌*◌, true, length}
use Rattle.state_model.specs.Row.{is_listed}
use Rattle.network_model.specs.Network.{Network, Shape, IsSound}
use Rattle.network_model.specs.Factored.{IsHoused}

-- the state is sound, and its groups have homes of their own, which are slots of the network
pub record IsStanding (shape : Shape) (s : Network) (home : ℕ → ℕ) : Type 0 where
  pub limit : 1 ≤ shape.limit
  pub sound : IsSound shape s
  pub housed : IsHoused s home
  pub homed : (q : ℕ) → is_listed s.live q ≡ true → home q < length shape.places * shape.room
