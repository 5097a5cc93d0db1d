-- What a schedule says: its connections, and the order of their turns.
use Rattle.std.specs.Prelude.{ℕ, List, [], ◌∷◌, ◌++◌, replicate}

-- a connection: its node, the room of its sink, and its input
pub record Plan : Type 0 where
  pub node : ℕ
  pub room : ℕ
  pub bytes : List ℕ

-- the connections in the order of their lines, and the connection of each turn
pub record Plans : Type 0 where
  pub plans : List Plan
  pub order : List ℕ

-- no connection, and no turn
abbrev pub no_plans : Plans
no_plans = record { plans = []; order = [] }

-- one more connection
abbrev pub with_plan : Plans → Plan → Plans
with_plan so_far plan = record so_far { plans = so_far.plans ++ plan ∷ [] }

-- so many more turns of a connection
abbrev pub with_turns : Plans → ℕ → ℕ → Plans
with_turns so_far connection count = record so_far { order = so_far.order ++ replicate count connection }
