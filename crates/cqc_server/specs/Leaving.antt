-- The room for what workers leave.
use Rattle.std.specs.Prelude.{ℕ, ◌+◌, ◌≤◌, vec_len, vec_capacity}
use Rattle.std.specs.declared.vec.Vec.{Vec}

-- the list has room for so many items more
abbrev pub HasRoomFor : {T Z : Type 0} → ℕ → Vec T Z → Type 0
HasRoomFor n v = vec_len v + n ≤ vec_capacity v
