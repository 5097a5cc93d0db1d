-- What a hold ends as, where a value is lent.
use Rattle.std.specs.Prelude.{ℕ, []}
use Rattle.std.specs.Borrow.{Lends, MutBor, Fml, RattleType}
use mir.Syntax.{named}
use Rattle.register_locks.specs.Slots.{Holding, held_with, place_with}
use Rattle.register_locks.specs.contracts.hold.Hold.{the_row}

-- the value of a number
abbrev pub LendsHeld : (R N : RattleType) → MutBor (Holding R.Denot) → ℕ → MutBor R.Denot → Fml
LendsHeld R N s n r = Lends (the_row (record { mir = named 1; lft = [] }) R N) R s r (λ w. record s.now { slots = held_with s.now.slots n w })

-- the value at a place
abbrev pub LendsPlace : (R N : RattleType) → MutBor (Holding R.Denot) → ℕ → MutBor R.Denot → Fml
LendsPlace R N s k r = Lends (the_row (record { mir = named 1; lft = [] }) R N) R s r (λ w. record s.now { slots = place_with s.now.slots k w })
