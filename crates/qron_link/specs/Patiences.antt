-- Patience: what an ask does to it, and patience that counts.
use Rattle.std.specs.Prelude.{◌≡◌, ℕ, ◌+◌, ◌-◌, ◌^◌, ◌≤◌, min, Bool, true, false, cond, nat_lt, List, [], ◌∷◌, ◌++◌, length}
use Rattle.qron_link.specs.Outside.{Rose, next_count}
use Rattle.qron_link.specs.declared.patience.EmptyAt.{EmptyAt}

-- it went on, which it does once less; or it gave up
abbrev pub LoweredBy : Bool → ℕ → ℕ → Type 0
LoweredBy true before now = before ≡ now + 1
LoweredBy false before now = now ≡ before

-- it gave up only where the count of giving up rose
abbrev pub GivenUpBy : Bool → ℕ → ℕ → Type 0
GivenUpBy true before now = now ≡ before
GivenUpBy false before now = (before ≤ now) × Rose before now

-- what contracts see of patience that counts: how often it goes on after a start, what it was shown since the last one,
-- how often it gave up, and how often it was asked in all
pub record Asks : Type 0 where
  pub times : ℕ
  pub shown : List EmptyAt
  pub gave_up : ℕ
  pub asked : ℕ

-- it stands at a start, and was never asked
abbrev pub new_asks : ℕ → Asks
new_asks times = record { times = times; shown = []; gave_up = 0; asked = 0 }

-- behind a start
abbrev pub started : Asks → Asks
started p = record p { shown = [] }

-- behind an ask, which it answers by whether it was shown fewer places than it goes on
abbrev pub asked_once : Asks → EmptyAt → Asks
asked_once p seen = record p {
  shown = p.shown ++ seen ∷ [];
  gave_up = cond (nat_lt (length p.shown) p.times) p.gave_up (next_count p.gave_up);
  asked = min (p.asked + 1) (2 ^ 32 - 1);
}
