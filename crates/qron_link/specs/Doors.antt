-- What a knock does to the links that a door has handed out, and to its counts.
use Rattle.std.specs.Prelude.{◌≡◌, ℕ, ◌≤◌, List, [], ◌∷◌, ◌++◌, Option, option_map}
use Rattle.qron_link.specs.Outside.{Rose}
use Rattle.qron_link.specs.declared.door.Knock.{Knock}
use Rattle.qron_link.specs.declared.door.Knock.TheVariants as knock

-- the links handed out, behind a knock: where they are told, a link is added behind them
abbrev pub KnockGave : {L : Type 0} → Knock L → Option (List L) → Option (List L) → Type 0
KnockGave (knock.Link l) old new = new ≡ option_map (λ links. links ++ (l ∷ [])) old
KnockGave knock.Closed old new = new ≡ old
KnockGave knock.Failed old new = new ≡ old

-- it failed only where the count of faults rose
abbrev pub FailCause : {L : Type 0} → Knock L → ℕ → ℕ → Type 0
FailCause knock.Failed before now = (before ≤ now) × Rose before now
FailCause _ before now = before ≤ now

-- it was closed only where the count of closings rose
abbrev pub CloseCause : {L : Type 0} → Knock L → ℕ → ℕ → Type 0
CloseCause knock.Closed before now = (before ≤ now) × Rose before now
CloseCause _ before now = before ≤ now
