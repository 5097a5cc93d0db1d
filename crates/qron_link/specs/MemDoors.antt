-- A door in memory: what it means, and what a knock does to it.
use Rattle.std.specs.Prelude.{◌≡◌, ℕ, ◌-◌, ◌<◌, ◌≤◌, List, [], ◌∷◌, ◌++◌, length, take, Bool, if◌then◌else◌}
use Rattle.qron_link.specs.declared.door.Knock.{Knock}
use Rattle.qron_link.specs.declared.door.Knock.TheVariants as knock
use Rattle.qron_link.specs.Outside.{next_count}
use Rattle.qron_link.specs.MemLinks.{Memory, is_listed}

pub record Doorway : Type 0 where
  -- the links that were handed out, and those that are left
  pub handed : List Memory
  pub left : List Memory
  -- the numbers of the calls that fail, and how many calls were made
  pub bad : List ℕ
  pub calls : ℕ
  -- how often it failed, and how often it was closed
  pub faults : ℕ
  pub closings : ℕ

-- the links that are left are the last ones of all
abbrev pub IsRest : List Memory → List Memory → Type 0
IsRest left all = take (length all - length left) all ++ left ≡ all

-- a door that was not knocked at yet
abbrev pub new_doorway : List Memory → List ℕ → Doorway
new_doorway links bad = record { handed = []; left = links; bad = bad; calls = 0; faults = 0; closings = 0 }

-- the next knock fails
abbrev pub knock_fails : Doorway → Bool
knock_fails d = is_listed d.calls d.bad

-- a knock that doesn't fail, by the links that are left
abbrev pub first_link : List Memory → Knock Memory
first_link [] = knock.Closed
first_link (link ∷ rest) = knock.Link link

-- what the next knock answers
abbrev pub knock_answer : Doorway → Knock Memory
knock_answer d = if knock_fails d then knock.Failed else first_link d.left

-- the door behind a knock that didn't fail, by the links that were left
abbrev pub after_first : Doorway → List Memory → Doorway
after_first d [] = record d { calls = next_count d.calls; closings = next_count d.closings }
after_first d (link ∷ rest) = record d { calls = next_count d.calls; handed = d.handed ++ (link ∷ []); left = rest }

-- the door behind the next knock
abbrev pub after_knock : Doorway → Doorway
after_knock d =
    if knock_fails d then record d { calls = next_count d.calls; faults = next_count d.faults } else after_first d d.left

-- what stays of a door whatever calls are made
pub record IsSameDoor (old new : Doorway) : Type 0 where
  pub links : new.handed ++ new.left ≡ old.handed ++ old.left
  pub fewer : length new.left ≤ length old.left
  pub bad : new.bad ≡ old.bad
  -- where no call is listed none fails, and it is closed only where no link is left
  pub well : old.bad ≡ [] → new.faults ≡ old.faults
  pub open_while : 0 < length new.left → new.closings ≡ old.closings
