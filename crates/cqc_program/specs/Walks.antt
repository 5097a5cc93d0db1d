-- What contracts see of a walk: what it still asks, and whether DONE follows.
use Rattle.std.specs.Prelude.{◌≡◌, ℕ, ◌≤◌, ◌<◌, ◌^◌, List, ◌++◌, length, drop, Bool, ◌||◌, IsOk}
use Rattle.cqc_model.specs.declared.Command.{Command}
use Rattle.cqc_model.specs.Plan.{commands, body_plan, steps, body_limit}
use Rattle.cqc_program.specs.declared.walk.Walk.{Walk}
use Rattle.cqc_program.specs.declared.round.Stand.{Stand}
use Rattle.cqc_program.specs.Rounds.{IsAt, kind_of, list_at, round_at, rounds_at, notifies, notices, left_from}

-- the commands that are still asked of a body
abbrev pub left_of : List ℕ → Walk → List Command
left_of body w = left_from body w.start w.stand w.stand.asked

-- whether DONE follows, where they all succeed
abbrev pub notify_of : List ℕ → Walk → Bool
notify_of body w = notices body w.stand

-- a walk over this body
pub record IsOver (body : List ℕ) (w : Walk) : Type 0 where
  pub short : length body ≤ body_limit
  pub start : w.start ≤ length body
  pub sound : IsOk (commands (drop w.start body))
  pub is : IsAt body w.stand
  -- a further round notices nothing more
  pub counted : 0 < w.stand.rounds → (notices body w.stand || notifies (list_at body w.start)) ≡ notices body w.stand

-- what is asked behind the last copy: what is left of this round, and all that follow
pub record MovesOn (body : List ℕ) (w : Walk) (s : Stand) : Type 0 where
  pub is : IsAt body s
  pub fewer : s.rounds ≤ w.stand.rounds
  pub asks : left_from body w.start s s.asked ≡ round_at body w.stand.at ++ rounds_at w.stand.rounds body w.start
  pub notify : notices body s ≡ notices body w.stand

-- the most commands that a message asks lie below this number
abbrev pub walk_limit : ℕ
walk_limit = 2 ^ 40

-- the walk asks what the plan of the message says, and no more
pub record OpensAs (factory : Bool) (body : List ℕ) (w : Walk) : Type 0 where
  pub over : IsOver body w
  pub plan : body_plan (kind_of factory) body ≡ steps (left_of body w) (notify_of body w)
  pub few : length (left_of body w) < walk_limit
