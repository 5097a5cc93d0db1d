-- What contracts see of a message's body and of its commands that are still to be asked.
use Rattle.std.specs.Prelude.{ℕ, List, [], Bool, false, Option, None, Some}
use Rattle.cqc_model.specs.declared.Command.{Command}
use Rattle.cqc_program.specs.declared.walk.Walk.{Walk}
use Rattle.cqc_program.specs.Walks.{IsOver, left_of, notify_of}

-- the body's bytes, the commands that are still to be asked, and whether DONE follows them
pub record Program : Type 0 where
  pub body : List ℕ
  pub left : List Command
  pub notify : Bool

-- what a walk still asks of a body; nothing where the body wasn't opened
abbrev pub left_over : List ℕ → Option Walk → List Command
left_over body None = []
left_over body (Some walk) = left_of body walk

-- whether DONE follows
abbrev pub notify_over : List ℕ → Option Walk → Bool
notify_over body None = false
notify_over body (Some walk) = notify_of body walk

-- a walk is over this body
abbrev pub WalksOver : List ℕ → Option Walk → Type 0
WalksOver body None = Unit {0}
WalksOver body (Some walk) = IsOver body walk
