-- Messages that can be sent.
use Rattle.std.specs.Prelude.{◌≤◌, length}
use Rattle.cqc_model.specs.Wire.{message_body}
use Rattle.cqc_model.specs.Ranges.{MayCarry}
use Rattle.cqc_model.specs.Plan.{body_limit}
use Rattle.script.specs.Drafts.{Sending}

-- a HELLO has no commands, and a body isn't too long
pub record IsSendable (m : Sending) : Type 0 where
  pub alone : MayCarry m.head m.list
  pub size : length (message_body m.head m.list) ≤ body_limit
