-- Messages, and what the lines so far made of them.
use Rattle.std.specs.Prelude.{ℕ, Bool, true, false, List, [], ◌∷◌, ◌++◌}
use Rattle.cqc_model.specs.declared.Command.{Command}
use Rattle.cqc_model.specs.declared.Head.{Head}
use Rattle.cqc_model.specs.declared.Head.TheVariants.{Hello}

-- a message to be sent
pub record Sending : Type 0 where
  pub head : Head
  pub list : List Command

-- the application of the messages from here on, the commands since the last message, and the messages
pub record Draft : Type 0 where
  pub app : ℕ
  pub pending : List Command
  pub messages : List Sending

-- app 0, and nothing else
abbrev pub no_draft : Draft
no_draft = record { app = 0; pending = []; messages = [] }

-- one more command
abbrev pub with_command : Draft → Command → Draft
with_command d c = record d { pending = d.pending ++ c ∷ [] }

-- one more message, with these commands
abbrev pub with_message : Draft → Head → List Command → Draft
with_message d head list = record d { pending = []; messages = d.messages ++ record { head = head; list = list } ∷ [] }

-- the commands with NOTIFY on the last
abbrev pub notify_last : List Command → List Command
notify_last [] = []
notify_last (c ∷ []) = record c { notify = true } ∷ []
notify_last (c ∷ d ∷ others) = c ∷ notify_last (d ∷ others)

-- a head without commands
abbrev pub is_hello : Head → Bool
is_hello (Hello app) = true
is_hello _ = false
