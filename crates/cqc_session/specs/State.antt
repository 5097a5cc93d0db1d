-- What a contract sees of a session.
use Rattle.std.specs.Prelude.{◌≡◌, ◌≢◌, ℕ, ◌+◌, ◌*◌, List, ◌∷◌, length, Bool, Option, None, Some}
use Rattle.cqc_model.specs.declared.Command.{Command}
use Rattle.cqc_model.specs.declared.Instr.TheVariants.{Allocate}
use Rattle.network_model.specs.declared.Call.{Call}
use Rattle.session_model.specs.Walk.{Connection, Work, between, working, call_of}
use Rattle.session_model.specs.declared.Ending.{Ending}
use Rattle.cqc_program.specs.Walks.{walk_limit}
use Rattle.cqc_session.specs.declared.stage.Stage.{Stage}
use Rattle.cqc_session.specs.declared.stage.Stage.TheVariants.{Closed, Ready, Waiting}
use Rattle.cqc_session.specs.declared.turn.Turn.{Turn}
use Rattle.cqc_session.specs.declared.turn.Turn.TheVariants.{Execute, End}

-- where it is, how many bytes it may read in all and still, what is still to be asked, and what it can be asked for
pub record State : Type 0 where
  pub connection : Connection
  pub cap : ℕ
  pub budget : ℕ
  pub work : Work
  pub stage : Stage

-- the work while the message of an app is open, or none is
abbrev pub work_of : Option ℕ → List Command → Bool → Work
work_of None list notify = between
work_of (Some app) list notify = working app list notify

-- it waits for the reply to this call
pub record Waits (call : Call) (s : State) : Type 0 where
  pub stage : s.stage ≡ Waiting
  pub others : List Command
  pub notify : Bool
  pub work : s.work ≡ working call.app (call.command ∷ others) notify
  pub call_is : call ≡ call_of s.connection call.app call.command
  pub allowed : call.command.instr ≢ Allocate

-- how many commands are still to be asked of the message that is open
abbrev pub work_size : Work → ℕ
work_size between = 0
work_size (working app list notify) = length list

-- a number that falls with each command: a message has fewer than the limit, and takes bytes
abbrev pub steps_left : State → ℕ
steps_left s = s.budget * walk_limit + work_size s.work

-- a connection that begins: nothing was read, and nothing is to be asked
abbrev pub begun : Connection → ℕ → State
begun connection cap = record { connection = connection; cap = cap; budget = cap; work = between; stage = Ready }

-- a session before its first connection
abbrev pub not_begun : Connection → ℕ → State
not_begun connection cap = record (begun connection cap) { stage = Closed }

-- the stage after a poll: it waits for the reply to a call, or its connection has ended
abbrev pub stage_after : Turn → Stage
stage_after (Execute call) = Waiting
stage_after (End ending) = Closed

-- the stage after an answer, by how it ended
abbrev pub stage_after_answer : Option Ending → Stage
stage_after_answer None = Ready
stage_after_answer (Some ending) = Closed
