-- One connection on the pipe, over a core of its own.
use Rattle.std.specs.Prelude.{◌≡◌, ◌≢◌, ◌⊎◌, ℕ, ◌≤◌, List, [], length, replicate, Option, None}
use Rattle.network_model.specs.Network.{Shape}
use Rattle.network_model.specs.History.{IsLegal}
use Rattle.network_model.specs.declared.Entry.{Entry}
use Rattle.session_model.specs.declared.Ending.{Ending}
use Rattle.session_model.specs.declared.Ending.TheVariants.{WriteFault}
use Rattle.session_model.specs.Walk.{Connection}
use Rattle.session_model.specs.Speaks.{Setting, Speaks}
use Rattle.session_model.specs.Turns.{Actor, AreTurns, turn_call}
use Rattle.session_model.specs.Worded.{AreWorded}
use Rattle.qron_link.specs.Outside.{WasRead, WasWritten}
use Rattle.factored_core.specs.Core.{Journal}
use Rattle.cqc_session.specs.Session.{EndCause}
use Rattle.cqc_server.specs.Record.{read_limit}
use Rattle.node_table.specs.declared.settings.Settings.{Settings}
use Rattle.qron_cli.specs.House.{Facts}
use Rattle.qron_cli.specs.Files.{SaysSettings, NoSettings}
use Rattle.cqc_server.specs.Watch.{LinkSeen}
use Rattle.qron_cli.specs.Stops.{Stopped}
use Rattle.qron_cli.specs.declared.status.Status.{Status}
use Rattle.qron_cli.specs.Statuses.{status_of, outcome_of}

-- the words of each connection's dice, by key, seat, serial and number
abbrev pub AllWords : Type 0
AllWords = List ℕ → ℕ → ℕ → ℕ → ℕ

-- the one connection
abbrev pub pipe_connection : Connection
pipe_connection = record { seat = 0; serial = 0; node = 0 }

-- the journal of a network with these settings, with these entries
abbrev pub journal_of : Settings → List Entry → Journal
journal_of s entries = record { shape = s.shape; capacity = s.journal; entries = entries }

-- where the pipe's session is: what it has left, and the entries so far of a journal with this capacity
abbrev pub pipe_setting : ℕ → Option (List ℕ) → List Entry → Setting
pipe_setting capacity left entries = record { connection = pipe_connection; cap = read_limit; left = left; entries = length entries; capacity = capacity }

-- the pipe's connection alone, with these bytes to say and these words to draw
abbrev pub pipe_actor : (ℕ → ℕ) → List ℕ → Actor
pipe_actor words read = record { connection = pipe_connection; words = words; input = read; room = None }

-- The pipe was served over a network of this shape, whose journal has this capacity: the bytes read, the entries
-- made, the bytes written and the ending are those of one connection that takes turns alone, from the empty history;
-- its words are those of the dice, and it ends before its last turn only where the pipe took no more. A fault ends it
-- only where its own side failed once more.
pub record PipeServed (shape : Shape) (capacity : ℕ) (words : ℕ → ℕ) (old new : LinkSeen) (ending : Ending) : Type 0 where
  pub read : List ℕ
  pub written : List ℕ
  pub entries : List Entry
  pub was_read : WasRead old.left read new.left
  pub few : length read ≤ read_limit
  pub was_written : WasWritten old.held written new.held
  pub cause : EndCause ending old.read_faults new.read_faults old.write_faults new.write_faults
  pub speaks : Speaks (pipe_setting capacity new.left entries) read entries written ending
  pub turns : AreTurns shape capacity (replicate (length entries) (pipe_actor words read)) [] entries
  pub last : ending ≢ WriteFault → turn_call capacity (pipe_actor words read) entries ≡ None
  pub legal : IsLegal shape entries
  pub worded : AreWorded words entries

-- the words of the pipe's dice: those of seat 0 and serial 0, under the key of a seed
abbrev pub pipe_words : AllWords → Facts → List ℕ → ℕ → ℕ
pipe_words word facts seed k = word (facts.keys seed) 0 0 k

-- the pipe was served with these settings, and the status is that of the ending
abbrev pub PipeAnswered : AllWords → Facts → Settings → LinkSeen → LinkSeen → Status → Type 0
PipeAnswered word facts s old new status =
    (ending : Ending) × PipeServed s.shape s.journal (pipe_words word facts s.seed) old new ending × (status ≡ status_of (outcome_of ending))

-- it stopped, or the pipe was served with these settings
abbrev pub PipeRan : AllWords → Settings → Facts → Facts → LinkSeen → LinkSeen → Status → Type 0
PipeRan word s before after old new status = Stopped ⊥ before after old new status ⊎ PipeAnswered word before s old new status

-- it stopped, or the pipe was served with the settings of a file
abbrev pub PipeWithRan : AllWords → List ℕ → Facts → Facts → LinkSeen → LinkSeen → Status → Type 0
PipeWithRan word name before after old new status =
    Stopped (NoSettings before name) before after old new status
    ⊎ ((s : Settings) × SaysSettings before name s × PipeAnswered word before s old new status)
