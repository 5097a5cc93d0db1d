-- What the program does, by the line that its words are.
use Rattle.std.specs.Prelude.{◌≡◌, ◌⊎◌, ℕ, List, Option, None, Some, IfSome}
use Rattle.node_table.specs.declared.settings.Settings.{Settings}
use Rattle.node_table.specs.Plain.{plain_settings}
use Rattle.word_lines.specs.Lines.{Line, pipe, pipe_with, replay, serve, talk, drill, line_of}
use Rattle.qron_cli.specs.Drill.{DrillRan}
use Rattle.qron_cli.specs.House.{Facts, Allows, asks_of}
use Rattle.qron_cli.specs.Pipe.{AllWords, PipeRan, PipeWithRan}
use Rattle.qron_cli.specs.Replay.{ReplayFilesRan}
use Rattle.cqc_server.specs.Watch.{LinkSeen}
use Rattle.qron_cli.specs.Serve.{Report, ServeFileRan}
use Rattle.qron_cli.specs.Talk.{TalkRan}
use Rattle.qron_cli.specs.declared.status.Status.{Status}
use Rattle.qron_cli.specs.declared.status.Status.TheVariants.{Done, Refused, Words, Memory, Fault, Unfinished}

-- words that are this line
abbrev pub IsLine : Line → Type 0
IsLine line = (words : List (List ℕ)) × (line_of words ≡ Some line)

-- what a line does, with the words of all dice, the link that is handed out, as it is first and last, the reports of
-- networks that were served, and what the house and its pipe tell before and after it
abbrev pub Ran : AllWords → (LinkSeen → LinkSeen → Type 0) → (Settings → Report → Type 0) → Line → Facts → Facts → LinkSeen → LinkSeen → Status → Type 0
Ran word handed reports pipe before after old new status = PipeRan word (plain_settings 1) before after old new status
Ran word handed reports (pipe_with settings) before after old new status = PipeWithRan word settings before after old new status
Ran word handed reports (replay settings schedule) before after old new status = ReplayFilesRan word settings schedule before after old new status
Ran word handed reports (drill rounds) before after old new status = DrillRan word rounds before after old new status
Ran word handed reports (serve settings) before after old new status = ServeFileRan reports settings before after old new status
Ran word handed reports (talk place script) before after old new status = TalkRan handed script before after old new status

-- the words are a line, which is done; or they are none, and nothing is done
abbrev pub Answered : AllWords → (LinkSeen → LinkSeen → Type 0) → (Settings → Report → Type 0) → Option Line → Facts → Facts → LinkSeen → LinkSeen → Status → Type 0
Answered word handed reports (Some line) before after old new status = Ran word handed reports line before after old new status
Answered word handed reports None before after old new status = ((status ≡ Words) ⊎ (status ≡ Memory)) × (new ≡ old)

-- the asks of the line, if there is one, are allowed
abbrev pub MayAsk : Option Line → Facts → Type 0
MayAsk line facts = IfSome line (λ l. Allows (asks_of facts l) facts)

-- with this status nothing was read from the pipe, and nothing written
abbrev pub IsIdle : Status → Type 0
IsIdle Refused = Unit {0}
IsIdle Words = Unit {0}
IsIdle Memory = Unit {0}
IsIdle Done = ⊥
IsIdle Fault = ⊥
IsIdle Unfinished = ⊥
