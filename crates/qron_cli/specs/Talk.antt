-- A client's talk at a place: the messages of a script, and the replies to them.
use Rattle.std.specs.Prelude.{◌≡◌, ◌⊎◌, ℕ, ◌^◌, ◌<◌, ◌≤◌, List, [], ◌∷◌, ◌++◌, length, All, Option, option_map, Result, Ok, Err}
use Rattle.cqc_client.specs.declared.talking.Talked.{Talked}
use Rattle.cqc_client.specs.declared.talking.Talked.TheVariants as talked
use Rattle.cqc_client.specs.Talk.{Said, Moved, EndsAs, talk_limit, LinkReadCause, LinkWriteCause, OutWriteCause}
use Rattle.script.specs.Drafts.{Sending}
use Rattle.script.specs.Script.{script_of}
use Rattle.script.specs.Sendable.{IsSendable}
use Rattle.script.specs.declared.fault.ScriptFault.{ScriptFault}
use Rattle.qron_cli.specs.House.{Facts, IsTooLong}
use Rattle.qron_cli.specs.Files.{Means}
use Rattle.cqc_server.specs.Watch.{LinkSeen}
use Rattle.qron_cli.specs.Stops.{Stopped}
use Rattle.qron_cli.specs.Statuses.{status_of}
use Rattle.qron_cli.specs.declared.complaint.Complaint.{Complaint}
use Rattle.qron_cli.specs.declared.complaint.Complaint.TheVariants as complaint
use Rattle.qron_cli.specs.declared.status.Work.{Work}
use Rattle.qron_cli.specs.declared.status.Work.TheVariants as work
use Rattle.qron_cli.specs.declared.status.Status.{Status}
use Rattle.qron_cli.specs.declared.status.Status.TheVariants.{Memory}

-- the file of a name says these messages
abbrev pub SaysScript : Facts → List ℕ → List Sending → Type 0
SaysScript facts name script = Means facts name script_of (Ok script)

-- the file of a name says no messages
abbrev pub RefusesScript : Facts → List ℕ → ScriptFault → Type 0
RefusesScript facts name why = Means facts name script_of (Err (why.line, why.why))

-- the file of a name is no script: it says none, or it is too long
abbrev pub NoScript : Facts → List ℕ → Type 0
NoScript facts name = ((why : ScriptFault) × RefusesScript facts name why) ⊎ IsTooLong facts name

-- a script is refused for what it says
abbrev pub RefusesAsScript : Facts → List ℕ → Complaint → Type 0
RefusesAsScript facts name (complaint.Script why) = RefusesScript facts name why
RefusesAsScript facts name _ = ⊥

-- messages that a talk can send
abbrev pub CanTalk : List Sending → Type 0
CanTalk script = (length script < 2 ^ 32) × All IsSendable script

-- a link that was handed out between two moments, as it is seen first, and as it is seen at last
pub record Handed {L : Type 0} (seen : L → LinkSeen) (was_led : L → L → Type 0) (old new : Option (List L)) (first last : LinkSeen) : Type 0 where
  pub link : L
  pub left : L
  pub handed : new ≡ option_map (λ links. links ++ (link ∷ [])) old
  pub led : was_led link left
  pub is_first : first ≡ seen link
  pub is_last : last ≡ seen left

-- what came of a talk that ended so
abbrev pub outcome_of_talk : Talked → Result Work Complaint
outcome_of_talk (talked.Done messages) = Ok work.Done
outcome_of_talk (talked.Cut message) = Ok work.Unfinished
outcome_of_talk (talked.Strange message kind) = Ok work.Unfinished
outcome_of_talk (talked.Spent message) = Ok work.Unfinished
outcome_of_talk talked.LinkRead = Err complaint.Fault
outcome_of_talk talked.LinkWrite = Err complaint.Fault
outcome_of_talk talked.OutWrite = Err complaint.Fault

-- The messages of a script were sent over a link that led from the first to the last, and the lines of the replies
-- printed, up to the answer, of which the status is. A fault is answered only where its own side failed once more.
-- Nothing was read from the pipe.
pub record Spoke (script : List Sending) (first last old new : LinkSeen) (status : Status) : Type 0 where
  pub answer : Talked
  pub said : Said
  pub moved : Moved said first.left last.left first.held last.held old.held new.held
  pub few : length said.read ≤ talk_limit
  pub ends : EndsAs answer script said last.left
  pub link_reads : LinkReadCause answer first.read_faults last.read_faults
  pub link_writes : LinkWriteCause answer first.write_faults last.write_faults
  pub prints : OutWriteCause answer old.write_faults new.write_faults
  pub left : new.left ≡ old.left
  pub reads : new.read_faults ≡ old.read_faults
  pub is : status ≡ status_of (outcome_of_talk answer)

-- memory was short and nothing was done, or the messages were sent over the link
abbrev pub SpokeOver : List Sending → LinkSeen → LinkSeen → LinkSeen → LinkSeen → Status → Type 0
SpokeOver script first last old new status = ((status ≡ Memory) × (new ≡ old)) ⊎ Spoke script first last old new status

-- the messages of a script were sent over a link that the house handed out
abbrev pub SpokeAt : (LinkSeen → LinkSeen → Type 0) → List Sending → LinkSeen → LinkSeen → Status → Type 0
SpokeAt handed script old new status = (first : LinkSeen) × (last : LinkSeen) × handed first last × Spoke script first last old new status

-- it stopped, or the messages of a script were sent over a link that the house handed out
abbrev pub TalkAtRan : (LinkSeen → LinkSeen → Type 0) → List Sending → Facts → Facts → LinkSeen → LinkSeen → Status → Type 0
TalkAtRan handed script before after old new status = Stopped ⊥ before after old new status ⊎ SpokeAt handed script old new status

-- the same of the messages of a file
abbrev pub TalkRan : (LinkSeen → LinkSeen → Type 0) → List ℕ → Facts → Facts → LinkSeen → LinkSeen → Status → Type 0
TalkRan handed name before after old new status =
    Stopped (NoScript before name) before after old new status
    ⊎ ((script : List Sending) × SaysScript before name script × SpokeAt handed script old new status)
