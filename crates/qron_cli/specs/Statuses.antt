-- The program's statuses: their numbers, the status of each outcome, and what is said of each complaint.
use Rattle.std.specs.Prelude.{◌≡◌, ◌⊎◌, ℕ, List, [], codes, Option, None, Some, Result, Ok, Err}
use Rattle.std.specs.declared.io.ErrorKind.{ErrorKind}
use Rattle.std.specs.declared.io.ErrorKind.TheVariants.{OutOfMemory}
use Rattle.session_model.specs.declared.Ending.{Ending}
use Rattle.session_model.specs.declared.Ending.TheVariants.{Clean, Cut, ReadFault, WriteFault, Full, Spent}
use Rattle.qron_link.specs.Pipes.{Piped, SendFailed}
use Rattle.qron_cli.specs.declared.complaint.Complaint.{Complaint}
use Rattle.qron_cli.specs.declared.complaint.Complaint.TheVariants as complaint
use Rattle.qron_cli.specs.declared.status.Work.{Work}
use Rattle.qron_cli.specs.declared.status.Work.TheVariants as work
use Rattle.qron_cli.specs.declared.status.Status.{Status}
use Rattle.qron_cli.specs.declared.status.Status.TheVariants.{Done, Refused, Words, Memory, Fault, Unfinished}

-- the number that the program's caller is given
abbrev pub code_of : Status → ℕ
code_of Done = 0
code_of Refused = 1
code_of Words = 2
code_of Memory = 3
code_of Fault = 4
code_of Unfinished = 5

-- the status of a complaint
abbrev pub status_for : Complaint → Status
status_for complaint.Words = Words
status_for complaint.Memory = Memory
status_for complaint.Fault = Fault
status_for (complaint.Settings why) = Refused
status_for (complaint.Schedule why) = Refused
status_for (complaint.Script why) = Refused
status_for complaint.FileTooLong = Refused

-- the status of an outcome
abbrev pub status_of : Result Work Complaint → Status
status_of (Ok work.Done) = Done
status_of (Ok work.Unfinished) = Unfinished
status_of (Err why) = status_for why

-- what came of a session with this ending
abbrev pub outcome_of : Ending → Result Work Complaint
outcome_of Clean = Ok work.Done
outcome_of (Cut have need) = Ok work.Unfinished
outcome_of (Full entries) = Ok work.Unfinished
outcome_of (Spent bytes) = Ok work.Unfinished
outcome_of ReadFault = Err complaint.Fault
outcome_of WriteFault = Err complaint.Fault

-- what is said of a complaint, in front of the number of a line
abbrev pub label_of : Complaint → List ℕ
label_of complaint.Words = codes "qron: words"
label_of complaint.Memory = codes "qron: memory"
label_of complaint.Fault = codes "qron: fault"
label_of (complaint.Settings why) = codes "qron: settings"
label_of (complaint.Schedule why) = codes "qron: schedule line"
label_of (complaint.Script why) = codes "qron: script line"
label_of complaint.FileTooLong = codes "qron: file too long"

-- the number of the line that is refused, if one is
abbrev pub number_of : Complaint → Option ℕ
number_of (complaint.Schedule why) = Some why.line
number_of (complaint.Script why) = Some why.line
number_of complaint.Words = None
number_of complaint.Memory = None
number_of complaint.Fault = None
number_of (complaint.Settings why) = None
number_of complaint.FileTooLong = None

-- the complaint where the words could not be read: memory was short, or one of them is no text
abbrev pub words_complaint : ErrorKind → Complaint
words_complaint OutOfMemory = complaint.Memory
words_complaint _ = complaint.Words

-- the end: all that was gathered is sent and the status stays, or it could not be sent and the status is a fault's
abbrev pub HasFinished : Piped → Piped → Status → Status → Type 0
HasFinished old new before now = ((new ≡ record old { gathered = [] }) × (now ≡ before)) ⊎ (SendFailed old new × (now ≡ Fault))
