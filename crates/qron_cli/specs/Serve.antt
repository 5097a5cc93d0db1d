-- A network that is served on its ports: its record, and what is printed of it.
use Rattle.std.specs.Prelude.{◌≡◌, ◌⊎◌, ℕ, List, ◌++◌, length, map, codes, Bool, true, false, if◌then◌else◌, Option, Some, option_map, Result, Err}
use Rattle.std.specs.List.{list_any, flat_map}
use Rattle.std.specs.Fmt.{decimal}
use Rattle.network_model.specs.declared.Entry.{Entry}
use Rattle.session_model.specs.declared.Ending.{Ending}
use Rattle.node_table.specs.declared.settings.Settings.{Settings}
use Rattle.cqc_server.specs.Record.{IsRecord}
use Rattle.cqc_server.specs.Watch.{LinkSeen, Watch}
use Rattle.cqc_server.specs.declared.record.Served.{Served}
use Rattle.cqc_server.specs.declared.record.WorkerEnd.{WorkerEnd}
use Rattle.cqc_server.specs.declared.record.WorkerEnd.TheVariants.{Limit, Closed, DoorFault}
use Rattle.qron_cli.specs.Files.{SaysSettings, NoSettings}
use Rattle.qron_cli.specs.House.{Facts}
use Rattle.qron_cli.specs.Lines.{word_of, outcome_of_all}
use Rattle.qron_cli.specs.Posts.{AreGiven}
use Rattle.qron_cli.specs.Printed.{Printed}
use Rattle.qron_cli.specs.Statuses.{status_of}
use Rattle.qron_cli.specs.Stops.{Stopped}
use Rattle.qron_cli.specs.declared.complaint.Complaint.{Complaint}
use Rattle.qron_cli.specs.declared.complaint.Complaint.TheVariants.{Fault}
use Rattle.qron_cli.specs.declared.status.Work.{Work}
use Rattle.qron_cli.specs.declared.status.Status.{Status}
use Rattle.qron_cli.specs.declared.status.Status.TheVariants.{Memory}

-- ---- the record
-- what serving left: the history, the connections in order, why each worker ended, and the posts
pub record Left (Q L : Type 0) : Type 0 where
  pub entries : List Entry
  pub served : List (Served L)
  pub ends : List WorkerEnd
  pub posts : List Q

abbrev pub left_of : {Q L : Type 0} → List Entry → List (Served L) → List WorkerEnd → List Q → Left Q L
left_of entries served ends posts = record { entries = entries; served = served; ends = ends; posts = posts }

-- What is left is the record of a network with these settings, over exactly the posts that the house handed out
-- between two moments, where it tells them; their dice have the key of the seed.
pub record WasServed {Q L : Type 0} (watch : Watch Q L) (keys : List ℕ → List ℕ) (before after : Option (List Q)) (s : Settings) (left : Left Q L) : Type 0 where
  pub posts : List Q
  pub posted : after ≡ option_map (λ list. list ++ posts) before
  pub given : AreGiven watch (keys s.seed) s posts
  pub is_record : IsRecord watch s posts left.entries left.served left.ends left.posts

-- ---- what is printed of it
-- what is printed of a connection: its seat, serial and node, and how it ended
pub record Shown : Type 0 where
  pub seat : ℕ
  pub serial : ℕ
  pub node : ℕ
  pub ending : Ending

-- what is printed of a record: its connections, and how many entries there are; and why its workers ended
pub record Report : Type 0 where
  pub connections : List Shown
  pub ends : List WorkerEnd
  pub entries : ℕ

abbrev pub shown : {L : Type 0} → Served L → Shown
shown s = record { seat = s.seat; serial = s.serial; node = s.node; ending = s.ending }

abbrev pub report_of : {Q L : Type 0} → Left Q L → Report
report_of left = record { connections = map shown left.served; ends = left.ends; entries = length left.entries }

-- the line of a connection
abbrev pub shown_line : Shown → List ℕ
shown_line c = decimal c.seat ++ codes " " ++ decimal c.serial ++ codes " " ++ decimal c.node ++ codes " " ++ word_of c.ending ++ codes "\n"

-- the lines of a report: those of its connections in order, and then the number of entries
abbrev pub report_lines : Report → List ℕ
report_lines r = flat_map shown_line r.connections ++ codes "entries " ++ decimal r.entries ++ codes "\n"

-- the worker's door failed
abbrev pub is_door_fault : WorkerEnd → Bool
is_door_fault Limit = false
is_door_fault Closed = false
is_door_fault DoorFault = true

-- what came of serving: a fault where a door or a link failed, else what came of its connections
abbrev pub outcome_of_report : Report → Result Work Complaint
outcome_of_report r = if list_any is_door_fault r.ends then Err Fault else outcome_of_all (map (λ c. Some c.ending) r.connections)

-- The lines of a report were printed, and the status is that of what it reports; or memory was short for its text.
abbrev pub Reported : Report → LinkSeen → LinkSeen → Status → Type 0
Reported r old new status = ((status ≡ Memory) × (new ≡ old)) ⊎ Printed (report_lines r) (status_of (outcome_of_report r)) old new status

-- ---- the command
-- this is the report of a network with these settings that was served between two moments
abbrev pub Reports : {Q L : Type 0} → Watch Q L → (List ℕ → List ℕ) → Option (List Q) → Option (List Q) → Settings → Report → Type 0
Reports {Q} {L} watch keys before after s r = (left : Left Q L) × WasServed watch keys before after s left × (r ≡ report_of left)

-- a network with these settings was served, and the lines of its report were printed
abbrev pub NetworkServed : (Settings → Report → Type 0) → Settings → LinkSeen → LinkSeen → Status → Type 0
NetworkServed reports s old new status = (r : Report) × reports s r × Printed (report_lines r) (status_of (outcome_of_report r)) old new status

-- it stopped, or a network with the settings of a file was served, and its report printed
abbrev pub ServeFileRan : (Settings → Report → Type 0) → List ℕ → Facts → Facts → LinkSeen → LinkSeen → Status → Type 0
ServeFileRan reports name before after old new status =
    Stopped (NoSettings before name) before after old new status
    ⊎ ((s : Settings) × SaysSettings before name s × NetworkServed reports s old new status)
