-- What the files say that the words name.
use Rattle.std.specs.Prelude.{◌≡◌, ◌⊎◌, ℕ, ◌≤◌, List, length, Result, Ok, Err}
use Rattle.qron_link.specs.Outside.{Rose}
use Rattle.node_table.specs.declared.settings.Settings.{Settings}
use Rattle.node_table.specs.declared.settings.SettingsFault.{SettingsFault}
use Rattle.node_table.specs.Document.{settings_of}
use Rattle.schedule.specs.declared.plans.ScheduleFault.{ScheduleFault}
use Rattle.schedule.specs.Plans.{Plans}
use Rattle.schedule.specs.Schedule.{schedule_of}
use Rattle.qron_cli.specs.House.{Facts, IsFile, IsTooLong, file_limit}
use Rattle.qron_cli.specs.declared.complaint.Complaint.{Complaint}
use Rattle.qron_cli.specs.declared.complaint.Complaint.TheVariants as complaint

-- the file of a name has this text
pub record Holds (facts : Facts) (name text : List ℕ) : Type 0 where
  pub bytes : IsFile facts name text
  pub few : length text ≤ file_limit

-- the text of the file of a name means this
abbrev pub Means : {A : Type 0} → Facts → List ℕ → (List ℕ → A) → A → Type 0
Means facts name meaning_of meaning = (text : List ℕ) × Holds facts name text × (meaning_of text ≡ meaning)

-- the file of a name says these settings
abbrev pub SaysSettings : Facts → List ℕ → Settings → Type 0
SaysSettings facts name s = Means facts name settings_of (Ok s)

-- the file of a name says no settings
abbrev pub RefusesSettings : Facts → List ℕ → SettingsFault → Type 0
RefusesSettings facts name why = Means facts name settings_of (Err why)

-- the file of a name is no file of settings: it says none, or it is too long
abbrev pub NoSettings : Facts → List ℕ → Type 0
NoSettings facts name = ((why : SettingsFault) × RefusesSettings facts name why) ⊎ IsTooLong facts name

-- the file of a name says this schedule, for so many nodes
abbrev pub SaysSchedule : Facts → List ℕ → ℕ → Plans → Type 0
SaysSchedule facts name nodes plans = Means facts name (schedule_of nodes) (Ok plans)

-- the file of a name says no schedule for so many nodes
abbrev pub RefusesSchedule : Facts → List ℕ → ℕ → ScheduleFault → Type 0
RefusesSchedule facts name nodes why = Means facts name (schedule_of nodes) (Err (why.line, why.why))

-- the file of a name is no schedule for so many nodes: it says none, or it is too long
abbrev pub NoSchedule : Facts → List ℕ → ℕ → Type 0
NoSchedule facts name nodes = ((why : ScheduleFault) × RefusesSchedule facts name nodes why) ⊎ IsTooLong facts name

-- What came of reading a file: what it says, or why it is refused. It could not be read only where the house's count
-- of faults rose.
abbrev pub Gave : {A : Type 0} → (A → Type 0) → (Complaint → Type 0) → List ℕ → Facts → Facts → Result A Complaint → Type 0
Gave says refuses name old new (Ok a) = says a
Gave says refuses name old new (Err complaint.Memory) = Unit {0}
Gave says refuses name old new (Err complaint.Fault) = Rose old.faults new.faults
Gave says refuses name old new (Err complaint.FileTooLong) = IsTooLong old name
Gave says refuses name old new (Err complaint.Words) = ⊥
Gave says refuses name old new (Err (complaint.Settings why)) = refuses (complaint.Settings why)
Gave says refuses name old new (Err (complaint.Schedule why)) = refuses (complaint.Schedule why)
Gave says refuses name old new (Err (complaint.Script why)) = refuses (complaint.Script why)

-- a file that may say anything is refused for nothing that it says
abbrev pub RefusesNothing : Complaint → Type 0
RefusesNothing why = ⊥

-- a file of settings is refused for what it says
abbrev pub RefusesAsSettings : Facts → List ℕ → Complaint → Type 0
RefusesAsSettings facts name (complaint.Settings why) = RefusesSettings facts name why
RefusesAsSettings facts name _ = ⊥

-- a schedule is refused for what it says
abbrev pub RefusesAsSchedule : Facts → List ℕ → ℕ → Complaint → Type 0
RefusesAsSchedule facts name nodes (complaint.Schedule why) = RefusesSchedule facts name nodes why
RefusesAsSchedule facts name nodes _ = ⊥
