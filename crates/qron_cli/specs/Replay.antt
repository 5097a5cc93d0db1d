-- Connections that take turns over a core of their own, and what is printed of them.
use Rattle.std.specs.Prelude.{◌⊎◌, ℕ, List, [], length, map, Option}
use Rattle.network_model.specs.Network.{Shape}
use Rattle.network_model.specs.declared.Entry.{Entry}
use Rattle.session_model.specs.Turns.{Actor, Finish, AreTurns, takers_of}
use Rattle.node_table.specs.declared.settings.Settings.{Settings}
use Rattle.schedule.specs.Plans.{Plans}
use Rattle.qron_cli.specs.House.{Facts}
use Rattle.qron_cli.specs.Files.{SaysSettings, NoSettings, SaysSchedule, NoSchedule}
use Rattle.qron_cli.specs.Lines.{end_lines, ending_in, outcome_of_all}
use Rattle.qron_cli.specs.Pipe.{AllWords}
use Rattle.qron_cli.specs.Seats.{all_planned, ends_of}
use Rattle.cqc_server.specs.Watch.{LinkSeen}
use Rattle.qron_cli.specs.Printed.{Printed}
use Rattle.qron_cli.specs.Stops.{Stopped}
use Rattle.qron_cli.specs.declared.status.Status.{Status}
use Rattle.qron_cli.specs.Statuses.{status_of}

-- the status of how connections ended
abbrev pub status_of_ends : List (Option Finish) → Status
status_of_ends ends = status_of (outcome_of_all (map ending_in ends))

-- Connections took turns in this order over a core without entries, and then went on to their ends. A text of the
-- entries and the ends was printed, and the status is that of the ends, unless the printing failed.
pub record Played (shape : Shape) (capacity : ℕ) (actors : List Actor) (order : List ℕ) (text : List Entry → List (Option Finish) → List ℕ) (old new : LinkSeen) (status : Status) : Type 0 where
  pub entries : List Entry
  pub turns : AreTurns shape capacity (takers_of capacity actors order) [] entries
  pub printed : Printed (text entries (ends_of capacity entries actors)) (status_of_ends (ends_of capacity entries actors)) old new status

-- the same with these settings, a schedule's connections and its order
abbrev pub PlansPlayed : AllWords → Facts → Settings → Plans → (List Entry → List (Option Finish) → List ℕ) → LinkSeen → LinkSeen → Status → Type 0
PlansPlayed word facts s plans text old new status =
    Played s.shape s.journal (all_planned word (facts.keys s.seed) 0 plans.plans) plans.order text old new status

-- the connections of a schedule took turns, and their ends were printed
abbrev pub Replayed : AllWords → Facts → Settings → Plans → LinkSeen → LinkSeen → Status → Type 0
Replayed word facts s plans old new status = PlansPlayed word facts s plans (λ entries ends. end_lines 0 ends) old new status

-- it stopped, or the schedule was replayed
abbrev pub ReplayRan : AllWords → Settings → Plans → Facts → Facts → LinkSeen → LinkSeen → Status → Type 0
ReplayRan word s plans before after old new status = Stopped ⊥ before after old new status ⊎ Replayed word before s plans old new status

-- it stopped, or the schedule of a file was replayed
abbrev pub ReplayWithRan : AllWords → Settings → List ℕ → Facts → Facts → LinkSeen → LinkSeen → Status → Type 0
ReplayWithRan word s schedule before after old new status =
    Stopped (NoSchedule before schedule (length s.shape.places)) before after old new status
    ⊎ ((plans : Plans) × SaysSchedule before schedule (length s.shape.places) plans × Replayed word before s plans old new status)

-- a file is refused: the settings, or the schedule for the number of their nodes
abbrev pub NoReplay : Facts → List ℕ → List ℕ → Type 0
NoReplay facts settings schedule =
    NoSettings facts settings ⊎ ((s : Settings) × SaysSettings facts settings s × NoSchedule facts schedule (length s.shape.places))

-- it stopped, or the schedule of a file was replayed with the settings of another
abbrev pub ReplayFilesRan : AllWords → List ℕ → List ℕ → Facts → Facts → LinkSeen → LinkSeen → Status → Type 0
ReplayFilesRan word settings schedule before after old new status =
    Stopped (NoReplay before settings schedule) before after old new status
    ⊎ ((s : Settings) × SaysSettings before settings s × (plans : Plans)
    × SaysSchedule before schedule (length s.shape.places) plans × Replayed word before s plans old new status)
