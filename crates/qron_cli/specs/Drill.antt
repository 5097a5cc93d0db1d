-- The drill: generated input that two connections send over a core of their own, and the summary that is printed of it.
use Rattle.std.specs.Prelude.{ℕ, ◌*◌, List, [], ◌∷◌, length, slice_get, Option, Some, None, ◌⊎◌}
use Rattle.network_model.specs.declared.Entry.{Entry}
use Rattle.session_model.specs.Turns.{Finish}
use Rattle.node_table.specs.declared.settings.Settings.{Settings}
use Rattle.node_table.specs.Plain.{plain_settings}
use Rattle.schedule.specs.Plans.{Plan, Plans}
use Rattle.cqc_model.specs.declared.Command.{Command}
use Rattle.cqc_client.specs.declared.printed.Summary.{Summary}
use Rattle.cqc_client.specs.Drill.{first_list, second_list, spell_commands, turns, in_rounds}
use Rattle.cqc_client.specs.Tally.{equal, ones, lines_of}
use Rattle.qron_cli.specs.House.{Facts}
use Rattle.qron_cli.specs.Pipe.{AllWords}
use Rattle.qron_cli.specs.Replay.{PlansPlayed}
use Rattle.cqc_server.specs.Watch.{LinkSeen}
use Rattle.qron_cli.specs.Stops.{Stopped}
use Rattle.qron_cli.specs.declared.status.Status.{Status}

-- plain settings of two nodes, with a journal of 7 entries a round
abbrev pub drill_settings : ℕ → Settings
drill_settings rounds = record (plain_settings 2) { journal = 7 * rounds }

-- a connection that sends these commands in each round, and has room for 59 bytes a round
abbrev pub drill_plan : ℕ → (ℕ → List Command) → ℕ → Plan
drill_plan node list rounds = record { node = node; room = 59 * rounds; bytes = in_rounds (λ round. spell_commands (list round)) rounds }

-- the two connections, and the order of their turns
abbrev pub drill_plans : ℕ → Plans
drill_plans rounds = record {
  plans = drill_plan 0 first_list rounds ∷ drill_plan 1 second_list rounds ∷ [];
  order = in_rounds turns rounds;
}

-- the bytes that were written to a connection that has ended
abbrev pub written_in : Option (Option Finish) → List ℕ
written_in None = []
written_in (Some None) = []
written_in (Some (Some f)) = f.written

-- what so many rounds came to, by the entries and by how the two connections ended
abbrev pub summary_of : ℕ → List Entry → List (Option Finish) → Summary
summary_of rounds entries ends = record {
  rounds = rounds;
  entries = length entries;
  tally = record { equal = equal entries; ones = ones entries };
  first_bytes = length (written_in (slice_get ends 0));
  second_bytes = length (written_in (slice_get ends 1));
}

-- the two connections took their turns from the empty history, with the words of a seed of zeros, and the summary was printed
abbrev pub Drilled : AllWords → ℕ → Facts → LinkSeen → LinkSeen → Status → Type 0
Drilled word rounds facts old new status =
    PlansPlayed word facts (drill_settings rounds) (drill_plans rounds) (λ entries ends. lines_of (summary_of rounds entries ends)) old new status

-- it stopped, or the drill was done
abbrev pub DrillRan : AllWords → ℕ → Facts → Facts → LinkSeen → LinkSeen → Status → Type 0
DrillRan word rounds before after old new status = Stopped ⊥ before after old new status ⊎ Drilled word rounds before old new status
