-- Actors over links in memory that list no faults: how each ended, and which actor of the definition of turns it is.
use Rattle.std.specs.Prelude.{◌≡◌, ℕ, ◌<◌, List, [], length, Option, None, Some, option_map, unwrap_or}
use Rattle.network_model.specs.declared.Entry.{Entry}
use Rattle.session_model.specs.declared.Ending.{Ending}
use Rattle.session_model.specs.Turns.{Actor, Finish}
use Rattle.qron_link.specs.MemLinks.{Memory}
use Rattle.cqc_server.specs.Replay.{Seen}

-- a link that was not used yet and lists no faults, with fewer bytes than a session may read
pub record IsUnused (cap : ℕ) (link : Memory) : Type 0 where
  pub held : link.held ≡ []
  pub bad_reads : link.bad_reads ≡ []
  pub bad_writes : link.bad_writes ≡ []
  pub read_faults : link.read_faults ≡ 0
  pub write_faults : link.write_faults ≡ 0
  pub few : length link.left < cap

-- the actor of the definition of turns: the bytes of its link are its input, and the room of its link bounds its sink
abbrev pub planned_actor : (List ℕ → ℕ → ℕ → ℕ → ℕ) → Seen → Actor
planned_actor word s = record {
  connection = s.session.connection;
  words = λ k. word s.dice.key s.session.connection.seat s.session.connection.serial k;
  input = unwrap_or s.left [];
  room = s.room;
}

-- how an actor ended, if it did, and the bytes that its link holds
abbrev pub shown_end : Seen → Option Finish
shown_end s = option_map (λ (e : Ending). record { ending = e; written = unwrap_or s.held [] }) s.ending
