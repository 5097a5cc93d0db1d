-- Connections of a schedule that take turns over a core of their own.
use Rattle.std.specs.Prelude.{ℕ, suc, ◌<◌, ◌≤◌, List, [], ◌∷◌, length, map, Option, Some, None}
use Rattle.std.specs.List.{All}
use Rattle.session_model.specs.declared.Ending.{Ending}
use Rattle.session_model.specs.Walk.{Connection}
use Rattle.session_model.specs.Turns.{Actor, Finish, actor_end}
use Rattle.network_model.specs.declared.Entry.{Entry}
use Rattle.schedule.specs.Plans.{Plan}
use Rattle.schedule.specs.declared.plans.Schedule.{Schedule}
use Rattle.qron_link.specs.MemLinks.{Memory, new_memory}
use Rattle.cqc_session.specs.State.{State, begun}
use Rattle.cqc_server.specs.Record.{read_limit}
use Rattle.qron_cli.specs.Pipe.{AllWords}

-- the first connection of a seat, at the plan's node
abbrev pub connection_at : ℕ → Plan → Connection
connection_at seat p = record { seat = seat; serial = 0; node = p.node }

-- a plan's connection in the definition of turns: its words are those of its seat under a key, the bytes are its
-- input, and its sink has that room
abbrev pub planned : AllWords → List ℕ → ℕ → Plan → Actor
planned word key seat p = record { connection = connection_at seat p; words = λ k. word key seat 0 k; input = p.bytes; room = Some p.room }

-- the connections of plans, from this seat on
abbrev pub all_planned : AllWords → List ℕ → ℕ → List Plan → List Actor
all_planned word key seat [] = []
all_planned word key seat (p ∷ plans) = planned word key seat p ∷ all_planned word key (suc seat) plans

-- what is known of a connection that has taken no turn: its session, its link, the key of its dice, and that it goes on
pub record Seat : Type 0 where
  pub session : State
  pub link : Memory
  pub key : List ℕ
  pub ending : Option Ending

-- the most bytes that a read of a link hands out
abbrev pub piece : ℕ
piece = 65_536

-- a plan's connection before its first turn
abbrev pub seated : List ℕ → ℕ → Plan → Seat
seated key seat p = record { session = begun (connection_at seat p) read_limit; link = new_memory p.bytes piece p.room [] []; key = key; ending = None }

-- those of plans, from this seat on
abbrev pub all_seated : List ℕ → ℕ → List Plan → List Seat
all_seated key seat [] = []
all_seated key seat (p ∷ plans) = seated key seat p ∷ all_seated key (suc seat) plans

-- how the connections ended over a history
abbrev pub ends_of : ℕ → List Entry → List Actor → List (Option Finish)
ends_of capacity history actors = map (λ a. Some (actor_end capacity history a)) actors

-- the schedule can be done in a network of so many nodes: it has at most 64 connections, each at one of them, and
-- each turn is one's
pub record CanPlay (nodes : ℕ) (s : Schedule) : Type 0 where
  pub few : length s.plans.items ≤ 64
  pub places : All (λ p. p.node < nodes) s.plans.items
  pub order : All (λ k. k < length s.plans.items) s.order.items
