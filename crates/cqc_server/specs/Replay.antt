-- What actors do that take turns over one core, each to its end.
use Rattle.std.specs.Prelude.{◌≡◌, ℕ, suc, ◌<◌, List, [], ◌∷◌, ◌++◌, length, map, slice_get, Option, None, Some, unwrap_or, All, IsSomeAnd}
use Rattle.network_model.specs.Network.{Shape}
use Rattle.network_model.specs.History.{own_entries}
use Rattle.network_model.specs.declared.Call.{Call}
use Rattle.network_model.specs.declared.Entry.{Entry}
use Rattle.session_model.specs.declared.Ending.{Ending}
use Rattle.session_model.specs.declared.Ending.TheVariants.{ReadFault, WriteFault, Spent}
use Rattle.session_model.specs.Walk.{Connection, call_of}
use Rattle.session_model.specs.Speaks.{Setting, Speaks}
use Rattle.session_model.specs.Turns.{Actor, AreTurns, takers_of}
use Rattle.session_model.specs.Worded.{AreWorded}
use Rattle.qron_link.specs.Outside.{WasRead, WasWritten, RoomTaken}
use Rattle.qron_link.specs.Dices.{Drawn}
use Rattle.cqc_session.specs.Session.{EndCause}
use Rattle.cqc_session.specs.State.{State, begun}

-- What contracts see of an actor: its session; what its link has left, holds and has room for, where it tells
-- that; how often its reads and writes failed; where its dice stand; and how it ended.
pub record Seen : Type 0 where
  pub session : State
  pub left : Option (List ℕ)
  pub held : Option (List ℕ)
  pub room : Option ℕ
  pub read_faults : ℕ
  pub write_faults : ℕ
  pub dice : Drawn
  pub ending : Option Ending

-- its dice stand at the first word of its connection
abbrev pub dice_begun : Seen → Seen
dice_begun s = record s { dice = record { key = s.dice.key; seat = s.session.connection.seat; serial = 0; taken = 0 } }

-- a session has just begun its first connection, with this seat, at a node of the network
pub record HasBegun (seat nodes : ℕ) (s : State) : Type 0 where
  pub connection : Connection
  pub seat_is : connection.seat ≡ seat
  pub serial_is : connection.serial ≡ 0
  pub node : connection.node < nodes
  pub is : s ≡ begun connection s.cap

-- what an actor did: how it was before and after, and the bytes that it read and wrote
pub record Act : Type 0 where
  pub before : Seen
  pub after : Seen
  pub read : List ℕ
  pub written : List ℕ

-- the connection of an act
abbrev pub place_of : Act → Connection
place_of a = a.before.session.connection

-- the words of its dice
abbrev pub words_of : (List ℕ → ℕ → ℕ → ℕ → ℕ) → Act → ℕ → ℕ
words_of word a k = word a.before.dice.key (place_of a).seat (place_of a).serial k

-- its entries of a history
abbrev pub entries_of : Act → List Entry → List Entry
entries_of a history = own_entries (place_of a).seat (place_of a).serial history

-- its input: what its link had left, where that is told; what it read, where the source failed or the cap was reached
abbrev pub input_by : Option Ending → Option (List ℕ) → List ℕ → List ℕ
input_by (Some ReadFault) left read = read
input_by (Some (Spent bytes)) left read = read
input_by ending left read = unwrap_or left read

-- the room of its sink: what its link told; where a write failed though there was room, or none was told, what it wrote
abbrev pub room_by : Option Ending → Option ℕ → Option ℕ → List ℕ → Option ℕ
room_by (Some WriteFault) before None written = Some (length written)
room_by (Some WriteFault) before (Some (suc now)) written = Some (length written)
room_by ending before now written = before

-- the actor of the definition of turns that did this
abbrev pub actor_of : (List ℕ → ℕ → ℕ → ℕ → ℕ) → Act → Actor
actor_of word a = record {
  connection = place_of a;
  words = words_of word a;
  input = input_by a.after.ending a.before.left a.read;
  room = room_by a.after.ending a.before.room a.after.room a.written;
}

-- where its session is: what its link has left, and a history of so many entries, of which there may be capacity
abbrev pub setting_of : ℕ → ℕ → Act → Setting
setting_of capacity entries a = record { connection = place_of a; cap = a.before.session.cap; left = a.after.left; entries = entries; capacity = capacity }

-- An actor came to its end over a history: bytes, entries and ending are those of a connection that speaks, its
-- entries have the words of its dice, and a fault is its ending only where that count of faults rose.
pub record CameToEnd (word : List ℕ → ℕ → ℕ → ℕ → ℕ) (capacity : ℕ) (history : List Entry) (a : Act) : Type 0 where
  pub ending : Ending
  pub ended : a.after.ending ≡ Some ending
  pub read : WasRead a.before.left a.read a.after.left
  pub written : WasWritten a.before.held a.written a.after.held
  pub room : RoomTaken a.before.room (length a.written) a.after.room
  pub speaks : Speaks (setting_of capacity (length history) a) a.read (entries_of a history) a.written ending
  pub worded : AreWorded (words_of word a) (entries_of a history)
  pub cause : EndCause ending a.before.read_faults a.after.read_faults a.before.write_faults a.after.write_faults
  pub key : a.after.dice.key ≡ a.before.dice.key

-- a call is of a connection
abbrev pub IsCallAt : Connection → Call → Type 0
IsCallAt p c = c ≡ call_of p c.app c.command

-- an entry is of the connection at its seat
abbrev pub IsOfOne : List Connection → Entry → Type 0
IsOfOne places e = IsSomeAnd (slice_get places e.call.seat) (λ p. IsCallAt p e.call)

-- Actors took turns in this order and then went on to their ends: each entry that was added is of one of them, and
-- the entries are the turns of the definition.
pub record Replayed (word : List ℕ → ℕ → ℕ → ℕ → ℕ) (shape : Shape) (capacity : ℕ) (order : List ℕ) (old new : List Entry) (before after : List Seen) : Type 0 where
  pub acts : List Act
  pub before_is : before ≡ map (λ (a : Act). a.before) acts
  pub after_is : after ≡ map (λ (a : Act). a.after) acts
  pub ends : All (CameToEnd word capacity new) acts
  pub added : List Entry
  pub grown : new ≡ old ++ added
  pub ours : All (IsOfOne (map place_of acts)) added
  pub turns : AreTurns shape capacity (takers_of capacity (map (actor_of word) acts) order) old new

-- links were led to, each from the one at its place
abbrev pub AreLed : {L : Type 0} → (L → L → Type 0) → List L → List L → Type 0
AreLed led [] [] = Unit {0}
AreLed led (x ∷ xs) (y ∷ ys) = led x y × AreLed led xs ys
AreLed led _ _ = ⊥
