-- How far actors have come, and what one of them does in its turns.
use Rattle.std.specs.Prelude.{◌≡◌, ℕ, suc, ◌+◌, ◌<◌, ◌≤◌, List, [], ◌∷◌, ◌++◌, length, map, Option, None, Some, IfSome, All}
use Rattle.network_model.specs.Network.{Shape}
use Rattle.network_model.specs.declared.Entry.{Entry}
use Rattle.cqc_model.specs.Plan.{messages}
use Rattle.session_model.specs.declared.Ending.{Ending}
use Rattle.session_model.specs.Walk.{between, Leads, walk}
use Rattle.session_model.specs.Speaks.{Speaks, Prefix, calls_of, replies_of, but_last}
use Rattle.session_model.specs.Turns.{Actor, AreTurns, turn_call, own, words_taken}
use Rattle.session_model.specs.Worded.{AreWorded}
use Rattle.qron_link.specs.Outside.{WasRead, WasWritten, RoomTaken}
use Rattle.cqc_session.specs.Session.{EndCause}
use Rattle.cqc_session.specs.declared.stage.Stage.TheVariants.{Ready}
use Rattle.cqc_server.specs.Replay.{Act, Seen, place_of, words_of, entries_of, actor_of, setting_of, IsCallAt, IsOfOne}

-- an actor goes on: what it wrote is what is said for the bytes that it read, and its session stands behind that
pub record IsGoing (own : List Entry) (a : Act) : Type 0 where
  pub stage : a.after.session.stage ≡ Ready
  pub paid : a.after.session.budget + length a.read ≡ a.before.session.cap
  pub leads : Leads (place_of a) between a.read (calls_of own) (replies_of own) a.written a.after.session.work
  pub last : 0 < length own → (later : List ℕ) → Prefix (walk (place_of a) (messages (a.read ++ later)) (replies_of (but_last own))).text a.written

-- an actor has ended: over each history that goes on without it, it has spoken, and its turn adds nothing
pub record IsOver (word : List ℕ → ℕ → ℕ → ℕ → ℕ) (capacity entries : ℕ) (own : List Entry) (a : Act) (ending : Ending) : Type 0 where
  pub speaks : (n : ℕ) → entries ≤ n → n ≤ capacity → Speaks (setting_of capacity n a) a.read own a.written ending
  pub idle : (history : List Entry) → entries_of a history ≡ own → entries ≤ length history → turn_call capacity (actor_of word a) history ≡ None
  pub cause : EndCause ending a.before.read_faults a.after.read_faults a.before.write_faults a.after.write_faults

-- an actor goes on or has ended
abbrev pub Stands : (List ℕ → ℕ → ℕ → ℕ → ℕ) → ℕ → ℕ → List Entry → Act → Option Ending → Type 0
Stands word capacity entries own a None = IsGoing own a
Stands word capacity entries own a (Some ending) = IsOver word capacity entries own a ending

-- how far an actor has come, with these entries of its own in a history of so many
pub record IsActing (word : List ℕ → ℕ → ℕ → ℕ → ℕ) (capacity entries : ℕ) (own : List Entry) (a : Act) : Type 0 where
  pub connection : a.after.session.connection ≡ place_of a
  pub cap : a.after.session.cap ≡ a.before.session.cap
  pub read : WasRead a.before.left a.read a.after.left
  pub written : WasWritten a.before.held a.written a.after.held
  pub room : RoomTaken a.before.room (length a.written) a.after.room
  pub dice : a.after.dice ≡ record { key = a.before.dice.key; seat = (place_of a).seat; serial = (place_of a).serial; taken = words_taken own }
  pub worded : AreWorded (words_of word a) own
  pub reads : a.before.read_faults ≤ a.after.read_faults
  pub writes : a.before.write_faults ≤ a.after.write_faults
  pub stands : Stands word capacity entries own a a.after.ending

-- an actor of the definition of turns of which this is the beginning
pub record IsAhead (word : List ℕ → ℕ → ℕ → ℕ → ℕ) (a : Act) (m : Actor) : Type 0 where
  pub connection : m.connection ≡ place_of a
  pub words : m.words ≡ words_of word a
  pub later : List ℕ
  pub input : m.input ≡ a.read ++ later
  pub room : IfSome m.room (λ r. length a.written ≤ r)

-- the actors of the definition of turns that this can be: one where it has ended
abbrev pub Fits : (List ℕ → ℕ → ℕ → ℕ → ℕ) → Act → Option Ending → Actor → Type 0
Fits word a None m = IsAhead word a m
Fits word a (Some ending) m = m ≡ actor_of word a

-- An actor took turns: they add entries of its own, and are the turns of each actor of the definition that it can
-- be afterwards, which it could be before.
pub record TookTurns (word : List ℕ → ℕ → ℕ → ℕ → ℕ) (shape : Shape) (capacity : ℕ) (takers : Actor → List Actor) (old new : List Entry) (a : Act) (now : Seen) : Type 0 where
  pub act : Act
  pub same : act.before ≡ a.before
  pub now_is : act.after ≡ now
  pub acting : IsActing word capacity (length new) (entries_of act new) act
  pub turns : (m : Actor) → Fits word act act.after.ending m → Fits word a a.after.ending m × AreTurns shape capacity (takers m) old new
  pub added : List Entry
  pub grown : new ≡ old ++ added
  pub ours : All (λ e. IsCallAt (place_of a) e.call) added

-- what is said of an actor after it took turns, whatever it did before
abbrev pub TakesTurns : (List ℕ → ℕ → ℕ → ℕ → ℕ) → Shape → ℕ → (Actor → List Actor) → List Entry → List Entry → Seen → Seen → Type 0
TakesTurns word shape capacity takers old new before now = (a : Act) → a.after ≡ before
    → IsActing word capacity (length old) (entries_of a old) a → TookTurns word shape capacity takers old new a now

-- an actor has come to this by turns
pub record HasActed (word : List ℕ → ℕ → ℕ → ℕ → ℕ) (capacity : ℕ) (history : List Entry) (now : Seen) : Type 0 where
  pub act : Act
  pub now_is : act.after ≡ now
  pub acting : IsActing word capacity (length history) (entries_of act history) act

-- an actor's place is its seat, and its node is of the network
pub record IsSeated (shape : Shape) (seat : ℕ) (a : Act) : Type 0 where
  pub seat_is : (place_of a).seat ≡ seat
  pub node : (place_of a).node < length shape.places

-- actors have come to this by turns, with seats from this on
abbrev pub AreActing : (List ℕ → ℕ → ℕ → ℕ → ℕ) → Shape → ℕ → List Entry → ℕ → List Act → Type 0
AreActing word shape capacity history seat [] = Unit {0}
AreActing word shape capacity history seat (a ∷ acts) =
    IsSeated shape seat a × IsActing word capacity (length history) (entries_of a history) a × AreActing word shape capacity history (suc seat) acts

-- the actors of the definition of turns that these can be
abbrev pub AllFit : (List ℕ → ℕ → ℕ → ℕ → ℕ) → List Act → List Actor → Type 0
AllFit word [] [] = Unit {0}
AllFit word (a ∷ acts) (m ∷ ms) = Fits word a a.after.ending m × AllFit word acts ms
AllFit word _ _ = ⊥

-- Actors took turns: they add entries of their own, and are the turns of all actors of the definition that they
-- can be afterwards, which they could be before.
pub record AllTookTurns (word : List ℕ → ℕ → ℕ → ℕ → ℕ) (shape : Shape) (capacity : ℕ) (takers : List Actor → List Actor) (old new : List Entry) (acts : List Act) (now : List Seen) : Type 0 where
  pub next : List Act
  pub same : map (λ (a : Act). a.before) next ≡ map (λ (a : Act). a.before) acts
  pub now_is : map (λ (a : Act). a.after) next ≡ now
  pub acting : AreActing word shape capacity new 0 next
  pub turns : (ms : List Actor) → AllFit word next ms → AllFit word acts ms × AreTurns shape capacity (takers ms) old new
  pub added : List Entry
  pub grown : new ≡ old ++ added
  pub ours : All (IsOfOne (map place_of acts)) added

-- what is said of actors after they took turns, whatever they did before
abbrev pub AllTakeTurns : (List ℕ → ℕ → ℕ → ℕ → ℕ) → Shape → ℕ → (List Actor → List Actor) → List Entry → List Entry → List Seen → List Seen → Type 0
AllTakeTurns word shape capacity takers old new before now = (acts : List Act) → map (λ (a : Act). a.after) acts ≡ before
    → AreActing word shape capacity old 0 acts → AllTookTurns word shape capacity takers old new acts now

-- actors have come to this by turns
pub record AllHaveActed (word : List ℕ → ℕ → ℕ → ℕ → ℕ) (shape : Shape) (capacity : ℕ) (history : List Entry) (now : List Seen) : Type 0 where
  pub acts : List Act
  pub now_is : map (λ (a : Act). a.after) acts ≡ now
  pub acting : AreActing word shape capacity history 0 acts
