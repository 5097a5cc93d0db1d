-- The actor of the definition of turns that an actor turns out to be: what it did so far is a beginning of that.
use Rattle.std.proofs.Common.{◌≡◌, ℕ, zero, suc, ◌+◌, ◌<◌, ◌≤◌, List, [], ◌++◌, length, Option, None, Some, unwrap_or, refl, sym, ap, subst, ◌∙◌, arith, length-append, append_assoc}
use Rattle.std.specs.Prelude.{IfSome}
use Rattle.std.proofs.lemmas.List.{append-nil}
use Rattle.network_model.specs.declared.Entry.{Entry}
use Rattle.cqc_model.specs.Plan.{messages, rest}
use Rattle.session_model.specs.declared.Ending.{Ending}
use Rattle.session_model.specs.declared.Ending.TheVariants.{Clean, Cut, ReadFault, WriteFault, Full, Spent}
use Rattle.session_model.specs.Walk.{Said, walk}
use Rattle.session_model.specs.Speaks.{EndsAs, Ended, replies_of}
use Rattle.session_model.specs.Turns.{Actor, said_by, turn_call}
use Rattle.session_model.proofs.TurnLaws.{full}
use Rattle.qron_link.specs.Outside.{WasRead, RoomTaken}
use Rattle.cqc_server.specs.Replay.{Act, place_of, entries_of, actor_of, setting_of, input_by, room_by}
use Rattle.cqc_server.specs.Progress.{IsAhead}
use Rattle.cqc_server.proofs.Idling.{idle_by_due, idle_by_room}

-- ---- the input begins with what was read
all_left : (left rest : Option (List ℕ)) (read : List ℕ) → WasRead left read rest → (later : List ℕ) × (unwrap_or left read ≡ read ++ later)
all_left left None read was = ([], ap (λ (o : Option (List ℕ)). unwrap_or o read) was ∙ sym (append-nil read))
all_left left (Some more) read was = (more, ap (λ (o : Option (List ℕ)). unwrap_or o read) was)

pub input_ahead : (o : Option Ending) (left rest : Option (List ℕ)) (read : List ℕ) → WasRead left read rest → (later : List ℕ) × (input_by o left read ≡ read ++ later)
input_ahead None left rest read was = all_left left rest read was
input_ahead (Some Clean) left rest read was = all_left left rest read was
input_ahead (Some (Cut have need)) left rest read was = all_left left rest read was
input_ahead (Some ReadFault) left rest read was = ([], sym (append-nil read))
input_ahead (Some WriteFault) left rest read was = all_left left rest read was
input_ahead (Some (Full entries)) left rest read was = all_left left rest read was
input_ahead (Some (Spent bytes)) left rest read was = ([], sym (append-nil read))

-- where the source ended, all of it was read
all_read : (left rest : Option (List ℕ)) (read : List ℕ) → WasRead left read rest → Ended rest → unwrap_or left read ≡ read
all_read left None read was end = ap (λ (o : Option (List ℕ)). unwrap_or o read) was
all_read left (Some more) read was end = ap (λ (o : Option (List ℕ)). unwrap_or o read) was ∙ ap (λ x. read ++ x) end ∙ append-nil read

-- ---- what was written fits the room
told_room : (before now : Option ℕ) (n : ℕ) → RoomTaken before n now → IfSome before (λ r. n ≤ r)
told_room None None n h = tt
told_room None (Some now) n h = tt
told_room (Some before) None n h = absurd h
told_room (Some before) (Some now) n h = omega (arith, h)

-- where a write failed, the room is what was written: it is all of the room that was told, or it is so by definition
pub failed_room : (before now : Option ℕ) (written : List ℕ) → RoomTaken before (length written) now → room_by (Some WriteFault) before now written ≡ Some (length written)
failed_room before None written h = refl
failed_room before (Some (suc now)) written h = refl
failed_room None (Some zero) written h = absurd h
failed_room (Some before) (Some zero) written h = ap Some (used before (length written) h)
  where
    used : (b n : ℕ) → 0 + n ≡ b → b ≡ n
    used b n e = omega (arith, e)

room_ahead : (o : Option Ending) (before now : Option ℕ) (written : List ℕ) → RoomTaken before (length written) now → IfSome (room_by o before now written) (λ r. length written ≤ r)
room_ahead None before now written h = told_room before now (length written) h
room_ahead (Some Clean) before now written h = told_room before now (length written) h
room_ahead (Some (Cut have need)) before now written h = told_room before now (length written) h
room_ahead (Some ReadFault) before now written h = told_room before now (length written) h
room_ahead (Some WriteFault) before now written h =
    subst (λ (o : Option ℕ). IfSome o (λ r. length written ≤ r)) (sym (failed_room before now written h)) (same (length written))
  where
    same : (n : ℕ) → n ≤ n
    same n = omega arith
room_ahead (Some (Full entries)) before now written h = told_room before now (length written) h
room_ahead (Some (Spent bytes)) before now written h = told_room before now (length written) h

-- ---- what was done is a beginning
pub ahead_of_all : (word : List ℕ → ℕ → ℕ → ℕ → ℕ) (a : Act) → WasRead a.before.left a.read a.after.left → RoomTaken a.before.room (length a.written) a.after.room
    → IsAhead word a (actor_of word a)
ahead_of_all word a read room =
    let input = input_ahead a.after.ending a.before.left a.after.left a.read read in
    record { connection = refl; words = refl; later = input.0; input = input.1; room = room_ahead a.after.ending a.before.room a.after.room a.written room }

pub fits_less : (room : Option ℕ) (m n : ℕ) → m ≤ n → IfSome room (λ r. n ≤ r) → IfSome room (λ r. m ≤ r)
fits_less None m n h f = tt
fits_less (Some r) m n h f = omega (arith, h, f)

-- what came before it too
pub ahead_before : (word : List ℕ → ℕ → ℕ → ℕ → ℕ) (a b : Act) (r w : List ℕ) (m : Actor) → b.before ≡ a.before → b.read ≡ a.read ++ r → b.written ≡ a.written ++ w
    → IsAhead word b m → IsAhead word a m
ahead_before word a b r w m same read written h = record {
  connection = h.connection ∙ ap (λ s. s.session.connection) same;
  words = h.words ∙ ap (λ s k. word s.dice.key s.session.connection.seat s.session.connection.serial k) same;
  later = r ++ h.later;
  input = h.input ∙ ap (λ x. x ++ h.later) read ∙ append_assoc a.read r h.later;
  room = fits_less m.room (length a.written) (length b.written) (omega (arith, ap length written, length-append a.written w)) h.room;
}

-- ---- after its end an actor is idle
module _ (word : List ℕ → ℕ → ℕ → ℕ → ℕ) (capacity : ℕ) (a : Act) (own h : List Entry) (mine : entries_of a h ≡ own) where
  -- what is said for what was read, where that is the input
  said_read : input_by a.after.ending a.before.left a.read ≡ a.read → said_by (actor_of word a) h ≡ walk (place_of a) (messages a.read) (replies_of own)
  said_read is =
      ap (λ (b : List ℕ). walk (place_of a) (messages b) (replies_of (entries_of a h))) is
      ∙ ap (λ (es : List Entry). walk (place_of a) (messages a.read) (replies_of es)) mine

  nothing_due : (o : Option Ending) → a.after.ending ≡ o → input_by o a.before.left a.read ≡ a.read → (walk (place_of a) (messages a.read) (replies_of own)).due ≡ None
      → turn_call capacity (actor_of word a) h ≡ None
  nothing_due o e is none =
      idle_by_due capacity (actor_of word a) h
      (ap (λ (s : Said). s.due) (said_read (ap (λ (x : Option Ending). input_by x a.before.left a.read) e ∙ is)) ∙ none)

  -- it has read all, or as much as it could, and nothing is due
  pub idle_paused : (ending : Ending) (n : ℕ) (out : List ℕ) → a.after.ending ≡ Some ending → WasRead a.before.left a.read a.after.left
      → EndsAs (setting_of capacity n a) a.read own (walk (place_of a) (messages a.read) (replies_of own)) out ending
      → n ≤ length h → (ending ≡ WriteFault → ⊥) → turn_call capacity (actor_of word a) h ≡ None
  idle_paused Clean n out e read ends few other = nothing_due (Some Clean) e (all_read _ _ a.read read ends.2) ends.0
  idle_paused (Cut have need) n out e read ends few other = nothing_due (Some (Cut have need)) e (all_read _ _ a.read read ends.2) ends.0
  idle_paused ReadFault n out e read ends few other = nothing_due (Some ReadFault) e refl ends.0
  idle_paused (Spent bytes) n out e read ends few other = nothing_due (Some (Spent bytes)) e refl ends.0
  idle_paused (Full entries) n out e read ends few other = full capacity (actor_of word a) h (omega (arith, ends.1, few))
  idle_paused WriteFault n out e read ends few other = absurd (other refl)

  -- a reply was not written whole: what is said is longer than the room, whatever follows what was read
  pub idle_broken : a.after.ending ≡ Some WriteFault → WasRead a.before.left a.read a.after.left → RoomTaken a.before.room (length a.written) a.after.room
      → ((later : List ℕ) → length a.written < length (walk (place_of a) (messages (a.read ++ later)) (replies_of own)).text)
      → turn_call capacity (actor_of word a) h ≡ None
  idle_broken e read room long =
      let input = input_ahead a.after.ending a.before.left a.after.left a.read read in
      let said : said_by (actor_of word a) h ≡ walk (place_of a) (messages (a.read ++ input.0)) (replies_of own) =
      ap (λ (b : List ℕ). walk (place_of a) (messages b) (replies_of (entries_of a h))) input.1
      ∙ ap (λ (es : List Entry). walk (place_of a) (messages (a.read ++ input.0)) (replies_of es)) mine in
      idle_by_room capacity (actor_of word a) h (length a.written)
      (ap (λ (o : Option Ending). room_by o a.before.room a.after.room a.written) e ∙ failed_room a.before.room a.after.room a.written room)
      (subst (λ (s : Said). length a.written < length s.text) (sym said) (long input.0))
