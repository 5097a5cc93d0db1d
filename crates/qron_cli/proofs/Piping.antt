-- A session over the program's core is one connection that takes turns alone.
use Rattle.std.proofs.Common.{◌≡◌, ◌≢◌, ℕ, ◌≤◌, List, [], length, Option, None, refl, sym, ap, subst, ◌∙◌, arith}
use Rattle.std.specs.Prelude.{nat_lt, ◌&&◌, if◌then◌else◌, Bool, true, false}
use Rattle.std.proofs.lemmas.List.{append-nil}
use Rattle.cqc_model.specs.Plan.{messages}
use Rattle.network_model.specs.Network.{Shape}
use Rattle.network_model.specs.History.{IsLegal}
use Rattle.network_model.specs.declared.Call.{Call}
use Rattle.network_model.specs.declared.Entry.{Entry}
use Rattle.session_model.specs.declared.Ending.{Ending}
use Rattle.session_model.specs.declared.Ending.TheVariants.{Clean, Cut, ReadFault, WriteFault, Full, Spent}
use Rattle.session_model.specs.Walk.{Said, walk}
use Rattle.session_model.specs.Speaks.{Speaks, EndsAs, due_list, replies_of}
use Rattle.session_model.specs.Turns.{Actor, own, said_by, fits_room, turn_call}
use Rattle.session_model.specs.Worded.{AreWorded}
use Rattle.session_model.proofs.TurnLaws.{full}
use Rattle.session_model.proofs.Spoken.{own_front, spoken_entries_are_turns}
use Rattle.cqc_session.specs.Session.{EndCause}
use Rattle.factored_core.specs.Core.{Journal}
use Rattle.cqc_session.specs.State.{State, begun}
use Rattle.cqc_session.specs.Serving.{Served, WordedAfter}
use Rattle.cqc_server.specs.Record.{read_limit}
use Rattle.qron_cli.specs.Pipe.{pipe_connection, pipe_setting, pipe_actor, PipeServed}
use Rattle.cqc_server.specs.Watch.{LinkSeen}

abbrev nobody : Option Call
nobody = None

module _ (shape : Shape) (capacity : ℕ) (words : ℕ → ℕ) (rest : Option (List ℕ)) (read written : List ℕ) (entries : List Entry) (ending : Ending)
    (few : length entries ≤ capacity) (speaks : Speaks (pipe_setting capacity rest entries) read entries written ending) where
  abbrev said : Said
  said = walk pipe_connection (messages read) (replies_of entries)

  abbrev actor : Actor
  actor = pipe_actor words read

  own_is : own actor entries ≡ entries
  own_is = own_front shape capacity actor entries refl few (due_list said.due) speaks.asked entries [] (append-nil entries)

  -- where nothing is due, the turn adds nothing
  idle : said.due ≡ None → turn_call capacity actor entries ≡ None
  idle none =
      ap (λ (o : Option Call). if nat_lt (length entries) capacity && fits_room None (said_by actor entries).text then o else None)
      (ap (λ (es : List Entry). (walk pipe_connection (messages read) (replies_of es)).due) own_is ∙ none)
      ∙ either (nat_lt (length entries) capacity && fits_room None (said_by actor entries).text)
    where
      either : (b : Bool) → (if b then nobody else nobody) ≡ None
      either true = refl
      either false = refl

  last_by : (e : Ending) → EndsAs (pipe_setting capacity rest entries) read entries said written e → e ≢ WriteFault → turn_call capacity actor entries ≡ None
  last_by Clean ends other = idle ends.0
  last_by (Cut have need) ends other = idle ends.0
  last_by ReadFault ends other = idle ends.0
  last_by (Spent bytes) ends other = idle ends.0
  last_by (Full count) ends other = full capacity actor entries (omega (arith, ends.1))
  last_by WriteFault ends other = absurd (other refl)

  last_turn : ending ≢ WriteFault → turn_call capacity actor entries ≡ None
  last_turn other = last_by ending speaks.ends other

-- what a session over the core did
served_pipe : (shape : Shape) (capacity : ℕ) (words : ℕ → ℕ) (old new : LinkSeen) (after : List Entry) (ending : Ending)
    → Served pipe_connection read_limit old.left new.left old.held new.held [] after (length after) capacity ending
    → EndCause ending old.read_faults new.read_faults old.write_faults new.write_faults
    → IsLegal shape after → AreWorded words after → length after ≤ capacity → PipeServed shape capacity words old new ending
served_pipe shape capacity words old new after ending s cause legal worded few =
    let speaks : Speaks (pipe_setting capacity new.left after) s.read after s.written ending =
    subst (λ (es : List Entry). Speaks (pipe_setting capacity new.left after) s.read es s.written ending) (sym s.added) s.speaks in
    record {
      read = s.read;
      written = s.written;
      entries = after;
      was_read = s.took;
      few = s.few;
      was_written = s.gave;
      cause = cause;
      speaks = speaks;
      turns = spoken_entries_are_turns shape capacity (pipe_actor words s.read) after _ refl few speaks.asked legal worded;
      last = last_turn shape capacity words new.left s.read s.written after ending few speaks;
      legal = legal;
      worded = worded;
    }

-- entries with the next words, behind none
worded_alone : (words : ℕ → ℕ) (after : List Entry) (taken : ℕ) → WordedAfter words [] after taken → AreWorded words after
worded_alone words after taken w = subst (AreWorded words) (sym w.added) w.worded

-- the same of the journal that it began with, and of the session
pub journal_served : (f : ℕ → ℕ → ℕ → ℕ) (old new : LinkSeen) (before after : Journal) (s : State) (ending : Ending) (taken : ℕ)
    → before.entries ≡ [] → s ≡ begun pipe_connection read_limit
    → Served s.connection s.cap old.left new.left old.held new.held before.entries after.entries (length after.entries) before.capacity ending
    → EndCause ending old.read_faults new.read_faults old.write_faults new.write_faults
    → WordedAfter (λ k. f s.connection.seat s.connection.serial k) before.entries after.entries taken
    → after ≡ record before { entries = after.entries } → IsLegal after.shape after.entries → length after.entries ≤ after.capacity
    → PipeServed before.shape before.capacity (λ k. f 0 0 k) old new ending
journal_served f old new before after s ending taken empty fresh served cause worded stays legal few =
    let by_session = subst (λ (t : State). Served t.connection t.cap old.left new.left old.held new.held before.entries after.entries (length after.entries) before.capacity ending) fresh served in
    let by_journal = subst (λ (es : List Entry). Served pipe_connection read_limit old.left new.left old.held new.held es after.entries (length after.entries) before.capacity ending) empty by_session in
    let words_by_session = subst (λ (t : State). WordedAfter (λ k. f t.connection.seat t.connection.serial k) before.entries after.entries taken) fresh worded in
    let words_by_journal = subst (λ (es : List Entry). WordedAfter (λ k. f 0 0 k) es after.entries taken) empty words_by_session in
    served_pipe before.shape before.capacity (λ k. f 0 0 k) old new after.entries ending by_journal cause
    (subst (λ (x : Shape). IsLegal x after.entries) (ap Journal.shape stays) legal)
    (worded_alone (λ k. f 0 0 k) after.entries taken words_by_journal)
    (subst (λ n. length after.entries ≤ n) (ap Journal.capacity stays) few)
