-- One turn of one actor: what it read, wrote and added, and how far it has come by that.
use Rattle.std.proofs.Common.{◌≡◌, ℕ, ◌+◌, ◌<◌, ◌≤◌, List, [], ◌∷◌, ◌++◌, length, true, Option, None, Some, Err, refl, sym, ap, subst, ◌∙◌, arith, length-append, append_assoc}
use Rattle.std.specs.Prelude.{IfSome, if◌then◌else◌}
use Rattle.std.proofs.lemmas.Bool.Decides.{nat_tests}
use Rattle.std.proofs.lemmas.List.{append-nil}
use Rattle.std.proofs.lemmas.List.Elements.{All-nil, All-cons}
use Rattle.cqc_model.specs.Plan.{messages}
use Rattle.network_model.specs.Network.{Shape}
use Rattle.network_model.specs.Step.{draws}
use Rattle.network_model.specs.History.{IsLegal, after, own_entries}
use Rattle.network_model.specs.declared.Call.{Call}
use Rattle.network_model.specs.declared.CoreReply.{CoreReply}
use Rattle.network_model.specs.declared.Entry.{Entry}
use Rattle.network_model.specs.declared.JournalFull.{JournalFull}
use Rattle.network_model.proofs.Histories.{legal-split}
use Rattle.session_model.specs.declared.Ending.{Ending}
use Rattle.session_model.specs.declared.Ending.TheVariants.{Clean, Cut, ReadFault, WriteFault, Full, Spent}
use Rattle.session_model.specs.Walk.{Connection, Said, between, call_of, spell_core, walk, Leads}
use Rattle.session_model.specs.Speaks.{Speaks, Prefix, ProperPrefix, calls_of, replies_of, but_last}
use Rattle.session_model.specs.Turns.{Actor, own, said_by, fits_room, words_taken, next_word, IsTurn, AreTurns}
use Rattle.session_model.specs.Worded.{AreWorded}
use Rattle.session_model.proofs.Leading.{work_after}
use Rattle.session_model.proofs.Speaking.{but_last_push, calls_push, replies_push, leads_more, leads_asked, due_text, broken_speaks, asked_step, asks, general, prefix_more, proper_behind, said_longer, full_speaks, full_broken_speaks}
use Rattle.session_model.proofs.Spoken.{word_is}
use Rattle.session_model.proofs.Wording.{worded_push}
use Rattle.session_model.proofs.TurnLaws.{full}
use Rattle.qron_link.specs.Outside.{Rose, WasRead, WasWritten, RoomTaken}
use Rattle.qron_link.specs.Dices.{Drawn}
use Rattle.qron_link.proofs.Known.{read_on, written_on}
use Rattle.cqc_session.specs.State.{State, Waits}
use Rattle.cqc_session.specs.Session.{Spoke, Paused, Broken, Halted, PartSaid, Resumes, AnswerEnds, EndCause}
use Rattle.cqc_session.specs.declared.stage.Stage.TheVariants.{Ready}
use Rattle.cqc_session.proofs.Serves.{paused_speaks}
use Rattle.cqc_server.specs.Replay.{Act, Seen, place_of, words_of, entries_of, actor_of, setting_of, IsCallAt}
use Rattle.cqc_server.specs.Progress.{IsGoing, IsOver, Stands, IsActing, IsAhead, Fits, TookTurns}
use Rattle.cqc_server.proofs.Histories.{own_push}
use Rattle.cqc_server.proofs.Idling.{adds_by, idle_turn}
use Rattle.cqc_server.proofs.Aheads.{ahead_of_all, ahead_before, fits_less, idle_paused, idle_broken}

-- an actor that read and wrote so much more
abbrev pub further : Act → Seen → List ℕ → List ℕ → Act
further a now r w = record { before = a.before; after = now; read = a.read ++ r; written = a.written ++ w }

-- what a turn leaves and moves
pub record IsMoved (before now : Seen) (r w : List ℕ) : Type 0 where
  pub connection : now.session.connection ≡ before.session.connection
  pub cap : now.session.cap ≡ before.session.cap
  pub read : WasRead before.left r now.left
  pub written : WasWritten before.held w now.held
  pub room : RoomTaken before.room (length w) now.room
  pub reads : before.read_faults ≤ now.read_faults
  pub writes : before.write_faults ≤ now.write_faults

room_on : (a b c : Option ℕ) (m n k : ℕ) → k ≡ m + n → RoomTaken a m b → RoomTaken b n c → RoomTaken a k c
room_on None None None m n k e f g = tt
room_on None None (Some z) m n k e f g = absurd g
room_on None (Some y) c m n k e f g = absurd f
room_on (Some x) None c m n k e f g = absurd f
room_on (Some x) (Some y) None m n k e f g = absurd g
room_on (Some x) (Some y) (Some z) m n k e f g = omega (arith, e, f, g)

-- the dice of an actor that made these entries
abbrev pub drawn_by : Act → List Entry → Drawn
drawn_by a es = record { key = a.before.dice.key; seat = (place_of a).seat; serial = (place_of a).serial; taken = words_taken es }

moved_on : (word : List ℕ → ℕ → ℕ → ℕ → ℕ) (capacity m n : ℕ) (es fs : List Entry) (a : Act) (now : Seen) (r w : List ℕ)
    → IsActing word capacity m es a → IsMoved a.after now r w → now.dice ≡ drawn_by a fs → AreWorded (words_of word a) fs
    → Stands word capacity n fs (further a now r w) now.ending → IsActing word capacity n fs (further a now r w)
moved_on word capacity m n es fs a now r w f g dice worded stands = record {
  connection = g.connection ∙ f.connection;
  cap = g.cap ∙ f.cap;
  read = read_on _ _ _ _ _ f.read g.read;
  written = written_on _ _ _ _ _ f.written g.written;
  room = room_on a.before.room a.after.room now.room (length a.written) (length w) (length (a.written ++ w)) (length-append a.written w) f.room g.room;
  dice = dice;
  worded = worded;
  reads = omega (arith, f.reads, g.reads);
  writes = omega (arith, f.writes, g.writes);
  stands = stands;
}

-- a count that rose later rose
rose_from : (a b c : ℕ) → a ≤ b → Rose b c → Rose a c
rose_from a b c h r = omega (arith, h, r)

cause_from : (ending : Ending) (a b c x y z : ℕ) → a ≤ b → x ≤ y → EndCause ending b c y z → EndCause ending a c x z
cause_from ReadFault a b c x y z h k e = (omega (arith, h, e.0), omega (arith, k, e.1), rose_from a b c h e.2)
cause_from WriteFault a b c x y z h k e = (omega (arith, h, e.0), omega (arith, k, e.1), rose_from x y z k e.2)
cause_from Clean a b c x y z h k e = (omega (arith, h, e.0), omega (arith, k, e.1))
cause_from (Cut have need) a b c x y z h k e = (omega (arith, h, e.0), omega (arith, k, e.1))
cause_from (Full entries) a b c x y z h k e = (omega (arith, h, e.0), omega (arith, k, e.1))
cause_from (Spent bytes) a b c x y z h k e = (omega (arith, h, e.0), omega (arith, k, e.1))

-- ---- one actor that goes on, and what its session and its link are after a turn
module _ (word : List ℕ → ℕ → ℕ → ℕ → ℕ) (shape : Shape) (capacity : ℕ) (a : Act) (now : Seen) (h : List Entry)
    (acting : IsActing word capacity (length h) (entries_of a h) a) (on : a.after.ending ≡ None)
    (moves : (r w : List ℕ) → WasRead a.after.left r now.left → WasWritten a.after.held w now.held → IsMoved a.after now r w) where
  going : IsGoing (entries_of a h) a
  going = subst (Stands word capacity (length h) (entries_of a h) a) on acting.stands

  as_long : (n : ℕ) → n ≤ n
  as_long n = omega arith

  -- it is ahead of what it was, whatever it turns out to be
  fits_before : (m : Actor) (r w : List ℕ) → IsAhead word (further a now r w) m → Fits word a a.after.ending m
  fits_before m r w ahead = subst (λ o. Fits word a o m) (sym on) (ahead_before word a (further a now r w) r w m refl refl refl ahead)

  -- a turn that ends it, and adds nothing
  ends_now : (ending : Ending) (r w : List ℕ) → now.ending ≡ Some ending → WasRead a.after.left r now.left → WasWritten a.after.held w now.held → now.dice ≡ a.after.dice
      → IsOver word capacity (length h) (entries_of a h) (further a now r w) ending → TookTurns word shape capacity (λ m. m ∷ []) h h a now
  ends_now ending r w ended read written dice over =
      let next = moved_on word capacity (length h) (length h) (entries_of a h) (entries_of a h) a now r w acting (moves r w read written) (dice ∙ acting.dice) acting.worded
      (subst (Stands word capacity (length h) (entries_of a h) (further a now r w)) (sym ended) over) in
      record {
        act = further a now r w;
        same = refl;
        now_is = refl;
        acting = next;
        turns = λ m fits.
            let is : m ≡ actor_of word (further a now r w) = subst (λ o. Fits word (further a now r w) o m) ended fits in (
              fits_before m r w (subst (IsAhead word (further a now r w)) (sym is) (ahead_of_all word (further a now r w) next.read next.room)),
              subst (λ x. AreTurns shape capacity (x ∷ []) h h) (sym is)
                  (h, idle_turn shape capacity (actor_of word (further a now r w)) h (over.idle h refl (as_long (length h))), refl),
            );
        added = [];
        grown = sym (append-nil h);
        ours = All-nil (λ (e : Entry). IsCallAt (place_of a) e.call);
      }

  -- the source ended or failed, or no more may be read
  paused_over : (ending : Ending) → now.ending ≡ Some ending → (ending ≡ WriteFault → ⊥)
      → (t : Paused (place_of a) a.before.session.cap a.after.session.work a.after.left now.left a.after.held now.held a.after.session.budget now.session.budget ending)
      → EndCause ending a.after.read_faults now.read_faults a.after.write_faults now.write_faults
      → IsOver word capacity (length h) (entries_of a h) (further a now (t.taken ++ t.part) t.given) ending
  paused_over ending ended other t cause =
      let mine = entries_of a h in
      let next = further a now (t.taken ++ t.part) t.given in
      let leads = leads_more (place_of a) between a.after.session.work between _ _ _ _ _ _ going.leads t.leads in
      let paid : now.session.budget + length ((a.read ++ t.taken) ++ t.part) ≡ a.before.session.cap =
      omega (arith, going.paid, t.took.paid, length-append (a.read ++ t.taken) t.part, length-append a.read t.taken, length-append t.taken t.part) in
      let spoken : (n : ℕ) → Speaks (setting_of capacity n next) next.read mine next.written ending = λ n.
      subst (λ b. Speaks (setting_of capacity n next) b mine next.written ending) (append_assoc a.read t.taken t.part)
      (paused_speaks (place_of a) a.before.session.cap now.left mine n capacity (a.read ++ t.taken) t.part (a.written ++ t.given) now.session.budget ending leads t.none paid t.why) in
      record {
        speaks = λ n few most. spoken n;
        idle = λ k same longer.
            idle_paused word capacity next mine k same ending (length h) next.written ended
            (read_on _ _ _ _ _ acting.read t.took.read) (spoken (length h)).ends longer other;
        cause = cause_from ending _ _ _ _ _ _ acting.reads acting.writes cause;
      }

  -- a reply was not written whole
  broken_over : now.ending ≡ Some WriteFault
      → (t : Broken (place_of a) a.after.session.work a.after.left now.left a.after.held now.held a.after.session.budget now.session.budget)
      → EndCause WriteFault a.after.read_faults now.read_faults a.after.write_faults now.write_faults
      → IsOver word capacity (length h) (entries_of a h) (further a now t.taken t.given) WriteFault
  broken_over ended t cause =
      let mine = entries_of a h in
      let next = further a now t.taken t.given in
      let leads = leads_more (place_of a) between a.after.session.work between _ _ _ _ _ _ going.leads t.leads in
      let short = proper_behind a.written t.given t.whole t.short in
      let moved = moves t.taken t.given t.took.read t.gave in
      record {
        speaks = λ n few most.
            broken_speaks (place_of a) a.before.session.cap now.left mine n capacity next.read (a.written ++ t.whole) next.written between leads short
            (λ some. prefix_more _ a.written t.given (going.last some t.taken));
        idle = λ k same longer.
            idle_broken word capacity next mine k same ended (read_on _ _ _ _ _ acting.read t.took.read)
            (room_on a.before.room a.after.room now.room (length a.written) (length t.given) (length next.written) (length-append a.written t.given) acting.room moved.room)
            (λ later. said_longer (place_of a) between next.read (calls_of mine) (replies_of mine) (a.written ++ t.whole) next.written later leads short);
        cause = cause_from WriteFault _ _ _ _ _ _ acting.reads acting.writes cause;
      }

  -- a poll that ended it
  pub poll_ends : (ending : Ending) → now.ending ≡ Some ending → now.dice ≡ a.after.dice
      → Halted (place_of a) a.before.session.cap a.after.session.work a.after.left now.left a.after.held now.held a.after.session.budget now.session.budget ending
      → EndCause ending a.after.read_faults now.read_faults a.after.write_faults now.write_faults
      → TookTurns word shape capacity (λ m. m ∷ []) h h a now
  poll_ends Clean ended dice t cause = ends_now Clean (t.taken ++ t.part) t.given ended t.took.read t.gave dice (paused_over Clean ended (λ e. cc) t cause)
  poll_ends (Cut have need) ended dice t cause = ends_now (Cut have need) (t.taken ++ t.part) t.given ended t.took.read t.gave dice (paused_over (Cut have need) ended (λ e. cc) t cause)
  poll_ends ReadFault ended dice t cause = ends_now ReadFault (t.taken ++ t.part) t.given ended t.took.read t.gave dice (paused_over ReadFault ended (λ e. cc) t cause)
  poll_ends (Spent bytes) ended dice t cause = ends_now (Spent bytes) (t.taken ++ t.part) t.given ended t.took.read t.gave dice (paused_over (Spent bytes) ended (λ e. cc) t cause)
  poll_ends WriteFault ended dice t cause = ends_now WriteFault t.taken t.given ended t.took.read t.gave dice (broken_over ended t cause)
  poll_ends (Full entries) ended dice t cause = absurd t

-- ---- a call of it is executed
-- a poll ended with a call
pub record IsAsked (a : Act) (mid : State) (left wrote : Option (List ℕ)) (call : Call) : Type 0 where
  pub spoke : Spoke (place_of a) a.after.session.work a.after.left left a.after.held wrote a.after.session.budget mid.budget mid.work
  pub waits : Waits call mid
  pub place : mid.connection ≡ place_of a

-- an entry was made of it
pub record IsMade (word : List ℕ → ℕ → ℕ → ℕ → ℕ) (shape : Shape) (capacity : ℕ) (a : Act) (now : Seen) (h : List Entry) (e : Entry) : Type 0 where
  pub room : length h < capacity
  pub word_is : IfSome e.word (λ w. w ≡ words_of word a (words_taken (entries_of a h)))
  pub legal : IsLegal shape (h ++ e ∷ [])
  pub dice : now.dice ≡ drawn_by a (entries_of a h ++ e ∷ [])

fits_is : (room : Option ℕ) (text : List ℕ) → IfSome room (λ r. length text ≤ r) → fits_room room text ≡ true
fits_is None text h = refl
fits_is (Some r) text h = grind (arith, nat_tests, h)

module _ (word : List ℕ → ℕ → ℕ → ℕ → ℕ) (shape : Shape) (capacity : ℕ) (a : Act) (now : Seen) (h : List Entry)
    (acting : IsActing word capacity (length h) (entries_of a h) a) (on : a.after.ending ≡ None)
    (moves : (r w : List ℕ) → WasRead a.after.left r now.left → WasWritten a.after.held w now.held → IsMoved a.after now r w)
    (mid : State) (left wrote : Option (List ℕ)) (call : Call) (asked : IsAsked a mid left wrote call) (same_left : now.left ≡ left) where
  abbrev mine : List Entry
  mine = entries_of a h

  abbrev given : List ℕ
  given = a.written ++ asked.spoke.given

  now_going : IsGoing mine a
  now_going = subst (Stands word capacity (length h) mine a) on acting.stands

  leads_here : Leads (place_of a) between (a.read ++ asked.spoke.taken) (calls_of mine) (replies_of mine) given mid.work
  leads_here = leads_more (place_of a) between a.after.session.work mid.work _ _ _ _ _ _ now_going.leads asked.spoke.leads

  call_is : IsCallAt (place_of a) call
  call_is = asked.waits.call_is ∙ ap (λ p. call_of p call.app call.command) asked.place

  due_said : (later : List ℕ) → walk (place_of a) (messages ((a.read ++ asked.spoke.taken) ++ later)) (replies_of mine) ≡ asks (calls_of mine) given call
  due_said later =
      due_text (place_of a) call asked.waits.others asked.waits.notify mid.work (a.read ++ asked.spoke.taken) (calls_of mine) (replies_of mine) given later leads_here asked.waits.work
      ∙ ap (λ (k : Call). asks (calls_of mine) given k) (sym call_is)

  was_read : WasRead a.after.left asked.spoke.taken now.left
  was_read = subst (WasRead a.after.left asked.spoke.taken) (sym same_left) asked.spoke.took.read

  -- the last entry's text is what was said before it
  text_before : (later : List ℕ) (e : Entry) → (walk (place_of a) (messages ((a.read ++ asked.spoke.taken) ++ later)) (replies_of (but_last (mine ++ e ∷ [])))).text ≡ given
  text_before later e =
      ap (λ (es : List Entry). (walk (place_of a) (messages ((a.read ++ asked.spoke.taken) ++ later)) (replies_of es)).text) (but_last_push mine e)
      ∙ ap (λ (s : Said). s.text) (due_said later) ∙ append-nil given

  abbrev entry : Option ℕ → CoreReply → Entry
  entry drawn reply = record { call = call; word = drawn; reply = reply }

  -- it is a turn of each actor that this begins
  turn_made : (m : Actor) (drawn : Option ℕ) (reply : CoreReply) (w : List ℕ) → IsMade word shape capacity a now h (entry drawn reply)
      → IsAhead word (further a now asked.spoke.taken (asked.spoke.given ++ w)) m → IsTurn shape capacity m h (h ++ entry drawn reply ∷ [])
  turn_made m drawn reply w made ahead =
      let e = entry drawn reply in
      let legal = (legal-split shape h e made.legal).1 in
      let own_is : own m h ≡ mine = ap (λ (p : Connection). own_entries p.seat p.serial h) ahead.connection in
      let said : said_by m h ≡ asks (calls_of mine) given call =
      ap (λ (p : Connection). walk p (messages m.input) (replies_of (own m h))) ahead.connection
      ∙ ap (λ (es : List Entry). walk (place_of a) (messages m.input) (replies_of es)) own_is
      ∙ ap (λ (b : List ℕ). walk (place_of a) (messages b) (replies_of mine)) ahead.input
      ∙ due_said ahead.later in
      let next : words_of word a (words_taken mine) ≡ next_word m h =
      ap (λ (es : List Entry). words_of word a (words_taken es)) (sym own_is) ∙ ap (λ (f : ℕ → ℕ). f (words_taken (own m h))) (sym ahead.words) in
      adds_by shape capacity m h e (asks (calls_of mine) given call) said made.room
      (fits_is m.room (given ++ []) (fits_less m.room (length (given ++ [])) (length (a.written ++ (asked.spoke.given ++ w)))
      (omega (arith, length-append given [], length-append a.written asked.spoke.given, length-append a.written (asked.spoke.given ++ w), length-append asked.spoke.given w)) ahead.room))
      refl
      (record {
        call = refl;
        word = word_is drawn (words_of word a) (words_taken mine) (draws (after shape h) call) made.word_is legal.drawn
            ∙ ap (λ (n : ℕ). if draws (after shape h) call then Some n else None) next;
        legal = legal;
      })

  -- what it is and what it turns out to be, by how far it has come
  turns_made : (drawn : Option ℕ) (reply : CoreReply) (w : List ℕ) → IsMade word shape capacity a now h (entry drawn reply)
      → Stands word capacity (length (h ++ entry drawn reply ∷ [])) (mine ++ entry drawn reply ∷ []) (further a now asked.spoke.taken (asked.spoke.given ++ w)) now.ending
      → WasWritten wrote w now.held
      → ((m : Actor) → Fits word (further a now asked.spoke.taken (asked.spoke.given ++ w)) now.ending m → IsActing word capacity (length (h ++ entry drawn reply ∷ [])) (mine ++ entry drawn reply ∷ []) (further a now asked.spoke.taken (asked.spoke.given ++ w)) → IsAhead word (further a now asked.spoke.taken (asked.spoke.given ++ w)) m)
      → TookTurns word shape capacity (λ m. m ∷ []) h (h ++ entry drawn reply ∷ []) a now
  turns_made drawn reply w made stands written ahead =
      let e = entry drawn reply in
      let r = asked.spoke.taken in
      let out = asked.spoke.given ++ w in
      let wrote_all : WasWritten a.after.held out now.held = written_on _ _ _ _ _ asked.spoke.gave written in
      let next = moved_on word capacity (length h) (length (h ++ e ∷ [])) mine (mine ++ e ∷ []) a now r out acting (moves r out was_read wrote_all) made.dice
      (worded_push (words_of word a) mine e acting.worded made.word_is) stands in
      record {
        act = further a now r out;
        same = refl;
        now_is = refl;
        acting = subst (λ (es : List Entry). IsActing word capacity (length (h ++ e ∷ [])) es (further a now r out)) (sym (own_push (place_of a) h e call_is)) next;
        turns = λ m fits.
            let is = ahead m fits next in (
              subst (λ o. Fits word a o m) (sym on) (ahead_before word a (further a now r out) r out m refl refl refl is),
              (h ++ e ∷ [], turn_made m drawn reply w made is, refl),
            );
        added = e ∷ [];
        grown = refl;
        ours = All-cons (λ (x : Entry). IsCallAt (place_of a) x.call) e [] call_is (All-nil (λ (x : Entry). IsCallAt (place_of a) x.call));
      }

  -- its reply was written, and it goes on
  pub call_goes : (drawn : Option ℕ) (reply : CoreReply) → IsMade word shape capacity a now h (entry drawn reply) → now.ending ≡ None → now.session.stage ≡ Ready
      → now.session.budget ≡ mid.budget → Resumes (place_of a) mid.work call wrote now.held reply now.session.work
      → TookTurns word shape capacity (λ m. m ∷ []) h (h ++ entry drawn reply ∷ []) a now
  call_goes drawn reply made goes ready paid t =
      let e = entry drawn reply in
      let r = asked.spoke.taken in
      let w = spell_core call.app reply in
      let y = further a now r (asked.spoke.given ++ w) in
      let both : given ++ w ≡ a.written ++ (asked.spoke.given ++ w) = append_assoc a.written asked.spoke.given w in
      let leads = leads_asked (place_of a) between mid.work now.session.work _ _ _ _ _ _ _ leads_here t.leads in
      let going : IsGoing (mine ++ e ∷ []) y = record {
        stage = ready;
        paid = omega (arith, paid, now_going.paid, asked.spoke.took.paid, length-append a.read r);
        leads =
            subst (λ (out : List ℕ). Leads (place_of a) between y.read (calls_of (mine ++ e ∷ [])) (replies_of (mine ++ e ∷ [])) out now.session.work) both
            (subst (λ (k : List Call). Leads (place_of a) between y.read k (replies_of (mine ++ e ∷ [])) (given ++ w) now.session.work) (sym (calls_push mine e))
            (subst (λ (k : List CoreReply). Leads (place_of a) between y.read (calls_of mine ++ call ∷ []) k (given ++ w) now.session.work) (sym (replies_push mine e)) leads));
        last = λ some later. subst (λ (x : List ℕ). Prefix x y.written) (sym (text_before later e)) (w, both);
      } in
      turns_made drawn reply w made (subst (Stands word capacity (length (h ++ e ∷ [])) (mine ++ e ∷ []) y) (sym goes) going) t.gave
      (λ m fits next. subst (λ o. Fits word y o m) goes fits)

  -- its reply was not written whole
  pub call_breaks : (drawn : Option ℕ) (reply : CoreReply) → IsMade word shape capacity a now h (entry drawn reply) → now.ending ≡ Some WriteFault
      → PartSaid (spell_core call.app reply) wrote now.held → EndCause WriteFault a.after.read_faults now.read_faults a.after.write_faults now.write_faults
      → TookTurns word shape capacity (λ m. m ∷ []) h (h ++ entry drawn reply ∷ []) a now
  call_breaks drawn reply made ended t cause =
      let e = entry drawn reply in
      let r = asked.spoke.taken in
      let es = mine ++ e ∷ [] in
      let y = further a now r (asked.spoke.given ++ t.given) in
      let whole = given ++ spell_core call.app reply in
      let both : given ++ t.given ≡ y.written = append_assoc a.written asked.spoke.given t.given in
      let behind = work_after call.app asked.waits.others asked.waits.notify reply in
      let leads_both = leads_asked (place_of a) between mid.work behind _ _ _ _ _ _ _ leads_here
      (asked_step (place_of a) mid.work call asked.waits.others asked.waits.notify reply asked.waits.work call_is) in
      let leads : Leads (place_of a) between y.read (calls_of es) (replies_of es) whole behind =
      subst (λ (k : List Call). Leads (place_of a) between y.read k (replies_of es) whole behind) (sym (calls_push mine e))
      (subst (λ (k : List CoreReply). Leads (place_of a) between y.read (calls_of mine ++ call ∷ []) k whole behind) (sym (replies_push mine e)) leads_both) in
      let short : ProperPrefix y.written whole =
      subst (λ (x : List ℕ). ProperPrefix x whole) both (proper_behind given t.given (spell_core call.app reply) t.short) in
      let wrote_all : WasWritten a.after.held (asked.spoke.given ++ t.given) now.held = written_on _ _ _ _ _ asked.spoke.gave t.gave in
      let moved = moves r (asked.spoke.given ++ t.given) was_read wrote_all in
      let over : IsOver word capacity (length (h ++ e ∷ [])) es y WriteFault = record {
        speaks = λ n few most.
            broken_speaks (place_of a) a.before.session.cap now.left es n capacity y.read whole y.written behind leads short
            (λ some. subst (λ (x : List ℕ). Prefix x y.written)
            (sym (ap (λ (b : List ℕ). (walk (place_of a) (messages b) (replies_of (but_last es))).text) (sym (append-nil y.read)) ∙ text_before [] e))
            (t.given, both));
        idle = λ k same longer.
            idle_broken word capacity y es k same ended (read_on _ _ _ _ _ acting.read was_read)
            (room_on a.before.room a.after.room now.room (length a.written) (length (asked.spoke.given ++ t.given)) (length y.written) (length-append a.written (asked.spoke.given ++ t.given)) acting.room moved.room)
            (λ later. said_longer (place_of a) behind y.read (calls_of es) (replies_of es) whole y.written later leads short);
        cause = cause_from WriteFault _ _ _ _ _ _ acting.reads acting.writes cause;
      } in
      turns_made drawn reply t.given made (subst (Stands word capacity (length (h ++ e ∷ [])) es y) (sym ended) over) t.gave
      (λ m fits next. subst (IsAhead word y) (sym (subst (λ o. Fits word y o m) ended fits)) (ahead_of_all word y next.read next.room))

  -- ---- the journal was full
  module _ (found : length h ≡ capacity) (dice : now.dice ≡ a.after.dice) where
    full_over : (ending : Ending) (w : List ℕ) → now.ending ≡ Some ending → EndCause ending a.after.read_faults now.read_faults a.after.write_faults now.write_faults
        → ((n : ℕ) → n ≡ capacity → Speaks (setting_of capacity n (further a now asked.spoke.taken (asked.spoke.given ++ w))) (a.read ++ asked.spoke.taken) mine (a.written ++ (asked.spoke.given ++ w)) ending)
        → IsOver word capacity (length h) mine (further a now asked.spoke.taken (asked.spoke.given ++ w)) ending
    full_over ending w ended cause speaks = record {
      speaks = λ n few most. speaks n (omega (arith, few, most, found));
      idle = λ k same longer. full capacity (actor_of word (further a now asked.spoke.taken (asked.spoke.given ++ w))) k (omega (arith, longer, found));
      cause = cause_from ending _ _ _ _ _ _ acting.reads acting.writes cause;
    }

    said_here : walk (place_of a) (messages (a.read ++ asked.spoke.taken)) (replies_of mine) ≡ asks (calls_of mine) given call
    said_here = ap (λ (b : List ℕ). walk (place_of a) (messages b) (replies_of mine)) (sym (append-nil (a.read ++ asked.spoke.taken))) ∙ due_said []

    pub full_ends : (ending : Ending) (full : JournalFull) → full.entries ≡ capacity → now.ending ≡ Some ending → AnswerEnds ending call.app (Err full) wrote now.held
        → EndCause ending a.after.read_faults now.read_faults a.after.write_faults now.write_faults
        → TookTurns word shape capacity (λ m. m ∷ []) h h a now
    full_ends (Full count) full told ended t cause =
        let w = general call.app in
        ends_now word shape capacity a now h acting on moves (Full count) asked.spoke.taken (asked.spoke.given ++ w) ended was_read (written_on _ _ _ _ _ asked.spoke.gave t.1) dice
        (full_over (Full count) w ended cause (λ n is.
        subst (λ (x : List ℕ). Speaks (setting_of capacity n (further a now asked.spoke.taken (asked.spoke.given ++ w))) (a.read ++ asked.spoke.taken) mine x (Full count)) (append_assoc a.written asked.spoke.given w)
        (full_speaks (setting_of capacity n (further a now asked.spoke.taken (asked.spoke.given ++ w))) (a.read ++ asked.spoke.taken) given mine call count said_here is (t.0 ∙ told))))
    full_ends WriteFault full told ended t cause =
        let y = further a now asked.spoke.taken (asked.spoke.given ++ t.given) in
        let both : given ++ t.given ≡ y.written = append_assoc a.written asked.spoke.given t.given in
        ends_now word shape capacity a now h acting on moves WriteFault asked.spoke.taken (asked.spoke.given ++ t.given) ended was_read (written_on _ _ _ _ _ asked.spoke.gave t.gave) dice
        (full_over WriteFault t.given ended cause (λ n is.
        subst (λ (x : List ℕ). Speaks (setting_of capacity n y) y.read mine x WriteFault) both
        (full_broken_speaks (setting_of capacity n y) y.read given t.given mine call said_here is t.short
        (λ some. subst (Prefix _) (sym both) (prefix_more _ a.written (asked.spoke.given ++ t.given) (now_going.last some asked.spoke.taken))))))
    full_ends Clean full told ended t cause = absurd t
    full_ends (Cut have need) full told ended t cause = absurd t
    full_ends ReadFault full told ended t cause = absurd t
    full_ends (Spent bytes) full told ended t cause = absurd t
