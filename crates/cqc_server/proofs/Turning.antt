-- One turn of an actor, from what its session, its link, its dice and the core say of their calls.
use Rattle.std.proofs.Common.{◌≡◌, ℕ, zero, suc, ◌+◌, ◌<◌, ◌≤◌, ◌^◌, List, [], ◌∷◌, ◌++◌, length, Option, None, Some, Result, Ok, Err, refl, sym, ap, subst, ◌∙◌, arith, append_assoc}
use Rattle.std.specs.Prelude.{All, replicate, IfSome, IsSome, MatchOption, MatchResult, is_some, if◌then◌else◌}
use Rattle.network_model.specs.Network.{Shape}
use Rattle.network_model.specs.History.{IsLegal}
use Rattle.network_model.specs.declared.Call.{Call}
use Rattle.network_model.specs.declared.CoreReply.{CoreReply}
use Rattle.network_model.specs.declared.Entry.{Entry}
use Rattle.network_model.specs.declared.JournalFull.{JournalFull}
use Rattle.session_model.specs.declared.Ending.{Ending}
use Rattle.session_model.specs.declared.Ending.TheVariants.{Clean, Cut, ReadFault, WriteFault, Full, Spent}
use Rattle.session_model.specs.Walk.{Connection, Work}
use Rattle.session_model.specs.Turns.{Actor, AreTurns, turn_call, words_taken}
use Rattle.session_model.proofs.Spoken.{words_push}
use Rattle.qron_link.specs.Outside.{WasRead, WasWritten}
use Rattle.qron_link.specs.Dices.{Drawn}
use Rattle.factored_core.specs.Core.{Journal, IsExecuted, WasFull}
use Rattle.cqc_session.specs.State.{State, Waits, steps_left, stage_after_answer}
use Rattle.cqc_session.specs.declared.stage.Stage.TheVariants.{Ready}
use Rattle.cqc_session.specs.Session.{Spoke, Halted, GoesOn, AnswerEnds, AnswerCause, EndCause}
use Rattle.cqc_server.specs.Replay.{Act, Seen, place_of, words_of, entries_of, actor_of, IsCallAt}
use Rattle.cqc_server.specs.Progress.{Fits, Stands, IsActing, TookTurns, TakesTurns, HasActed}
use Rattle.std.proofs.lemmas.List.{append-nil}
use Rattle.std.proofs.lemmas.List.Elements.{All-nil, All-append}
use Rattle.std.proofs.lemmas.List.Sums.{count_by-le-length}
use Rattle.cqc_server.proofs.Histories.{own_shorter}
use Rattle.cqc_server.proofs.Idling.{idle_turn, turns_on, turns_to_end}
use Rattle.cqc_server.proofs.Steps.{IsMoved, IsAsked, IsMade, drawn_by, poll_ends, call_goes, call_breaks, full_ends}

abbrev act : Seen → Seen → List ℕ → List ℕ → Act
act b s r w = record { before = b; after = s; read = r; written = w }

-- what an actor does that was seen so
takes_by : (word : List ℕ → ℕ → ℕ → ℕ → ℕ) (shape : Shape) (capacity : ℕ) (takers : Actor → List Actor) (old new : List Entry) (before now : Seen)
    → ((b : Seen) (r w : List ℕ) → IsActing word capacity (length old) (entries_of (act b before r w) old) (act b before r w) → TookTurns word shape capacity takers old new (act b before r w) now)
    → TakesTurns word shape capacity takers old new before now
takes_by word shape capacity takers old new before now f a e acting =
    subst (λ s. TookTurns word shape capacity takers old new (act a.before s a.read a.written) now) (sym e)
    (f a.before a.read a.written (subst (λ s. IsActing word capacity (length old) (entries_of a old) (act a.before s a.read a.written)) e acting))

-- what a turn moves
abbrev pub Moves : Seen → Seen → Type 0
Moves before now = (r w : List ℕ) → WasRead before.left r now.left → WasWritten before.held w now.held → IsMoved before now r w

halted_at : (p q : Connection) (m n : ℕ) (work : Work) (left rest held wrote : Option (List ℕ)) (budget now : ℕ) (ending : Ending) → p ≡ q → m ≡ n
    → Halted p m work left rest held wrote budget now ending → Halted q n work left rest held wrote budget now ending
halted_at p q m n work left rest held wrote budget now ending e f h =
    subst (λ k. Halted q k work left rest held wrote budget now ending) f (subst (λ x. Halted x m work left rest held wrote budget now ending) e h)

-- a poll ended it
pub turn_ends : (word : List ℕ → ℕ → ℕ → ℕ → ℕ) (shape : Shape) (capacity : ℕ) (before now : Seen) (h : List Entry) (ending : Ending)
    → before.ending ≡ None → now.ending ≡ Some ending → now.dice ≡ before.dice → Moves before now
    → Halted before.session.connection before.session.cap before.session.work before.left now.left before.held now.held before.session.budget now.session.budget ending
    → EndCause ending before.read_faults now.read_faults before.write_faults now.write_faults
    → TakesTurns word shape capacity (λ m. m ∷ []) h h before now
turn_ends word shape capacity before now h ending on ended dice moves halted cause =
    takes_by word shape capacity (λ m. m ∷ []) h h before now (λ b r w acting.
    poll_ends word shape capacity (act b before r w) now h acting on moves ending ended dice
    (halted_at _ _ _ _ _ _ _ _ _ _ _ ending acting.connection acting.cap halted) cause)

-- ---- a call was executed
-- the word that an entry drew, and where the dice stand behind it
abbrev IsDrawn : Option ℕ → ℕ → ℕ → ℕ → Type 0
IsDrawn w next before now = MatchOption w (now ≡ before) (λ n. (n ≡ next) × (now ≡ before + 1))

drawn_word : (w : Option ℕ) (next before now words : ℕ) → next ≡ words → IsDrawn w next before now → IfSome w (λ n. n ≡ words)
drawn_word None next before now words e d = tt
drawn_word (Some n) next before now words e d = d.0 ∙ e

drawn_more : (w : Option ℕ) (next before now : ℕ) → IsDrawn w next before now → now ≡ before + (if is_some w then 1 else 0)
drawn_more None next before now d = omega arith
drawn_more (Some n) next before now d = d.1

same_drawn : (d e : Drawn) → d.key ≡ e.key → d.seat ≡ e.seat → d.serial ≡ e.serial → d.taken ≡ e.taken → d ≡ e
same_drawn d e a b c f =
    ap (λ (x : List ℕ). record d { key = x }) a ∙ ap (λ (x : ℕ). record e { seat = x; serial = d.serial; taken = d.taken }) b
    ∙ ap (λ (x : ℕ). record e { serial = x; taken = d.taken }) c ∙ ap (λ (x : ℕ). record e { taken = x }) f

-- an entry was made
made : (word : List ℕ → ℕ → ℕ → ℕ → ℕ) (a : Act) (now : Seen) (call : Call) (reply : CoreReply) (old new : Journal)
    → a.after.dice ≡ drawn_by a (entries_of a old.entries)
    → (d : IsExecuted call reply (word a.after.dice.key a.after.dice.seat a.after.dice.serial a.after.dice.taken) a.after.dice.taken now.dice.taken old new)
    → IsLegal new.shape new.entries → now.dice.key ≡ a.after.dice.key → now.dice.seat ≡ a.after.dice.seat → now.dice.serial ≡ a.after.dice.serial
    → IsMade word old.shape old.capacity a now old.entries (record { call = call; word = d.word; reply = reply })
made word a now call reply old new at d legal key seat serial =
    let mine = entries_of a old.entries in
    let e : Entry = record { call = call; word = d.word; reply = reply } in
    record {
      room = d.room;
      word_is = drawn_word d.word _ _ _ (words_of word a (words_taken mine)) (ap (λ (x : Drawn). word x.key x.seat x.serial x.taken) at) d.drawn;
      legal = subst (λ (j : Journal). IsLegal j.shape j.entries) d.is legal;
      dice = same_drawn now.dice (drawn_by a (mine ++ e ∷ []))
          (key ∙ ap (λ (x : Drawn). x.key) at)
          (seat ∙ ap (λ (x : Drawn). x.seat) at)
          (serial ∙ ap (λ (x : Drawn). x.serial) at)
          (drawn_more d.word _ _ _ d.drawn ∙ ap (λ (x : Drawn). x.taken + (if is_some d.word then 1 else 0)) at ∙ sym (words_push mine e));
    }

-- what the core did with a call
abbrev pub CoreDid : (List ℕ → ℕ → ℕ → ℕ → ℕ) → Call → Result CoreReply JournalFull → Seen → Seen → Journal → Journal → Type 0
CoreDid word call done before now old new = MatchResult done
    (λ reply. IsExecuted call reply (word before.dice.key before.dice.seat before.dice.serial before.dice.taken) before.dice.taken now.dice.taken old new)
    (λ fault. WasFull fault old new × (now.dice ≡ before.dice))

-- what the session did with the core's answer
abbrev pub SessionDid : State → State → Call → Option (List ℕ) → Option (List ℕ) → Result CoreReply JournalFull → Option Ending → Type 0
SessionDid mid last call wrote held done ending =
    MatchOption ending (GoesOn mid.connection mid.work call wrote held done last.work) (λ e. AnswerEnds e call.app done wrote held)

-- the causes of a poll and an answer together
pub answer_cause : (e : Ending) (a b c x y z : ℕ) → a ≤ b → c ≡ b → x ≤ y → AnswerCause e y z → (e ≡ ReadFault → ⊥) → EndCause e a c x z
answer_cause WriteFault a b c x y z h k l r other = (omega (arith, h, k), omega (arith, l, r.0), omega (arith, l, r.1))
answer_cause Clean a b c x y z h k l r other = (omega (arith, h, k), omega (arith, l, r))
answer_cause (Cut have need) a b c x y z h k l r other = (omega (arith, h, k), omega (arith, l, r))
answer_cause (Full entries) a b c x y z h k l r other = (omega (arith, h, k), omega (arith, l, r))
answer_cause (Spent bytes) a b c x y z h k l r other = (omega (arith, h, k), omega (arith, l, r))
answer_cause ReadFault a b c x y z h k l r other = absurd (other refl)

module _ (word : List ℕ → ℕ → ℕ → ℕ → ℕ) (before now : Seen) (old new : Journal) (mid : State) (left wrote : Option (List ℕ)) (call : Call)
    (on : before.ending ≡ None) (moves : Moves before now)
    (spoke : Spoke before.session.connection before.session.work before.left left before.held wrote before.session.budget mid.budget mid.work)
    (waits : Waits call mid) (place : mid.connection ≡ before.session.connection) (same_left : now.left ≡ left) (paid : now.session.budget ≡ mid.budget)
    (legal : IsLegal new.shape new.entries) (key : now.dice.key ≡ before.dice.key) (seat : now.dice.seat ≡ before.dice.seat) (serial : now.dice.serial ≡ before.dice.serial)
    (cause : (e : Ending) → now.ending ≡ Some e → (e ≡ ReadFault → ⊥) → EndCause e before.read_faults now.read_faults before.write_faults now.write_faults) where
  asked_at : (b : Seen) (r w : List ℕ) → IsActing word old.capacity (length old.entries) (entries_of (act b before r w) old.entries) (act b before r w)
      → IsAsked (act b before r w) mid left wrote call
  asked_at b r w acting = record {
    spoke = subst (λ (p : Connection). Spoke p before.session.work before.left left before.held wrote before.session.budget mid.budget mid.work) acting.connection spoke;
    waits = waits;
    place = place ∙ acting.connection;
  }

  -- what is said of the old journal with an entry more is said of the new one
  grown_to : (takers : Actor → List Actor) (e : Entry) → new ≡ record old { entries = old.entries ++ e ∷ [] } → (a : Act)
      → TookTurns word old.shape old.capacity takers old.entries (old.entries ++ e ∷ []) a now → TookTurns word old.shape old.capacity takers old.entries new.entries a now
  grown_to takers e is a t = subst (λ (es : List Entry). TookTurns word old.shape old.capacity takers old.entries es a now) (sym (ap (λ (j : Journal). j.entries) is)) t

  -- the journal was full
  was_full : (fault : JournalFull) (ending : Ending) → now.ending ≡ Some ending → WasFull fault old new × (now.dice ≡ before.dice) → AnswerEnds ending call.app (Err fault) wrote now.held
      → EndCause ending before.read_faults now.read_faults before.write_faults now.write_faults
      → TakesTurns word old.shape old.capacity (λ m. m ∷ []) old.entries new.entries before now
  was_full fault ending ended did said because =
      takes_by word old.shape old.capacity (λ m. m ∷ []) old.entries new.entries before now (λ b r w acting.
      subst (λ (es : List Entry). TookTurns word old.shape old.capacity (λ m. m ∷ []) old.entries es (act b before r w) now) (sym (ap (λ (j : Journal). j.entries) did.0.stays))
      (full_ends word old.shape old.capacity (act b before r w) now old.entries acting on moves mid left wrote call (asked_at b r w acting) same_left
      did.0.full did.1 ending fault did.0.told ended said because))

  pub turn_executes : (done : Result CoreReply JournalFull) (ending : Option Ending) → now.ending ≡ ending → now.session.stage ≡ stage_after_answer ending
      → CoreDid word call done before now old new → SessionDid mid now.session call wrote now.held done ending
      → TakesTurns word old.shape old.capacity (λ m. m ∷ []) old.entries new.entries before now
  turn_executes (Ok reply) None ended ready did said =
      takes_by word old.shape old.capacity (λ m. m ∷ []) old.entries new.entries before now (λ b r w acting.
      grown_to (λ m. m ∷ []) (record { call = call; word = did.word; reply = reply }) did.is (act b before r w)
      (call_goes word old.shape old.capacity (act b before r w) now old.entries acting on moves mid left wrote call (asked_at b r w acting) same_left did.word reply
      (made word (act b before r w) now call reply old new acting.dice did legal key seat serial) ended ready paid
      (subst (λ (p : Connection). GoesOn p mid.work call wrote now.held (Ok reply) now.session.work) (place ∙ acting.connection) said)))
  turn_executes (Ok reply) (Some WriteFault) ended ready did said =
      takes_by word old.shape old.capacity (λ m. m ∷ []) old.entries new.entries before now (λ b r w acting.
      grown_to (λ m. m ∷ []) (record { call = call; word = did.word; reply = reply }) did.is (act b before r w)
      (call_breaks word old.shape old.capacity (act b before r w) now old.entries acting on moves mid left wrote call (asked_at b r w acting) same_left did.word reply
      (made word (act b before r w) now call reply old new acting.dice did legal key seat serial) ended said (cause WriteFault ended (λ e. cc))))
  turn_executes (Ok reply) (Some (Full entries)) ended ready did said = absurd said
  turn_executes (Ok reply) (Some Clean) ended ready did said = absurd said
  turn_executes (Ok reply) (Some (Cut have need)) ended ready did said = absurd said
  turn_executes (Ok reply) (Some ReadFault) ended ready did said = absurd said
  turn_executes (Ok reply) (Some (Spent bytes)) ended ready did said = absurd said
  turn_executes (Err fault) None ended ready did said = absurd said
  turn_executes (Err fault) (Some ReadFault) ended ready did said = absurd said
  turn_executes (Err fault) (Some Clean) ended ready did said = absurd said
  turn_executes (Err fault) (Some (Cut have need)) ended ready did said = absurd said
  turn_executes (Err fault) (Some (Spent bytes)) ended ready did said = absurd said
  turn_executes (Err fault) (Some WriteFault) ended ready did said = was_full fault WriteFault ended did said (cause WriteFault ended (λ e. cc))
  turn_executes (Err fault) (Some (Full entries)) ended ready did said = was_full fault (Full entries) ended did said (cause (Full entries) ended (λ e. cc))

-- the dice have given fewer words than there may be entries
pub words_few : (word : List ℕ → ℕ → ℕ → ℕ → ℕ) (capacity : ℕ) (h : List Entry) (before : Seen) → HasActed word capacity h before → length h ≤ capacity → capacity ≤ 1048576
    → before.dice.taken < 2 ^ 63
words_few word capacity h before acted few most =
    let own = entries_of acted.act h in
    let is : before.dice.taken ≡ words_taken own = ap (λ (s : Seen). s.dice.taken) (sym acted.now_is) ∙ ap (λ (d : Drawn). d.taken) acted.acting.dice in
    omega (arith, is, count_by-le-length (λ (e : Entry). is_some e.word) own, own_shorter (place_of acted.act).seat (place_of acted.act).serial h, few, most)

-- the session of an actor that goes on is ready
pub is_ready : (word : List ℕ → ℕ → ℕ → ℕ → ℕ) (capacity : ℕ) (h : List Entry) (before : Seen) → HasActed word capacity h before → before.ending ≡ None
    → before.session.stage ≡ Ready
is_ready word capacity h before acted on =
    let ended : acted.act.after.ending ≡ None = ap (λ (s : Seen). s.ending) acted.now_is ∙ on in
    ap (λ (s : Seen). s.session.stage) (sym acted.now_is)
    ∙ (subst (Stands word capacity (length h) (entries_of acted.act h) acted.act) ended acted.acting.stands).stage

-- ---- counts of faults, and dice that stay
pub cause_counts : (e : Ending) (a b x y : ℕ) → EndCause e a b x y → (a ≤ b) × (x ≤ y)
cause_counts ReadFault a b x y c = (c.0, c.1)
cause_counts WriteFault a b x y c = (c.0, c.1)
cause_counts Clean a b x y c = (c.0, c.1)
cause_counts (Cut have need) a b x y c = (c.0, c.1)
cause_counts (Full entries) a b x y c = (c.0, c.1)
cause_counts (Spent bytes) a b x y c = (c.0, c.1)

-- what an answer says of the count of writes that failed
abbrev AnswerCounts : Option Ending → ℕ → ℕ → Type 0
AnswerCounts o y z = MatchOption o (y ≤ z) (λ e. AnswerCause e y z)

pub answer_writes : (o : Option Ending) (y z : ℕ) → AnswerCounts o y z → y ≤ z
answer_writes None y z c = c
answer_writes (Some WriteFault) y z c = c.0
answer_writes (Some Clean) y z c = c
answer_writes (Some (Cut have need)) y z c = c
answer_writes (Some ReadFault) y z c = c
answer_writes (Some (Full entries)) y z c = c
answer_writes (Some (Spent bytes)) y z c = c

pub answer_ended : (o : Option Ending) (e : Ending) (a b c x y z : ℕ) → o ≡ Some e → (e ≡ ReadFault → ⊥) → a ≤ b → c ≡ b → x ≤ y → AnswerCounts o y z → EndCause e a c x z
answer_ended o e a b c x y z is other h k l counts = answer_cause e a b c x y z h k l (subst (λ p. AnswerCounts p y z) is counts) other

pub dice_stay : {D : Type 0} (drawn : D → Drawn) (r : Result CoreReply JournalFull) (P : CoreReply → Type 0) (Q : JournalFull → Type 0) (old new : D)
    → MatchResult r P (λ f. Q f × (new ≡ old)) → MatchResult r P (λ f. Q f × (drawn new ≡ drawn old))
dice_stay drawn (Ok x) P Q old new h = h
dice_stay drawn (Err f) P Q old new h = (h.0, ap drawn h.1)

-- ---- turns one after the other
-- an actor that has ended stays as it is
pub stays_over : (word : List ℕ → ℕ → ℕ → ℕ → ℕ) (shape : Shape) (capacity : ℕ) (h : List Entry) (before : Seen) (ending : Ending) → before.ending ≡ Some ending
    → TakesTurns word shape capacity (λ m. m ∷ []) h h before before
stays_over word shape capacity h before ending ended =
    takes_by word shape capacity (λ m. m ∷ []) h h before before (λ b r w acting.
    let a = act b before r w in
    let over = subst (Stands word capacity (length h) (entries_of a h) a) ended acting.stands in
    record {
      act = a;
      same = refl;
      now_is = refl;
      acting = acting;
      turns = λ m fits.
          let is : m ≡ actor_of word a = subst (λ o. Fits word a o m) ended fits in
          (fits, subst (λ x. AreTurns shape capacity (x ∷ []) h h) (sym is) (h, idle_turn shape capacity (actor_of word a) h (over.idle h refl (as_long (length h))), refl));
      added = [];
      grown = sym (append-nil h);
      ours = All-nil (λ (e : Entry). IsCallAt (place_of a) e.call);
    })
  where
    as_long : (n : ℕ) → n ≤ n
    as_long n = omega arith

pub takes_then : (word : List ℕ → ℕ → ℕ → ℕ → ℕ) (shape : Shape) (capacity : ℕ) (one two : Actor → List Actor) (h k l : List Entry) (before mid now : Seen)
    → TakesTurns word shape capacity one h k before mid → TakesTurns word shape capacity two k l mid now
    → TakesTurns word shape capacity (λ m. one m ++ two m) h l before now
takes_then word shape capacity one two h k l before mid now first second a e acting =
    let f = first a e acting in
    let g = second f.act f.now_is f.acting in
    record {
      act = g.act;
      same = g.same ∙ f.same;
      now_is = g.now_is;
      acting = g.acting;
      turns = λ m fits.
          let y = g.turns m fits in
          let x = f.turns m y.0 in
          (x.0, turns_on shape capacity (one m) (two m) h k l x.1 y.1);
      added = f.added ++ g.added;
      grown = g.grown ∙ ap (λ (x : List Entry). x ++ g.added) f.grown ∙ append_assoc h f.added g.added;
      ours = All-append (λ (x : Entry). IsCallAt (place_of a) x.call) f.added g.added f.ours
          (subst (λ (s : Seen). All (λ (x : Entry). IsCallAt s.session.connection x.call) g.added) f.same g.ours);
    }

pub has_acted : (word : List ℕ → ℕ → ℕ → ℕ → ℕ) (shape : Shape) (capacity : ℕ) (takers : Actor → List Actor) (h k : List Entry) (before now : Seen)
    → HasActed word capacity h before → TakesTurns word shape capacity takers h k before now → HasActed word capacity k now
has_acted word shape capacity takers h k before now acted takes =
    let t = takes acted.act acted.now_is acted.acting in
    record { act = t.act; now_is = t.now_is; acting = t.acting }

same_takers : (word : List ℕ → ℕ → ℕ → ℕ → ℕ) (shape : Shape) (capacity : ℕ) (one two : Actor → List Actor) (h k : List Entry) (before now : Seen) → ((m : Actor) → one m ≡ two m)
    → TakesTurns word shape capacity one h k before now → TakesTurns word shape capacity two h k before now
same_takers word shape capacity one two h k before now same takes a e acting =
    let t = takes a e acting in
    record {
      act = t.act;
      same = t.same;
      now_is = t.now_is;
      acting = t.acting;
      turns = λ m fits. let x = t.turns m fits in (x.0, subst (λ (ms : List Actor). AreTurns shape capacity ms h k) (same m) x.1);
      added = t.added;
      grown = t.grown;
      ours = t.ours;
    }

replicate_push : (t : ℕ) (m : Actor) → replicate t m ++ m ∷ [] ≡ replicate (suc t) m
replicate_push zero m = refl
replicate_push (suc t) m = ap (λ (ms : List Actor). m ∷ ms) (replicate_push t m)

-- no turn yet, one turn more, and as many as there may be entries once it has ended
pub begins : (word : List ℕ → ℕ → ℕ → ℕ → ℕ) (shape : Shape) (capacity : ℕ) (h : List Entry) (before : Seen) → TakesTurns word shape capacity (replicate 0) h h before before
begins word shape capacity h before a e acting = record {
  act = a;
  same = refl;
  now_is = e;
  acting = acting;
  turns = λ m fits. (fits, refl);
  added = [];
  grown = sym (append-nil h);
  ours = All-nil (λ (x : Entry). IsCallAt (place_of a) x.call);
}

pub once_more : (word : List ℕ → ℕ → ℕ → ℕ → ℕ) (shape : Shape) (capacity t : ℕ) (h k l : List Entry) (before mid now : Seen)
    → TakesTurns word shape capacity (replicate t) h k before mid → TakesTurns word shape capacity (λ m. m ∷ []) k l mid now
    → TakesTurns word shape capacity (replicate (suc t)) h l before now
once_more word shape capacity t h k l before mid now first second =
    same_takers word shape capacity (λ m. replicate t m ++ m ∷ []) (replicate (suc t)) h l before now (replicate_push t)
    (takes_then word shape capacity (replicate t) (λ m. m ∷ []) h k l before mid now first second)

pub to_the_end : (word : List ℕ → ℕ → ℕ → ℕ → ℕ) (shape : Shape) (capacity t : ℕ) (h k : List Entry) (before now : Seen) (ending : Ending) → now.ending ≡ Some ending → length k ≤ capacity
    → TakesTurns word shape capacity (replicate t) h k before now → TakesTurns word shape capacity (replicate capacity) h k before now
to_the_end word shape capacity t h k before now ending ended few takes a e acting =
    let f = takes a e acting in
    let over : f.act.after.ending ≡ Some ending = ap (λ (s : Seen). s.ending) f.now_is ∙ ended in
    let idle = (subst (Stands word capacity (length k) (entries_of f.act k) f.act) over f.acting.stands).idle k refl (as_long (length k)) in
    record {
      act = f.act;
      same = f.same;
      now_is = f.now_is;
      acting = f.acting;
      turns = λ m fits.
          let x = f.turns m fits in
          let is : m ≡ actor_of word f.act = subst (λ o. Fits word f.act o m) over fits in
          (x.0, turns_to_end shape capacity m k (ap (λ (y : Actor). turn_call capacity y k) is ∙ idle) t h x.1 capacity (omega (arith, few)));
      added = f.added;
      grown = f.grown;
      ours = f.ours;
    }
  where
    as_long : (n : ℕ) → n ≤ n
    as_long n = omega arith

-- a number that falls with each turn: none is due where the actor has ended
abbrev pub turns_due : Option Ending → State → ℕ
turns_due None s = steps_left s + 1
turns_due (Some ending) s = 0

-- the same where it has ended in some way
abbrev nobody : Option Ending
nobody = None

pub to_its_end : (word : List ℕ → ℕ → ℕ → ℕ → ℕ) (shape : Shape) (capacity t : ℕ) (h k : List Entry) (before now : Seen) → IsSome now.ending → length k ≤ capacity
    → TakesTurns word shape capacity (replicate t) h k before now → TakesTurns word shape capacity (replicate capacity) h k before now
to_its_end word shape capacity t h k before now some few takes = by now.ending refl some
  where
    no : IsSome nobody → ⊥
    no h = cc

    by : (o : Option Ending) → now.ending ≡ o → IsSome o → TakesTurns word shape capacity (replicate capacity) h k before now
    by None e never = absurd (no never)
    by (Some ending) e some = to_the_end word shape capacity t h k before now ending e few takes

-- the same for a core whose settings are as they were
pub takes_at : (word : List ℕ → ℕ → ℕ → ℕ → ℕ) (takers : Actor → List Actor) (first now : Journal) (l : List Entry) (before after : Seen)
    → now ≡ record first { entries = now.entries } → TakesTurns word now.shape now.capacity takers now.entries l before after
    → TakesTurns word first.shape first.capacity takers now.entries l before after
takes_at word takers first now l before after same takes =
    subst (λ (j : Journal). TakesTurns word j.shape j.capacity takers now.entries l before after) same takes

-- the same for turns up to the end, of which there are as many as entries
pub ends_at : (word : List ℕ → ℕ → ℕ → ℕ → ℕ) (first now : Journal) (l : List Entry) (before after : Seen)
    → now ≡ record first { entries = now.entries } → TakesTurns word now.shape now.capacity (replicate now.capacity) now.entries l before after
    → TakesTurns word first.shape first.capacity (replicate first.capacity) now.entries l before after
ends_at word first now l before after same takes =
    subst (λ (j : Journal). TakesTurns word j.shape j.capacity (replicate j.capacity) now.entries l before after) same takes
