-- A session over a core, call after call.
use Rattle.std.proofs.Common.{◌≡◌, ℕ, ◌+◌, ◌<◌, List, [], ◌∷◌, ◌++◌, length, Option, Some, None, Result, Ok, Err, Bool, false, refl, sym, ap, ◌∙◌, arith, subst, inr}
use Rattle.std.specs.Prelude.{MatchResult, OnOk}
use Rattle.std.proofs.lemmas.List.{append-nil, append_assoc}
use Rattle.cqc_model.specs.declared.Command.{Command}
use Rattle.network_model.specs.declared.Call.{Call}
use Rattle.network_model.specs.declared.Entry.{Entry}
use Rattle.network_model.specs.declared.CoreReply.{CoreReply}
use Rattle.network_model.specs.declared.JournalFull.{JournalFull}
use Rattle.cqc_model.specs.declared.Fault.TheVariants as fault
use Rattle.cqc_model.specs.declared.Reply.TheVariants as reply
use Rattle.session_model.specs.declared.Ending.{Ending}
use Rattle.session_model.specs.declared.Ending.TheVariants.{Clean, Cut, ReadFault, WriteFault, Full, Spent}
use Rattle.cqc_model.specs.Wire.{spell}
use Rattle.session_model.specs.Walk.{spell_core}
use Rattle.cqc_model.specs.Plan.{messages, rest, begins_whole}
use Rattle.session_model.specs.Walk.{Connection, Said, Work, between, working, call_of, walk, Leads}
use Rattle.session_model.specs.Speaks.{Speaks, CutAt, Prefix, calls_of, replies_of, but_last}
use Rattle.session_model.proofs.Leading.{leads_nowhere, said_so_far, left_so_far, work_after}
use Rattle.session_model.proofs.Speaking.{but_last_push, calls_push, replies_push, leads_more, leads_asked, due_text, speaks_by, broken_speaks, asked_step}
use Rattle.qron_link.specs.Outside.{WasRead, WasWritten}
use Rattle.qron_link.proofs.Known.{read_none, written_none, written_on}
use Rattle.cqc_session.specs.State.{State, Waits}
use Rattle.cqc_session.specs.Session.{Spoke, Paused, Halted, PartAs, PartSaid, Resumes, GoesOn, AnswerEnds}
use Rattle.cqc_session.specs.Serving.{Added, WasFull, Serving, Served}
use Rattle.qron_link.proofs.Fills.{took_on}

-- nothing has come yet
pub begins : (connection : Connection) (cap now : ℕ) (left held : Option (List ℕ)) (old : List Entry) (w : Work) → w ≡ between → now ≡ cap
    → Serving connection cap left left held held now old old w
begins connection cap now left held old w e n = record {
  taken = [];
  given = [];
  entries = [];
  took = record { read = read_none left left refl; paid = omega arith };
  gave = written_none held held refl;
  added = sym (append-nil old);
  leads = subst (λ (x : Work). Leads connection between [] [] [] [] x) (sym e) (leads_nowhere connection between);
  before = [];
  earlier = ([], refl);
  last = λ h. absurd (omega arith);
}

-- a poll
pub polled : (connection : Connection) (cap : ℕ) (left mid rest held said wrote : Option (List ℕ)) (before now : ℕ) (old new : List Entry) (v w : Work)
    → Serving connection cap left mid held said before old new v → Spoke connection v mid rest said wrote before now w
    → Serving connection cap left rest held wrote now old new w
polled connection cap left mid rest held said wrote before now old new v w s t = record {
  taken = s.taken ++ t.taken;
  given = s.given ++ t.given;
  entries = s.entries;
  took = took_on _ _ _ _ _ _ _ _ s.took t.took;
  gave = written_on _ _ _ _ _ s.gave t.gave;
  added = s.added;
  leads = leads_more connection between v w _ _ _ _ _ _ s.leads t.leads;
  before = s.before;
  earlier = (s.earlier.0 ++ t.given, sym (append_assoc s.before s.earlier.0 t.given) ∙ ap (λ x. x ++ t.given) s.earlier.1);
  last = λ h later.
      ap (λ (b : List ℕ). (walk connection (messages b) (replies_of (but_last s.entries))).text) (append_assoc s.taken t.taken later)
      ∙ s.last h (t.taken ++ later);
}

-- a reply
pub replied : (connection : Connection) (cap : ℕ) (left rest held said wrote : Option (List ℕ)) (now : ℕ) (old mid new : List Entry) (v w : Work) (call : Call) (r : CoreReply)
    (others : List Command) (notify : Bool)
    → Serving connection cap left rest held said now old mid v → v ≡ working call.app (call.command ∷ others) notify
    → Added call r mid new → Resumes connection v call said wrote r w → Serving connection cap left rest held wrote now old new w
replied connection cap left rest held said wrote now old mid new v w call r others notify s waits add t =
    let e : Entry = record { call = call; word = add.word; reply = r } in
    record {
      taken = s.taken;
      given = s.given ++ spell_core call.app r;
      entries = s.entries ++ e ∷ [];
      took = s.took;
      gave = written_on _ _ _ _ _ s.gave t.gave;
      added = add.is ∙ ap (λ (x : List Entry). x ++ e ∷ []) s.added ∙ append_assoc old s.entries (e ∷ []);
      leads =
          subst (λ (k : List Call). Leads connection between s.taken k (replies_of (s.entries ++ e ∷ [])) (s.given ++ spell_core call.app r) w) (sym (calls_push s.entries e))
          (subst (λ (k : List CoreReply). Leads connection between s.taken (calls_of s.entries ++ call ∷ []) k (s.given ++ spell_core call.app r) w) (sym (replies_push s.entries e))
          (leads_asked connection between v w _ _ _ _ _ _ _ s.leads t.leads));
      before = s.given;
      earlier = (spell_core call.app r, refl);
      last = λ h later.
          ap (λ (es : List Entry). (walk connection (messages (s.taken ++ later)) (replies_of es)).text) (but_last_push s.entries e)
          ∙ ap (λ (x : Said). x.text) (due_text connection call others notify v s.taken (calls_of s.entries) (replies_of s.entries) s.given later s.leads waits)
          ∙ append-nil s.given;
    }

pub paused_speaks : (connection : Connection) (cap : ℕ) (rest_left : Option (List ℕ)) (es : List Entry) (seen capacity : ℕ) (b part out : List ℕ) (now : ℕ) (ending : Ending)
    → Leads connection between b (calls_of es) (replies_of es) out between → begins_whole part ≡ false → now + length (b ++ part) ≡ cap
    → PartAs cap rest_left now part ending
    → Speaks (record { connection = connection; cap = cap; left = rest_left; entries = seen; capacity = capacity }) (b ++ part) es out ending
paused_speaks connection cap rest_left es seen capacity b part out now ending f none paid why =
    by_ending ending why
  where
    said : walk connection (messages (b ++ part)) (replies_of es) ≡ record { asked = calls_of es; text = out; due = None }
    said = said_so_far connection b part (calls_of es) (replies_of es) out f none

    rests : rest (b ++ part) ≡ part
    rests = left_so_far connection b part (calls_of es) (replies_of es) out f none

    asked : calls_of es ≡ calls_of es ++ []
    asked = sym (append-nil (calls_of es))

    by_ending : (e : Ending) → PartAs cap rest_left now part e
        → Speaks (record { connection = connection; cap = cap; left = rest_left; entries = seen; capacity = capacity }) (b ++ part) es out e
    by_ending Clean (empty, end) = speaks_by _ (b ++ part) out es _ Clean said asked (refl, rests ∙ empty, end, refl)
    by_ending (Cut have need) (some, end, at) =
        speaks_by _ (b ++ part) out es _ (Cut have need) said asked
        (refl, subst (λ (x : List ℕ). 0 < length x) (sym rests) some, end, refl, subst (λ (x : List ℕ). CutAt x have need) (sym rests) at)
    by_ending ReadFault why = speaks_by _ (b ++ part) out es _ ReadFault said asked (refl, refl)
    by_ending (Spent bytes) (spent, is) = speaks_by _ (b ++ part) out es _ (Spent bytes) said asked (refl, omega arith, is, refl)
    by_ending WriteFault never = absurd never
    by_ending (Full entries) never = absurd never

paused_ends : (connection : Connection) (cap : ℕ) (left mid rest_left held said wrote : Option (List ℕ)) (before now : ℕ) (old new : List Entry) (seen capacity : ℕ) (v : Work) (ending : Ending)
    → Serving connection cap left mid held said before old new v → Paused connection cap v mid rest_left said wrote before now ending
    → Served connection cap left rest_left held wrote old new seen capacity ending
paused_ends connection cap left mid rest_left held said wrote before now old new seen capacity v ending s t =
    let took = took_on _ _ _ _ _ _ _ _ s.took t.took in
    let one : s.taken ++ (t.taken ++ t.part) ≡ (s.taken ++ t.taken) ++ t.part = sym (append_assoc s.taken t.taken t.part) in
    record {
      read = (s.taken ++ t.taken) ++ t.part;
      written = s.given ++ t.given;
      entries = s.entries;
      took = subst (λ (x : List ℕ). WasRead left x rest_left) one took.read;
      few = omega (arith, ap (λ (x : List ℕ). now + length x) (sym one) ∙ took.paid);
      gave = written_on _ _ _ _ _ s.gave t.gave;
      added = s.added;
      speaks = paused_speaks connection cap rest_left s.entries seen capacity (s.taken ++ t.taken) t.part (s.given ++ t.given) now ending
          (leads_more connection between v between _ _ _ _ _ _ s.leads t.leads) t.none (ap (λ (x : List ℕ). now + length x) (sym one) ∙ took.paid) t.why;
    }

-- a poll that ended
pub halts : (connection : Connection) (cap : ℕ) (left mid rest_left held said wrote : Option (List ℕ)) (before now : ℕ) (old new : List Entry) (seen capacity : ℕ) (v : Work) (ending : Ending)
    → Serving connection cap left mid held said before old new v → Halted connection cap v mid rest_left said wrote before now ending
    → Served connection cap left rest_left held wrote old new seen capacity ending
halts connection cap left mid rest_left held said wrote before now old new seen capacity v Clean s t = paused_ends connection cap left mid rest_left held said wrote before now old new seen capacity v Clean s t
halts connection cap left mid rest_left held said wrote before now old new seen capacity v (Cut have need) s t = paused_ends connection cap left mid rest_left held said wrote before now old new seen capacity v (Cut have need) s t
halts connection cap left mid rest_left held said wrote before now old new seen capacity v ReadFault s t = paused_ends connection cap left mid rest_left held said wrote before now old new seen capacity v ReadFault s t
halts connection cap left mid rest_left held said wrote before now old new seen capacity v (Spent bytes) s t = paused_ends connection cap left mid rest_left held said wrote before now old new seen capacity v (Spent bytes) s t
halts connection cap left mid rest_left held said wrote before now old new seen capacity v (Full entries) s t = absurd t
halts connection cap left mid rest_left held said wrote before now old new seen capacity v WriteFault s t =
    record {
      read = s.taken ++ t.taken;
      written = s.given ++ t.given;
      entries = s.entries;
      took = (took_on _ _ _ _ _ _ _ _ s.took t.took).read;
      few = omega (arith, (took_on _ _ _ _ _ _ _ _ s.took t.took).paid);
      gave = written_on _ _ _ _ _ s.gave t.gave;
      added = s.added;
      speaks = broken_speaks connection cap rest_left s.entries seen capacity (s.taken ++ t.taken) (s.given ++ t.whole) (s.given ++ t.given) between
          (leads_more connection between v between _ _ _ _ _ _ s.leads t.leads)
          (t.short.0, t.short.1, append_assoc s.given t.given t.short.0 ∙ ap (λ x. s.given ++ x) t.short.2)
          (λ h. subst (λ (x : List ℕ). Prefix x (s.given ++ t.given)) (sym (s.last h t.taken))
          (s.earlier.0 ++ t.given, sym (append_assoc s.before s.earlier.0 t.given) ∙ ap (λ x. x ++ t.given) s.earlier.1));
    }

-- A call that was answered by the end of the session.
pub record Asking (connection : Connection) (cap : ℕ) (left rest_left held said : Option (List ℕ)) (now : ℕ) (old mid : List Entry) (v : Work) (call : Call) : Type 0 where
  pub serving : Serving connection cap left rest_left held said now old mid v
  pub others : List Command
  pub notify : Bool
  pub work : v ≡ working call.app (call.command ∷ others) notify
  pub call_is : call ≡ call_of connection call.app call.command

-- its reply was not written whole
pub reply_broke : (connection : Connection) (cap : ℕ) (left rest_left held said wrote : Option (List ℕ)) (now : ℕ) (old mid new : List Entry) (seen capacity : ℕ) (v : Work) (call : Call) (r : CoreReply)
    → Asking connection cap left rest_left held said now old mid v call → Added call r mid new → PartSaid (spell_core call.app r) said wrote
    → Served connection cap left rest_left held wrote old new seen capacity WriteFault
reply_broke connection cap left rest_left held said wrote now old mid new seen capacity v call r a add t =
    let s = a.serving in
    let e : Entry = record { call = call; word = add.word; reply = r } in
    let leads = leads_asked connection between v _ _ _ _ _ _ _ _ s.leads (asked_step connection v call a.others a.notify r a.work a.call_is) in
    record {
      read = s.taken;
      written = s.given ++ t.given;
      entries = s.entries ++ e ∷ [];
      took = s.took.read;
      few = omega (arith, s.took.paid);
      gave = written_on _ _ _ _ _ s.gave t.gave;
      added = add.is ∙ ap (λ (x : List Entry). x ++ e ∷ []) s.added ∙ append_assoc old s.entries (e ∷ []);
      speaks = broken_speaks connection cap rest_left (s.entries ++ e ∷ []) seen capacity s.taken (s.given ++ spell_core call.app r) (s.given ++ t.given)
          (work_after call.app a.others a.notify r)
          (subst (λ (k : List Call). Leads connection between s.taken k (replies_of (s.entries ++ e ∷ [])) (s.given ++ spell_core call.app r) (work_after call.app a.others a.notify r)) (sym (calls_push s.entries e))
          (subst (λ (k : List CoreReply). Leads connection between s.taken (calls_of s.entries ++ call ∷ []) k (s.given ++ spell_core call.app r) (work_after call.app a.others a.notify r)) (sym (replies_push s.entries e))
          leads))
          (t.short.0, t.short.1, append_assoc s.given t.given t.short.0 ∙ ap (λ x. s.given ++ x) t.short.2)
          (λ h. subst (λ (x : List ℕ). Prefix x (s.given ++ t.given)) (sym (ap (λ (b : List ℕ). (walk connection (messages b) (replies_of (but_last (s.entries ++ e ∷ [])))).text) (sym (append-nil s.taken))
          ∙ ap (λ (es : List Entry). (walk connection (messages (s.taken ++ [])) (replies_of es)).text) (but_last_push s.entries e)
          ∙ ap (λ (x : Said). x.text) (due_text connection call a.others a.notify v s.taken (calls_of s.entries) (replies_of s.entries) s.given [] s.leads a.work)
          ∙ append-nil s.given)) (t.given, refl));
    }

-- the journal was full
module _ (connection : Connection) (cap : ℕ) (left rest_left held said wrote : Option (List ℕ)) (now : ℕ) (old mid new : List Entry) (seen capacity : ℕ) (v : Work) (call : Call)
    (full : JournalFull) (a : Asking connection cap left rest_left held said now old mid v call) (w : WasFull full capacity seen mid new) where
  due_said : walk connection (messages a.serving.taken) (replies_of a.serving.entries)
      ≡ record { asked = calls_of a.serving.entries ++ call_of connection call.app call.command ∷ []; text = a.serving.given ++ []; due = Some (call_of connection call.app call.command) }
  due_said =
      ap (λ (b : List ℕ). walk connection (messages b) (replies_of a.serving.entries)) (sym (append-nil a.serving.taken))
      ∙ due_text connection call a.others a.notify v a.serving.taken (calls_of a.serving.entries) (replies_of a.serving.entries) a.serving.given [] a.serving.leads a.work

  found_full : seen ≡ capacity
  found_full = w.full

  pub full_ends : (count : ℕ) → count ≡ full.entries → WasWritten said (spell call.app (reply.Error fault.General)) wrote
      → Served connection cap left rest_left held wrote old new seen capacity (Full count)
  full_ends count is gave = record {
    read = a.serving.taken;
    written = a.serving.given ++ spell call.app (reply.Error fault.General);
    entries = a.serving.entries;
    took = a.serving.took.read;
    few = omega (arith, a.serving.took.paid);
    gave = written_on _ _ _ _ _ a.serving.gave gave;
    added = w.stays ∙ a.serving.added;
    speaks = speaks_by _ a.serving.taken _ a.serving.entries _ (Full count) due_said refl
        (ap (λ x. x ++ spell call.app (reply.Error fault.General)) (sym (append-nil a.serving.given)), found_full, is ∙ w.entries);
  }

  pub full_broke : PartSaid (spell call.app (reply.Error fault.General)) said wrote → Served connection cap left rest_left held wrote old new seen capacity WriteFault
  full_broke t = record {
    read = a.serving.taken;
    written = a.serving.given ++ t.given;
    entries = a.serving.entries;
    took = a.serving.took.read;
    few = omega (arith, a.serving.took.paid);
    gave = written_on _ _ _ _ _ a.serving.gave t.gave;
    added = w.stays ∙ a.serving.added;
    speaks = speaks_by _ a.serving.taken _ a.serving.entries _ WriteFault due_said refl (
      inr (
        found_full,
        (
          t.short.0,
          t.short.1,
          append_assoc a.serving.given t.given t.short.0 ∙ ap (λ x. a.serving.given ++ x) t.short.2
              ∙ ap (λ x. x ++ spell call.app (reply.Error fault.General)) (sym (append-nil a.serving.given)),
        ),
      ),
      λ h. (
        a.serving.earlier.0 ++ t.given,
        ap (λ x. x ++ (a.serving.earlier.0 ++ t.given))
            (ap (λ (b : List ℕ). (walk connection (messages b) (replies_of (but_last a.serving.entries))).text) (sym (append-nil a.serving.taken)) ∙ a.serving.last h [])
            ∙ sym (append_assoc a.serving.before a.serving.earlier.0 t.given) ∙ ap (λ x. x ++ t.given) a.serving.earlier.1,
      ),
    );
  }

-- what the core did with a call
abbrev pub CoreDid : Call → Result CoreReply JournalFull → ℕ → ℕ → List Entry → List Entry → Type 0
CoreDid call done seen capacity mid new = MatchResult done (λ r. Added call r mid new) (λ e. WasFull e capacity seen mid new)

answer_ends : (connection : Connection) (cap : ℕ) (left rest_left held said wrote : Option (List ℕ)) (now : ℕ) (old mid new : List Entry) (seen capacity : ℕ) (v : Work) (call : Call)
    (done : Result CoreReply JournalFull) (ending : Ending)
    → Asking connection cap left rest_left held said now old mid v call → CoreDid call done seen capacity mid new → AnswerEnds ending call.app done said wrote
    → Served connection cap left rest_left held wrote old new seen capacity ending
answer_ends connection cap left rest_left held said wrote now old mid new seen capacity v call (Ok r) WriteFault a did e = reply_broke connection cap left rest_left held said wrote now old mid new seen capacity v call r a did e
answer_ends connection cap left rest_left held said wrote now old mid new seen capacity v call (Err f) WriteFault a did e = full_broke connection cap left rest_left held said wrote now old mid new seen capacity v call f a did e
answer_ends connection cap left rest_left held said wrote now old mid new seen capacity v call (Err f) (Full count) a did e = full_ends connection cap left rest_left held said wrote now old mid new seen capacity v call f a did count e.0 e.1
answer_ends connection cap left rest_left held said wrote now old mid new seen capacity v call (Ok r) (Full count) a did e = absurd e
answer_ends connection cap left rest_left held said wrote now old mid new seen capacity v call done Clean a did e = absurd e
answer_ends connection cap left rest_left held said wrote now old mid new seen capacity v call done (Cut have need) a did e = absurd e
answer_ends connection cap left rest_left held said wrote now old mid new seen capacity v call done ReadFault a did e = absurd e
answer_ends connection cap left rest_left held said wrote now old mid new seen capacity v call done (Spent bytes) a did e = absurd e

answer_goes : (connection : Connection) (cap : ℕ) (left rest_left held said wrote : Option (List ℕ)) (now : ℕ) (old mid new : List Entry) (seen capacity : ℕ) (v w : Work) (call : Call)
    (done : Result CoreReply JournalFull)
    → Asking connection cap left rest_left held said now old mid v call → CoreDid call done seen capacity mid new → GoesOn connection v call said wrote done w
    → Serving connection cap left rest_left held wrote now old new w
answer_goes connection cap left rest_left held said wrote now old mid new seen capacity v w call (Ok r) a did e =
    replied connection cap left rest_left held said wrote now old mid new v w call r a.others a.notify a.serving a.work did e
answer_goes connection cap left rest_left held said wrote now old mid new seen capacity v w call (Err f) a did e = absurd e

-- The same between states of a session.
poll_goes : (connection : Connection) (cap : ℕ) (left mid rest_left held said wrote : Option (List ℕ)) (s t : State) (old new : List Entry)
    → Serving connection cap left mid held said s.budget old new s.work → s.connection ≡ connection
    → Spoke s.connection s.work mid rest_left said wrote s.budget t.budget t.work → Serving connection cap left rest_left held wrote t.budget old new t.work
poll_goes connection cap left mid rest_left held said wrote s t old new f same spoke =
    polled connection cap left mid rest_left held said wrote s.budget t.budget old new s.work t.work f
    (subst (λ (p : Connection). Spoke p s.work mid rest_left said wrote s.budget t.budget t.work) same spoke)

pub poll_ends : (connection : Connection) (cap : ℕ) (left mid rest_left held said wrote : Option (List ℕ)) (s t : State) (old new : List Entry) (seen capacity : ℕ) (ending : Ending)
    → Serving connection cap left mid held said s.budget old new s.work → s.connection ≡ connection → s.cap ≡ cap
    → Halted s.connection s.cap s.work mid rest_left said wrote s.budget t.budget ending → Served connection cap left rest_left held wrote old new seen capacity ending
poll_ends connection cap left mid rest_left held said wrote s t old new seen capacity ending f same cap_is halted =
    halts connection cap left mid rest_left held said wrote s.budget t.budget old new seen capacity s.work ending f
    (subst (λ (n : ℕ). Halted connection n s.work mid rest_left said wrote s.budget t.budget ending) cap_is
    (subst (λ (p : Connection). Halted p s.cap s.work mid rest_left said wrote s.budget t.budget ending) same halted))

asking : (connection : Connection) (cap : ℕ) (left rest_left held said : Option (List ℕ)) (t : State) (old mid : List Entry) (call : Call)
    → Serving connection cap left rest_left held said t.budget old mid t.work → t.connection ≡ connection → Waits call t
    → Asking connection cap left rest_left held said t.budget old mid t.work call
asking connection cap left rest_left held said t old mid call f same w = record {
  serving = f;
  others = w.others;
  notify = w.notify;
  work = w.work;
  call_is = w.call_is ∙ ap (λ (p : Connection). call_of p call.app call.command) same;
}

served_at : (connection : Connection) (cap : ℕ) (left rest_left later held wrote : Option (List ℕ)) (old new : List Entry) (seen m n : ℕ) (ending : Ending)
    → later ≡ rest_left → m ≡ n → Served connection cap left rest_left held wrote old new seen m ending → Served connection cap left later held wrote old new seen n ending
served_at connection cap left rest_left later held wrote old new seen m n ending e f s =
    subst (λ (k : ℕ). Served connection cap left later held wrote old new seen k ending) f
    (subst (λ (x : Option (List ℕ)). Served connection cap left x held wrote old new seen m ending) (sym e) s)

serving_at : (connection : Connection) (cap : ℕ) (left rest_left later held wrote : Option (List ℕ)) (m n : ℕ) (old new : List Entry) (w : Work)
    → later ≡ rest_left → n ≡ m → Serving connection cap left rest_left held wrote m old new w → Serving connection cap left later held wrote n old new w
serving_at connection cap left rest_left later held wrote m n old new w e f s =
    subst (λ (k : ℕ). Serving connection cap left later held wrote k old new w) (sym f)
    (subst (λ (x : Option (List ℕ)). Serving connection cap left x held wrote m old new w) (sym e) s)

-- One round: s asked a call and became t, and the core answered it. A reply leaves the bytes that are left.
module _ (connection : Connection) (cap : ℕ) (left mid rest_left later held said gave wrote : Option (List ℕ)) (s t : State) (old between_entries new : List Entry)
    (seen capacity : ℕ) (call : Call) (done : Result CoreReply JournalFull) (stays : later ≡ rest_left)
    (so_far : Serving connection cap left mid held said s.budget old between_entries s.work) (same : s.connection ≡ connection) (kept : t.connection ≡ s.connection)
    (turn : Spoke s.connection s.work mid rest_left said gave s.budget t.budget t.work × Waits call t) (did : CoreDid call done seen capacity between_entries new) where
  asks : Asking connection cap left rest_left held gave t.budget old between_entries t.work call
  asks =
      asking connection cap left rest_left held gave t old between_entries call
      (poll_goes connection cap left mid rest_left held said gave s t old between_entries so_far same turn.0) (kept ∙ same) turn.1

  pub round_ends : (n : ℕ) (ending : Ending) → capacity ≡ n → AnswerEnds ending call.app done gave wrote
      → Served connection cap left later held wrote old new seen n ending
  round_ends n ending full e =
      served_at connection cap left rest_left later held wrote old new seen capacity n ending stays full
      (answer_ends connection cap left rest_left held gave wrote t.budget old between_entries new seen capacity t.work call done ending asks did e)

  pub round_goes : (now : ℕ) (w : Work) → now ≡ t.budget → GoesOn t.connection t.work call gave wrote done w
      → Serving connection cap left later held wrote now old new w
  round_goes now w paid e =
      serving_at connection cap left rest_left later held wrote t.budget now old new w stays paid
      (answer_goes connection cap left rest_left held gave wrote t.budget old between_entries new seen capacity t.work w call done asks did
      (subst (λ (p : Connection). GoesOn p t.work call gave wrote done w) (kept ∙ same) e))

-- a session that goes on has had a reply
pub goes_ok : {P : Type 0} (connection : Connection) (old : Work) (call : Call) (held wrote : Option (List ℕ)) (done : Result CoreReply JournalFull) (new : Work)
    → OnOk done P → GoesOn connection old call held wrote done new → P
goes_ok connection old call held wrote (Ok r) new p goes = p
goes_ok connection old call held wrote (Err e) new p goes = absurd goes
