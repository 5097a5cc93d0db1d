-- One call of a connection over a core that threads share.
-- Main results: `did_step`, `worked_one`, `words_fit`.
use Rattle.std.proofs.Common.{◌≡◌, ℕ, ◌+◌, ◌<◌, ◌≤◌, ◌==◌, ◌^◌, ◌-◌, List, [], ◌∷◌, ◌++◌, length, Option, None, Some, true, false, true≢false, cond, Result, Ok, Err, refl, sym, ap, subst, ◌∙◌, arith, append_assoc}
use Rattle.std.specs.Prelude.{MatchResult, MatchOption, OnOk, is_err, filter, if◌then◌else◌}
use Rattle.std.proofs.lemmas.List.{append-nil}
use Rattle.std.proofs.lemmas.List.Elements.{filter-append}
use Rattle.std.proofs.lemmas.List.Sums.{sum_by-append}
use mathlib.Core.List.{IsPrefix}
use Rattle.state_model.proofs.Booleans.{eq_true}
use Rattle.cqc_model.specs.declared.Fault.TheVariants.{Timeout}
use Rattle.network_model.specs.Network.{Shape}
use Rattle.network_model.specs.History.{seat_entries}
use Rattle.network_model.specs.declared.Call.{Call}
use Rattle.network_model.specs.declared.CoreReply.{CoreReply}
use Rattle.network_model.specs.declared.CoreReply.TheVariants.{Error}
use Rattle.network_model.specs.declared.Entry.{Entry}
use Rattle.network_model.specs.declared.JournalFull.{JournalFull}
use Rattle.session_model.proofs.Wording.{worded_more, count_more}
use Rattle.qron_link.specs.Outside.{Rose}
use Rattle.cqc_session.specs.Serving.{Added, WasFull}
use Rattle.cqc_session.specs.SoloLaws.{word_is}
use Rattle.commit_journal.specs.Keeping.{own_count}
use Rattle.commit_journal.specs.Views.{Worker}
use Rattle.quantum_hub.specs.Calls.{IsExecuted, FoundFull, IsAnswer}
use Rattle.cqc_server.specs.Shared.{AtWork, own, is_timeout, timeouts, WordedBehind, GaveUpEnough, HasWorked, AreNextWorded}

-- ---- the entries of a seat
none_of : (es : List Entry) → length es ≡ 0 → es ≡ []
none_of [] none = refl
none_of (e ∷ es) none = absurd (omega (arith, none))

own_stays : (seat : ℕ) (h between : List Entry) → own_count seat between ≡ 0 → seat_entries seat (h ++ between) ≡ seat_entries seat h
unfolding seat_entries
own_stays seat h between none =
    filter-append (λ e. (Entry.call e).seat == seat) h between
    ∙ ap (λ (es : List Entry). filter (λ e. (Entry.call e).seat == seat) h ++ es) (none_of (filter (λ e. (Entry.call e).seat == seat) between) none)
    ∙ append-nil (filter (λ e. (Entry.call e).seat == seat) h)

own_push : (seat : ℕ) (h : List Entry) (e : Entry) → e.call.seat ≡ seat → seat_entries seat (h ++ e ∷ []) ≡ seat_entries seat h ++ e ∷ []
unfolding seat_entries
own_push seat h e is =
    filter-append (λ x. (Entry.call x).seat == seat) h (e ∷ [])
    ∙ ap (λ b. filter (λ x. (Entry.call x).seat == seat) h ++ cond b (e ∷ []) []) (eq_true e.call.seat seat is)

-- what a call did to the entries of its seat
own_executed : (shape : Shape) (call : Call) (reply : CoreReply) (next before now : ℕ) (old new : Worker) → call.seat ≡ old.seat
    → (x : IsExecuted shape call reply next before now old new) → own new ≡ own old ++ record { call = call; word = x.word; reply = reply } ∷ []
own_executed shape call reply next before now old new mine x =
    let e : Entry = record { call = call; word = x.word; reply = reply } in
    ap (λ s. seat_entries s new.seen) x.called.seat ∙ ap (λ h. seat_entries old.seat h) x.called.seen
    ∙ own_push old.seat (old.seen ++ x.called.between) e mine ∙ ap (λ (es : List Entry). es ++ e ∷ []) (own_stays old.seat old.seen x.called.between x.called.others)

own_full : (capacity : ℕ) (full : JournalFull) (before now : ℕ) (old new : Worker) → FoundFull capacity full before now old new → own new ≡ own old
own_full capacity full before now old new x =
    ap (λ s. seat_entries s new.seen) x.waited.seat ∙ ap (λ h. seat_entries old.seat h) x.waited.seen ∙ own_stays old.seat old.seen x.waited.between x.waited.others

-- one entry more, or a full history
pub did_step : (shape : Shape) (capacity : ℕ) (call : Call) (next before now : ℕ) (old new : Worker) (done : Result CoreReply JournalFull) → call.seat ≡ old.seat
    → IsAnswer shape capacity call next before now old new done
    → MatchResult done (λ reply. Added call reply (own old) (own new)) (λ e. WasFull e capacity (length new.seen) (own old) (own new))
did_step shape capacity call next before now old new (Ok reply) mine x = record { word = x.word; is = own_executed shape call reply next before now old new mine x }
did_step shape capacity call next before now old new (Err full) mine x = record { stays = own_full capacity full before now old new x; full = x.all; entries = x.told }

-- ---- words
words_kept : (words : ℕ → ℕ) (first : List Entry) (shape : Shape) (capacity : ℕ) (call : Call) (a b : AtWork) (done : Result CoreReply JournalFull)
    → call.seat ≡ a.pass.seat → a.full ≡ false → b.full ≡ is_err done → IsAnswer shape capacity call (words a.taken) a.taken b.taken a.pass b.pass done
    → WordedBehind words first a → WordedBehind words first b
words_kept words first shape capacity call a b (Ok reply) mine room ends x w =
    let e : Entry = record { call = call; word = x.word; reply = reply } in
    record {
      entries = w.entries ++ e ∷ [];
      added = own_executed shape call reply (words a.taken) a.taken b.taken a.pass b.pass mine x ∙ ap (λ (es : List Entry). es ++ e ∷ []) w.added ∙ append_assoc first w.entries (e ∷ []);
      worded = worded_more words w.entries e a.taken b.taken w.worded (w.count room) x.drawn;
      count = λ _. count_more w.entries e (words a.taken) a.taken b.taken (w.count room) x.drawn;
    }
words_kept words first shape capacity call a b (Err full) mine room ends x w = record {
  entries = w.entries;
  added = own_full capacity full a.taken b.taken a.pass b.pass x ∙ w.added;
  worded = w.worded;
  count = λ e. absurd (true≢false (sym ends ∙ e));
}

-- no more words were taken than the seat has entries
pub words_fit : (shape : Shape) (capacity : ℕ) (call : Call) (next before now : ℕ) (old new : Worker) (done : Result CoreReply JournalFull) → before ≤ old.made
    → IsAnswer shape capacity call next before now old new done → OnOk done (now ≤ new.made)
words_fit shape capacity call next before now old new (Ok reply) few x = drawn x.word x.drawn
  where
    drawn : (w : Option ℕ) → MatchOption w (now ≡ before) (λ v. (v ≡ next) × (now ≡ before + 1)) → now ≤ new.made
    drawn None d = omega (arith, d, few, x.called.made)
    drawn (Some v) d = omega (arith, d.1, few, x.called.made)
words_fit shape capacity call next before now old new (Err full) few x = tt

-- ---- TIMEOUTs
timeouts_push : (es : List Entry) (e : Entry) → timeouts (es ++ e ∷ []) ≡ timeouts es + (if is_timeout e.reply then 1 else 0)
timeouts_push es e = sum_by-append (λ (x : Entry). if is_timeout x.reply then 1 else 0) es (e ∷ []) ∙ ap (λ (n : ℕ). timeouts es + n) (simple (if is_timeout e.reply then 1 else 0))
  where
    simple : (n : ℕ) → 0 + n ≡ n
    simple n = omega arith

enough_one : (reply : CoreReply) (old new before now : ℕ) → new ≡ old + (if is_timeout reply then 1 else 0) → before ≤ now → (reply ≡ Error Timeout → Rose before now)
    → now < 2 ^ 64 - 1 → new + before ≤ old + now
enough_one (Error Timeout) old new before now more rises rose few = omega (arith, more, rises, rose refl, few)
enough_one _ old new before now more rises rose few = omega (arith, more, rises)

enough : (shape : Shape) (capacity : ℕ) (call : Call) (next before now : ℕ) (old new : Worker) (done : Result CoreReply JournalFull) (gave_up gives_up : ℕ) → call.seat ≡ old.seat
    → IsAnswer shape capacity call next before now old new done → gave_up ≤ gives_up → (done ≡ Ok (Error Timeout) → Rose gave_up gives_up)
    → GaveUpEnough (own old) (own new) gave_up gives_up
enough shape capacity call next before now old new (Ok reply) gave_up gives_up mine x rises rose = λ few.
    let e : Entry = record { call = call; word = x.word; reply = reply } in
    enough_one reply (timeouts (own old)) (timeouts (own new)) gave_up gives_up
    (ap timeouts (own_executed shape call reply next before now old new mine x) ∙ timeouts_push (own old) e) rises (λ is. rose (ap (λ r. Ok r) is)) few
enough shape capacity call next before now old new (Err full) gave_up gives_up mine x rises rose = λ few.
    omega (arith, rises, ap timeouts (own_full capacity full before now old new x))

-- ---- all that one call keeps
seen_on : (shape : Shape) (capacity : ℕ) (call : Call) (next before now : ℕ) (old new : Worker) (done : Result CoreReply JournalFull)
    → IsAnswer shape capacity call next before now old new done → IsPrefix old.seen new.seen × (new.seat ≡ old.seat)
seen_on shape capacity call next before now old new (Ok reply) x =
    let e : Entry = record { call = call; word = x.word; reply = reply } in
    ((x.called.between ++ e ∷ [], sym (x.called.seen ∙ append_assoc old.seen x.called.between (e ∷ []))), x.called.seat)
seen_on shape capacity call next before now old new (Err full) x = ((x.waited.between, sym x.waited.seen), x.waited.seat)

pub worked_one : (word : List ℕ → ℕ → ℕ → ℕ → ℕ) (shape : Shape) (capacity : ℕ) (call : Call) (done : Result CoreReply JournalFull) (a b : AtWork)
    → call.seat ≡ a.pass.seat → a.full ≡ false → b.full ≡ is_err done → b.key ≡ a.key → b.seat ≡ a.seat → b.serial ≡ a.serial
    → IsAnswer shape capacity call (word a.key a.seat a.serial a.taken) a.taken b.taken a.pass b.pass done
    → a.gave_up ≤ b.gave_up → (done ≡ Ok (Error Timeout) → Rose a.gave_up b.gave_up) → HasWorked word a b
worked_one word shape capacity call done a b mine room ends key seat serial x rises rose =
    let seen = seen_on shape capacity call _ _ _ a.pass b.pass done x in
    record {
      seen = seen.0;
      place = seen.1;
      key = key;
      seat = seat;
      serial = serial;
      worded = λ first w. words_kept (word a.key a.seat a.serial) first shape capacity call a b done mine room ends x w;
      more = rises;
      waited = enough shape capacity call _ _ _ a.pass b.pass done a.gave_up b.gave_up mine x rises rose;
    }

-- ---- a connection from its beginning
-- its words, where it was begun before its calls
pub worded_since : (word : List ℕ → ℕ → ℕ → ℕ → ℕ) (key : List ℕ) (seat serial : ℕ) (begun now : AtWork) → HasWorked word begun now → begun.key ≡ key
    → begun.seat ≡ seat → begun.serial ≡ serial → begun.taken ≡ 0 → AreNextWorded (λ k. word key seat serial k) (own begun.pass) (own now.pass)
worded_since word key seat serial begun now worked same_key same_seat same_serial none =
    let first : WordedBehind (word begun.key begun.seat begun.serial) (own begun.pass) begun = record {
      entries = [];
      added = sym (append-nil (own begun.pass));
      worded = tt;
      count = λ _. none;
    } in
    let w = subst (λ (ws : ℕ → ℕ). WordedBehind (λ k. ws k) (own begun.pass) now) (word_is word begun.key key begun.seat begun.serial seat serial same_key same_seat same_serial)
    (worked.worded (own begun.pass) first) in
    record { entries = w.entries; added = w.added; worded = w.worded }

-- the same of what a reference holds in the end
pub worded_as : (words : ℕ → ℕ) (first : List Entry) (pass pass' : Worker) → pass' ≡ pass → AreNextWorded words first (own pass)
    → AreNextWorded words first (own pass')
worded_as words first pass pass' same w = subst (λ (p : Worker). AreNextWorded words first (own p)) (sym same) w
