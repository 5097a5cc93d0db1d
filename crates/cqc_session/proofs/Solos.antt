-- A session over a core with a journal: what each call did to the journal and to the dice.
use Rattle.std.proofs.Common.{◌≡◌, ℕ, ◌+◌, ◌<◌, ◌≤◌, List, [], ◌∷◌, ◌++◌, length, Option, None, Some, Result, Ok, Err, refl, sym, ap, subst, ◌∙◌, arith, length-append, append_assoc}
use Rattle.std.specs.Prelude.{MatchResult, MatchOption}
use Rattle.std.proofs.lemmas.List.{append-nil}
use Rattle.network_model.specs.Network.{Shape}
use Rattle.network_model.specs.declared.Call.{Call}
use Rattle.network_model.specs.declared.Entry.{Entry}
use Rattle.network_model.specs.declared.CoreReply.{CoreReply}
use Rattle.network_model.specs.declared.JournalFull.{JournalFull}
use Rattle.session_model.specs.Walk.{Connection}
use Rattle.session_model.proofs.Wording.{worded_more, count_more, words_few}
use Rattle.factored_core.specs.Core.{Journal, IsExecuted, WasFull}
use Rattle.factored_core.specs.Ready.{IsAllowedCall}
use Rattle.cqc_session.specs.State.{State, Waits}
use Rattle.cqc_session.specs.Serving.{WordedAfter}
use Rattle.cqc_session.specs.Solo.{CoreAndDice, HasServed}
use Rattle.cqc_session.specs.SoloLaws.{word_is}
use Rattle.cqc_session.proofs.Serves.{CoreDid}

-- what a call did: the dice moved on by the word that was drawn
abbrev pub Executed : Call → Result CoreReply JournalFull → ℕ → ℕ → ℕ → Journal → Journal → Type 0
Executed call done next before now old new =
    MatchResult done (λ r. IsExecuted call r next before now old new) (λ e. WasFull e old new × (now ≡ before))

-- dice that stay have taken as many words as before
pub as_executed : {D : Type 0} (taken : D → ℕ) (call : Call) (done : Result CoreReply JournalFull) (next : ℕ) (dice later : D) (old new : Journal)
    → MatchResult done (λ r. IsExecuted call r next (taken dice) (taken later) old new) (λ e. WasFull e old new × (later ≡ dice))
    → Executed call done next (taken dice) (taken later) old new
as_executed taken call (Ok r) next dice later old new h = h
as_executed taken call (Err e) next dice later old new h = (h.0, ap taken h.1)

-- one entry more, or a full journal
pub core_did : (call : Call) (done : Result CoreReply JournalFull) (next before now : ℕ) (old new : Journal) → Executed call done next before now old new
    → CoreDid call done (length new.entries) old.capacity old.entries new.entries
core_did call (Ok r) next before now old new x = record { word = x.word; is = ap (λ (j : Journal). j.entries) x.is }
core_did call (Err e) next before now old new x = record {
  stays = ap (λ (j : Journal). j.entries) x.0.stays;
  full = ap (λ (j : Journal). length j.entries) x.0.stays ∙ x.0.full;
  entries = x.0.told;
}

-- the journal of the same network, with the same capacity
pub same_journal : (call : Call) (done : Result CoreReply JournalFull) (next before now : ℕ) (first old new : Journal) → Executed call done next before now old new
    → old ≡ record first { entries = old.entries } → new ≡ record first { entries = new.entries }
same_journal call (Ok r) next before now first old new x is =
    let e : Entry = record { call = call; word = x.word; reply = r } in
    let more : new ≡ record first { entries = old.entries ++ e ∷ [] } = x.is ∙ ap (λ (j : Journal). record j { entries = old.entries ++ e ∷ [] }) is in
    more ∙ sym (ap (λ (j : Journal). record first { entries = j.entries }) more)
same_journal call (Err e) next before now first old new x is =
    x.0.stays ∙ is ∙ sym (ap (λ (j : Journal). record first { entries = j.entries }) x.0.stays)

pub worded_none : (words : ℕ → ℕ) (old : List Entry) (taken : ℕ) → taken ≡ 0 → WordedAfter words old old taken
worded_none words old taken none = record { entries = []; added = sym (append-nil old); worded = tt; count = none }

-- the words of one entry more
pub worded_on : (words : ℕ → ℕ) (call : Call) (done : Result CoreReply JournalFull) (next before now : ℕ) (first : List Entry) (old new : Journal)
    → next ≡ words before → WordedAfter words first old.entries before → Executed call done next before now old new → WordedAfter words first new.entries now
worded_on words call (Ok r) next before now first old new is w x =
    let e : Entry = record { call = call; word = x.word; reply = r } in
    let drawn = subst (λ n. MatchOption x.word (now ≡ before) (λ v. (v ≡ n) × (now ≡ before + 1))) is x.drawn in
    record {
      entries = w.entries ++ e ∷ [];
      added = ap (λ (j : Journal). j.entries) x.is ∙ ap (λ (l : List Entry). l ++ e ∷ []) w.added ∙ append_assoc first w.entries (e ∷ []);
      worded = worded_more words w.entries e before now w.worded w.count drawn;
      count = count_more w.entries e (words before) before now w.count drawn;
    }
worded_on words call (Err f) next before now first old new is w x = record {
  entries = w.entries;
  added = ap (λ (j : Journal). j.entries) x.0.stays ∙ w.added;
  worded = w.worded;
  count = x.1 ∙ w.count;
}

-- no more words were taken than there are entries
pub taken_few : (words : ℕ → ℕ) (first now : List Entry) (taken : ℕ) → WordedAfter words first now taken → taken ≤ length now
taken_few words first now taken w =
    omega (arith, w.count, words_few w.entries, ap (λ (l : List Entry). length l) w.added, length-append first w.entries)

-- a call that the session asks is allowed
pub asked_allowed : (shape first : Shape) (s : State) (call : Call) (p : Connection) → Waits call s → s.connection ≡ p → shape ≡ first → p.node < length first.places
    → IsAllowedCall shape call
asked_allowed shape first s call p w same is node = record {
  node = subst (λ (x : Shape). call.node < length x.places) (sym is)
      (subst (λ n. n < length first.places) (sym (ap (λ (k : Call). k.node) w.call_is ∙ ap (λ (x : Connection). x.node) same)) node);
  instr = w.allowed;
}

-- one call
pub served_one : (word : List ℕ → ℕ → ℕ → ℕ → ℕ) (call : Call) (done : Result CoreReply JournalFull) (a b : CoreAndDice) → b.key ≡ a.key → b.seat ≡ a.seat
    → b.serial ≡ a.serial → Executed call done (word a.key a.seat a.serial a.taken) a.taken b.taken a.journal b.journal → HasServed word a b
served_one word call done a b key seat serial x = record {
  journal = same_journal call done _ _ _ a.journal a.journal b.journal x refl;
  key = key;
  seat = seat;
  serial = serial;
  worded = λ first w. worded_on (word a.key a.seat a.serial) call done _ _ _ first a.journal b.journal refl w x;
}

-- no more words than entries, still
pub taken_still : (call : Call) (done : Result CoreReply JournalFull) (next before now : ℕ) (old new : Journal) → before ≤ length old.entries
    → Executed call done next before now old new → now ≤ length new.entries
taken_still call (Ok r) next before now old new few x = grown x.word x.drawn
  where
    e : Entry
    e = record { call = call; word = x.word; reply = r }

    longer : length new.entries ≡ length old.entries + 1
    longer = ap (λ (j : Journal). length j.entries) x.is ∙ length-append old.entries (e ∷ [])

    grown : (w : Option ℕ) → MatchOption w (now ≡ before) (λ v. (v ≡ next) × (now ≡ before + 1)) → now ≤ length new.entries
    grown None d = omega (arith, d, longer, few)
    grown (Some v) d = omega (arith, d.1, longer, few)
taken_still call (Err f) next before now old new few x = omega (arith, x.1, ap (λ (j : Journal). length j.entries) x.0.stays, few)

-- the words of a connection that was begun before its calls
pub worded_since : (word : List ℕ → ℕ → ℕ → ℕ → ℕ) (key : List ℕ) (seat serial : ℕ) (begun now : CoreAndDice) → HasServed word begun now → begun.key ≡ key
    → begun.seat ≡ seat → begun.serial ≡ serial → begun.taken ≡ 0 → WordedAfter (λ k. word key seat serial k) begun.journal.entries now.journal.entries now.taken
worded_since word key seat serial begun now served same_key same_seat same_serial none =
    subst (λ (ws : ℕ → ℕ). WordedAfter (λ k. ws k) begun.journal.entries now.journal.entries now.taken) (word_is word begun.key key begun.seat begun.serial seat serial same_key same_seat same_serial)
    (served.worded begun.journal.entries (worded_none (word begun.key begun.seat begun.serial) begun.journal.entries begun.taken none))

-- the same of what a reference holds in the end
pub worded_as : {D : Type 0} (words : ℕ → ℕ) (taken : D → ℕ) (first : List Entry) (solo solo' : Journal) (dice dice' : D) → solo' ≡ solo → dice' ≡ dice
    → WordedAfter words first solo.entries (taken dice) → WordedAfter words first solo'.entries (taken dice')
worded_as words taken first solo solo' dice dice' same_solo same_dice w =
    subst (λ (j : Journal). WordedAfter words first j.entries (taken dice')) (sym same_solo)
    (subst (λ d. WordedAfter words first solo.entries (taken d)) (sym same_dice) w)
