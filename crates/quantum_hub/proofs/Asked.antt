-- What patience was shown, while more is seen and asked; and what TIMEOUT tells. The main results are `were_later`, `were_asked` and `timed_out`.
use Rattle.std.proofs.Common.{ℕ, ◌≡◌, ◌≢◌, ◌-◌, ◌≤◌, List, [], ◌∷◌, ◌++◌, length, take, Option, None, Some, option_map, unwrap_or, Bool, refl, sym, ap, subst, ◌∙◌, arith, append_assoc}
use Rattle.std.specs.Prelude.{IfSome}
use Rattle.std.proofs.Math.Seq.{take-length, take-append_seam}
use Rattle.std.proofs.lemmas.List.{take-append-le, length-append}
use Rattle.std.proofs.lemmas.List.Elements.{All-nil, All-push, All-weaker}
use Rattle.cqc_model.specs.declared.Fault.TheVariants.{Timeout}
use Rattle.network_model.specs.Network.{Shape, queue, line_eq}
use Rattle.network_model.specs.History.{IsLegal, after}
use Rattle.network_model.specs.declared.Call.{Call}
use Rattle.network_model.specs.declared.CoreReply.{CoreReply}
use Rattle.network_model.specs.declared.CoreReply.TheVariants as reply
use Rattle.network_model.specs.declared.Entry.{Entry}
use Rattle.network_model.specs.declared.Line.{Line}
use Rattle.network_model.specs.declared.Line.TheVariants.{Pair}
use Rattle.network_model.proofs.Histories.{legal-split}
use Rattle.qron_link.specs.declared.patience.EmptyAt.{EmptyAt}
use Rattle.commit_journal.specs.Views.{Worker}
use Rattle.quantum_hub.specs.Calls.{HasCalled, HasWaited}
use Rattle.quantum_hub.specs.Waiting.{received_line, FindsNothing, IsEmptyPlace, WereEmpty}
use Rattle.quantum_hub.proofs.Queues.{same_line}
use Rattle.quantum_hub.proofs.Timeouts.{finds_nothing}

-- ---- places, when more was seen
-- the old list begins the new one
abbrev pub Begins : Worker → Worker → Type 0
Begins old new = (rest : List Entry) × (new.seen ≡ old.seen ++ rest)

pub waited_begins : (a b : Worker) → HasWaited a b → Begins a b
waited_begins a b w = (w.between, w.seen)

pub called_begins : (shape : Shape) (call : Call) (word : Option ℕ) (r : CoreReply) (a b : Worker) → HasCalled shape call word r a b → Begins a b
called_begins shape call word r a b w = let e : Entry = record { call = call; word = word; reply = r } in (w.between ++ e ∷ [], w.seen ∙ append_assoc a.seen w.between (e ∷ []))

longer : (a b : Worker) → Begins a b → length a.seen ≤ length b.seen
longer a b f = let l = ap length f.1 ∙ length-append a.seen f.0 in omega (arith, l)

place_later : (shape : Shape) (call : Call) (a b c : Worker) → Begins b c → (p : EmptyAt) → IsEmptyPlace shape call a b p → IsEmptyPlace shape call a c p
place_later shape call a b c f p e =
    let l = longer b c f in
    let t = e.to in
    let same : take p.entries b.seen ≡ take p.entries c.seen = sym (ap (take p.entries) f.1 ∙ take-append-le p.entries b.seen f.0 t) in
    record {
      node = e.node;
      app = e.app;
      from = e.from;
      to = omega (arith, l, t);
      nothing = record {
        line = e.nothing.line;
        receives = e.nothing.receives;
        empty = subst (λ (h : List Entry). queue (after shape h) call.node call.app e.nothing.line ≡ []) same e.nothing.empty;
      };
      pair = e.pair;
    }

pub were_later : (shape : Shape) (call : Call) (a b c : Worker) → Begins b c → (shown : Option (List EmptyAt)) → WereEmpty shape call a b shown → WereEmpty shape call a c shown
were_later shape call a b c f None e = e
were_later shape call a b c f (Some places) e = All-weaker (IsEmptyPlace shape call a b) (IsEmptyPlace shape call a c) (place_later shape call a b c f) places e

-- ---- one place more
pub place_now : (shape : Shape) (call : Call) (a b : Worker) (line : Line) (entries : ℕ) (pair : Bool) → HasWaited a b → received_line call ≡ Some line → pair ≡ line_eq line Pair
    → entries ≡ length b.seen → FindsNothing (after shape b.seen) call → IsEmptyPlace shape call a b (record { node = call.node; app = call.app; pair = pair; entries = entries })
place_now shape call a b line entries pair waited receives pair_is all nothing =
    let l = longer a b (waited_begins a b waited) in
    record {
      node = refl;
      app = refl;
      from = omega (arith, l, all);
      to = omega (arith, all);
      nothing = record {
        line = nothing.line;
        receives = nothing.receives;
        empty = subst (λ (h : List Entry). queue (after shape h) call.node call.app nothing.line ≡ []) (sym (ap (λ n. take n b.seen) all ∙ take-length b.seen)) nothing.empty;
      };
      pair = pair_is ∙ ap (λ (l : Line). line_eq l Pair) (same_line line nothing.line (sym receives ∙ nothing.receives));
    }

pub were_asked : (shape : Shape) (call : Call) (a b : Worker) (p : EmptyAt) → IsEmptyPlace shape call a b p → (old new : Option (List EmptyAt)) → new ≡ option_map (λ list. list ++ p ∷ []) old
    → WereEmpty shape call a b old → WereEmpty shape call a b new
were_asked shape call a b p place old new is e = subst (λ (s : Option (List EmptyAt)). WereEmpty shape call a b s) (sym is) (by old e)
  where
    by : (s : Option (List EmptyAt)) → WereEmpty shape call a b s → WereEmpty shape call a b (option_map (λ list. list ++ p ∷ []) s)
    by None f = f
    by (Some places) f = All-push (IsEmptyPlace shape call a b) places p f place

-- nothing was shown
pub were_none : (shape : Shape) (call : Call) (a b : Worker) (old new : Option (List EmptyAt)) → new ≡ option_map (λ list. []) old → WereEmpty shape call a b new
were_none shape call a b old new is = subst (λ (s : Option (List EmptyAt)). WereEmpty shape call a b s) (sym is) (by old)
  where
    by : (s : Option (List EmptyAt)) → WereEmpty shape call a b (option_map (λ list. []) s)
    by None = tt
    by (Some places) = All-nil (IsEmptyPlace shape call a b)

-- something was
pub told_some : (p : EmptyAt) (old new : Option (List EmptyAt)) → new ≡ option_map (λ list. list ++ p ∷ []) old → IfSome new (λ places. places ≢ [])
told_some p old new is = subst (λ (s : Option (List EmptyAt)). IfSome s (λ places. places ≢ [])) (sym is) (by old)
  where
    some : (xs : List EmptyAt) → (xs ++ p ∷ []) ≢ []
    some [] e = cc (e)
    some (x ∷ xs) e = cc (e)

    by : (s : Option (List EmptyAt)) → IfSome (option_map (λ list. list ++ p ∷ []) s) (λ places. places ≢ [])
    by None = tt
    by (Some places) = some places

-- ---- TIMEOUT
-- at the place of its entry the queue is empty
pub timed_out : (shape : Shape) (call : Call) (word : Option ℕ) (r : CoreReply) (a b : Worker) → r ≡ reply.Error Timeout → HasCalled shape call word r a b
    → FindsNothing (after shape (take (length b.seen - 1) b.seen)) call
timed_out shape call word r a b timeout called =
    let front : List Entry = a.seen ++ called.between in
    let e : Entry = record { call = call; word = word; reply = r } in
    let legal : IsLegal shape (front ++ e ∷ []) = subst (λ (h : List Entry). IsLegal shape h) called.seen called.legal in
    let last = (legal-split shape front e legal).1 in
    let count : length b.seen - 1 ≡ length front = (let n = ap length called.seen ∙ length-append front (e ∷ []) in omega (arith, n)) in
    let is : take (length b.seen - 1) b.seen ≡ front = ap (λ n. take n b.seen) count ∙ ap (take (length front)) called.seen ∙ take-append_seam front (e ∷ []) in
    subst (λ (h : List Entry). FindsNothing (after shape h) call) (sym is) (finds_nothing shape (after shape front) call (unwrap_or word 0) r timeout last.reply)
