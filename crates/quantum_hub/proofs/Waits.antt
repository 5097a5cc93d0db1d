-- What a pass has seen behind a look and behind a commit.
use Rattle.std.proofs.Common.{◌≡◌, ℕ, ◌+◌, List, [], ◌∷◌, ◌++◌, ◌≤◌, Result, Ok, Err, Option, None, Some, sym, ap, ◌∙◌, arith, append_assoc}
use Rattle.std.specs.Prelude.{OnOk, OnErr}
use Rattle.std.proofs.lemmas.List.{append-nil}
use Rattle.network_model.specs.Network.{Shape}
use Rattle.network_model.specs.declared.Call.{Call}
use Rattle.network_model.specs.declared.CoreReply.{CoreReply}
use Rattle.network_model.specs.declared.Entry.{Entry}
use Rattle.network_model.specs.declared.JournalFull.{JournalFull}
use Rattle.commit_journal.specs.Keeping.{own_count}
use Rattle.commit_journal.specs.Views.{Worker, HasSeen, HasAdded}
use Rattle.commit_journal.specs.declared.fault.Stale.{Stale}
use Rattle.commit_journal.specs.declared.fault.CommitFault.{CommitFault}
use Rattle.commit_journal.specs.declared.fault.CommitFault.TheVariants as fault
use Rattle.commit_journal.proofs.Keeps.{own_empty, own_count-append}
use Rattle.quantum_hub.specs.Calls.{HasCalled, HasWaited, IsDrawn, IsExecuted, FoundFull, IsAnswer}

-- a pass that stays has seen nothing more
pub waited_not : (old new : Worker) → new ≡ old → HasWaited old new
waited_not old new is = record {
  between = [];
  others = own_empty old.seat;
  seen = ap (λ (w : Worker). w.seen) is ∙ sym (append-nil old.seen);
  made = ap (λ (w : Worker). w.made) is;
  seat = ap (λ (w : Worker). w.seat) is;
}

pub waited_seen : (old new : Worker) (h : List Entry) → HasSeen old new h → HasWaited old new
waited_seen old new h s = record { between = s.between; others = s.others; seen = s.seen ∙ s.history; made = s.made; seat = s.seat }

pub waited_by : (r : Result ℕ Stale) (old new : Worker) (h : List Entry) → OnOk r (HasSeen old new h) → OnErr r (new ≡ old) → HasWaited old new
waited_by (Ok n) old new h seen same = waited_seen old new h seen
waited_by (Err s) old new h seen same = waited_not old new same

pub waited_fault : (r : Result ℕ CommitFault) (f : CommitFault) (old new : Worker) (h : List Entry) → r ≡ Err f
    → ((j : JournalFull) → r ≡ Err (fault.Full j) → HasSeen old new h) → ((s : Stale) → r ≡ Err (fault.Stale s) → new ≡ old) → HasWaited old new
waited_fault r (fault.Full j) old new h is full stale = waited_seen old new h (full j is)
waited_fault r (fault.Stale s) old new h is full stale = waited_not old new (stale s is)

pub fault_is : (f g : CommitFault) → ◌≡◌ {A = Result Unit CommitFault} (Err f) (Err g) → f ≡ g
fault_is f g e = cc (e)

-- no entry of a seat is among those of two stretches
none_between : (own seat : ℕ) (first second : List Entry) → seat ≡ own → own_count own first ≡ 0 → own_count seat second ≡ 0 → own_count own (first ++ second) ≡ 0
none_between own seat first second same one two = let then_none = ap (λ s. own_count s second) (sym same) ∙ two in own_count-append own first second ∙ omega (arith, one, then_none)

-- one wait after another
pub waited_twice : (a b c : Worker) → HasWaited a b → HasWaited b c → HasWaited a c
waited_twice a b c one two = record {
  between = one.between ++ two.between;
  others = none_between a.seat b.seat one.between two.between one.seat one.others two.others;
  seen = two.seen ∙ ap (λ (l : List Entry). l ++ two.between) one.seen ∙ append_assoc a.seen one.between two.between;
  made = two.made ∙ one.made;
  seat = two.seat ∙ one.seat;
}

-- and then a call's entry
pub called : (shape : Shape) (a b c : Worker) (h : List Entry) (e : Entry) → HasWaited a b → HasAdded shape b c h e → own_count c.seat c.seen ≡ c.made → HasCalled shape e.call e.word e.reply a c
called shape a b c h e one added own = record {
  between = one.between ++ added.between;
  others = none_between a.seat b.seat one.between added.between one.seat one.others added.others;
  seen = added.seen ∙ ap (λ (l : List Entry). l ++ e ∷ [])
      (added.history ∙ ap (λ (l : List Entry). l ++ added.between) one.seen ∙ append_assoc a.seen one.between added.between);
  made = added.made ∙ ap (λ n. n + 1) one.made;
  own = own;
  seat = added.seat ∙ one.seat;
  legal = added.legal;
}

pub same_pass : (r : Result ℕ Stale) (P Q : Type 0) → OnErr r (P × Q) → OnErr r Q
same_pass (Ok n) P Q h = h
same_pass (Err s) P Q h = h.1

-- at most one word was taken
pub taken_most : (word : Option ℕ) (next before now : ℕ) → IsDrawn word next before now → now ≤ before + 1
taken_most None next before now h = omega (arith, h)
taken_most (Some w) next before now h = omega (arith, h.1)

-- a wait, and then a call
pub called_waited : (shape : Shape) (call : Call) (word : Option ℕ) (reply : CoreReply) (a b c : Worker) → HasWaited a b → HasCalled shape call word reply b c → HasCalled shape call word reply a c
called_waited shape call word reply a b c one two = record {
  between = one.between ++ two.between;
  others = none_between a.seat b.seat one.between two.between one.seat one.others two.others;
  seen = two.seen ∙ ap (λ (l : List Entry). l ++ record { call = call; word = word; reply = reply } ∷ [])
      (ap (λ (l : List Entry). l ++ two.between) one.seen ∙ append_assoc a.seen one.between two.between);
  made = two.made ∙ ap (λ n. n + 1) one.made;
  own = two.own;
  seat = two.seat ∙ one.seat;
  legal = two.legal;
}

pub full_waited : (capacity : ℕ) (full : JournalFull) (before now : ℕ) (a b c : Worker) → HasWaited a b → FoundFull capacity full before now b c → FoundFull capacity full before now a c
full_waited capacity full before now a b c one two = record { waited = waited_twice a b c one two.waited; told = two.told; all = two.all; words = two.words }

pub executed_waited : (shape : Shape) (call : Call) (reply : CoreReply) (next before now : ℕ) (a b c : Worker) → HasWaited a b → IsExecuted shape call reply next before now b c → IsExecuted shape call reply next before now a c
executed_waited shape call reply next before now a b c one two = record { word = two.word; drawn = two.drawn; called = called_waited shape call two.word reply a b c one two.called }

-- a wait, and then an answer
pub answered_waited : (shape : Shape) (capacity : ℕ) (call : Call) (next before now : ℕ) (a b c : Worker) (r : Result CoreReply JournalFull) → HasWaited a b
    → IsAnswer shape capacity call next before now b c r → IsAnswer shape capacity call next before now a c r
answered_waited shape capacity call next before now a b c (Ok reply) one two = executed_waited shape call reply next before now a b c one two
answered_waited shape capacity call next before now a b c (Err full) one two = full_waited capacity full before now a b c one two
