-- Turns and answers behind waits. The main results are `turn_along`, `answer_along`, `answer_begins` and `answer_finds`.
use Rattle.std.proofs.Common.{ℕ, ◌≡◌, ◌-◌, List, length, take, Option, Some, Result, Ok, Err, sym, subst}
use Rattle.std.specs.Prelude.{MatchOption}
use Rattle.cqc_model.specs.declared.Fault.TheVariants.{Timeout}
use Rattle.network_model.specs.Network.{Shape}
use Rattle.network_model.specs.History.{after}
use Rattle.network_model.specs.declared.Call.{Call}
use Rattle.network_model.specs.declared.CoreReply.{CoreReply}
use Rattle.network_model.specs.declared.CoreReply.TheVariants.{Error}
use Rattle.network_model.specs.declared.JournalFull.{JournalFull}
use Rattle.network_model.specs.declared.Line.{Line}
use Rattle.commit_journal.specs.Views.{Worker}
use Rattle.quantum_hub.specs.Calls.{HasWaited, IsAnswer}
use Rattle.quantum_hub.specs.Waiting.{FindsNothing}
use Rattle.quantum_hub.specs.Tries.{FitsTurn}
use Rattle.quantum_hub.specs.declared.tries.Turn.{Turn}
use Rattle.quantum_hub.specs.declared.tries.Turn.TheVariants.{Done, Full, Empty}
use Rattle.quantum_hub.proofs.Waits.{waited_twice, executed_waited, full_waited, answered_waited}
use Rattle.quantum_hub.proofs.Asked.{Begins, waited_begins, called_begins, timed_out}

-- ---- what comes behind a wait
turn_waited : (shape : Shape) (capacity : ℕ) (call : Call) (awaited : Option Line) (next before now : ℕ) (a b c : Worker) (t : Turn) → HasWaited a b
    → FitsTurn shape capacity call awaited next before now b c t → FitsTurn shape capacity call awaited next before now a c t
turn_waited shape capacity call awaited next before now a b c (Done reply) one two = (executed_waited shape call reply next before now a b c one two.0, two.1)
turn_waited shape capacity call awaited next before now a b c (Full full) one two = full_waited capacity full before now a b c one two
turn_waited shape capacity call awaited next before now a b c (Empty entries) one two = record { waited = waited_twice a b c one two.waited; awaits = two.awaits; all = two.all; nothing = two.nothing; words = two.words }

-- where no word was taken either, the next one is the same
module _ (shape : Shape) (capacity : ℕ) (call : Call) (word : List ℕ → ℕ → ℕ → ℕ → ℕ) (key now_key : List ℕ) (seat now_seat serial now_serial before now_taken now : ℕ)
    (same_key : now_key ≡ key) (same_seat : now_seat ≡ seat) (same_serial : now_serial ≡ serial) (same_taken : now_taken ≡ before) (a b c : Worker) (one : HasWaited a b) where
  same_next : word now_key now_seat now_serial now_taken ≡ word key seat serial before
  same_next = cc (same_key, same_seat, same_serial, same_taken)

  pub turn_along : (awaited : Option Line) (t : Turn) → FitsTurn shape capacity call awaited (word now_key now_seat now_serial now_taken) now_taken now b c t → FitsTurn shape capacity call awaited (word key seat serial before) before now a c t
  turn_along awaited t two =
      turn_waited shape capacity call awaited (word key seat serial before) before now a b c t one
      (subst (λ n. FitsTurn shape capacity call awaited n before now b c t) same_next (subst (λ n. FitsTurn shape capacity call awaited (word now_key now_seat now_serial now_taken) n now b c t) same_taken two))

  pub answer_along : (r : Result CoreReply JournalFull) → IsAnswer shape capacity call (word now_key now_seat now_serial now_taken) now_taken now b c r → IsAnswer shape capacity call (word key seat serial before) before now a c r
  answer_along r two =
      answered_waited shape capacity call (word key seat serial before) before now a b c r one
      (subst (λ n. IsAnswer shape capacity call n before now b c r) same_next (subst (λ n. IsAnswer shape capacity call (word now_key now_seat now_serial now_taken) n now b c r) same_taken two))

-- ---- what an answer tells
pub answer_begins : (shape : Shape) (capacity : ℕ) (call : Call) (next before now : ℕ) (a c : Worker) (r : Result CoreReply JournalFull) → IsAnswer shape capacity call next before now a c r → Begins a c
answer_begins shape capacity call next before now a c (Ok reply) is = called_begins shape call is.word reply a c is.called
answer_begins shape capacity call next before now a c (Err full) is = waited_begins a c is.waited

pub answer_seat : (shape : Shape) (capacity : ℕ) (call : Call) (next before now : ℕ) (a c : Worker) (r : Result CoreReply JournalFull) → IsAnswer shape capacity call next before now a c r → c.seat ≡ a.seat
answer_seat shape capacity call next before now a c (Ok reply) is = is.called.seat
answer_seat shape capacity call next before now a c (Err full) is = is.waited.seat

-- TIMEOUT comes where the call receives and finds nothing
pub answer_finds : (shape : Shape) (capacity : ℕ) (call : Call) (next before now : ℕ) (a c : Worker) (r : Result CoreReply JournalFull) → IsAnswer shape capacity call next before now a c r → r ≡ Ok (Error Timeout)
    → FindsNothing (after shape (take (length c.seen - 1) c.seen)) call
answer_finds shape capacity call next before now a c (Ok reply) is timeout = timed_out shape call is.word reply a c (same reply (Error Timeout) timeout) is.called
  where
    same : (x y : CoreReply) → ◌≡◌ {A = Result CoreReply JournalFull} (Ok x) (Ok y) → x ≡ y
    same x y e = cc (e)
answer_finds shape capacity call next before now a c (Err full) is timeout = absurd (cc (timeout))

-- a call that receives
pub receives_so : {A : Type 0} (o : Option A) (x : A) (P Q : Type 0) → o ≡ Some x → Q → MatchOption o P (λ _. Q)
receives_so {A} o x P Q is q = subst (λ (p : Option A). MatchOption p P (λ _. Q)) (sym is) q
