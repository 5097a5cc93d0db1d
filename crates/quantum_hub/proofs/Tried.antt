-- How a try ends, from what was made of the call on the board. The main results are `executed`, `no_timeout` and `found_nothing`.
use Rattle.std.proofs.Common.{ℕ, ◌≡◌, ◌≢◌, List, [], Option, None, Some, IsSome, unwrap_or, Result, Err, length, refl, sym, ap, subst, ◌∙◌}
use Rattle.state_model.proofs.Booleans.{clash}
use Rattle.cqc_model.specs.declared.Fault.TheVariants.{Timeout}
use Rattle.network_model.specs.Network.{Shape, queue}
use Rattle.network_model.specs.History.{after}
use Rattle.network_model.specs.Factored.{homes_after}
use Rattle.network_model.specs.declared.Call.{Call}
use Rattle.network_model.specs.declared.CoreReply.TheVariants.{Error}
use Rattle.network_model.specs.declared.Entry.{Entry}
use Rattle.network_model.specs.declared.JournalFull.{JournalFull}
use Rattle.network_model.specs.declared.Line.{Line}
use Rattle.cell_laws.specs.Standing.{IsStanding}
use Rattle.core_cells.specs.Cells.{Cells, CellsFit}
use Rattle.commit_journal.specs.Keeping.{own_count}
use Rattle.commit_journal.specs.Views.{Worker, HasAdded}
use Rattle.quantum_hub.specs.Calls.{HasCalled, HasWaited, IsDrawn, IsExecuted}
use Rattle.quantum_hub.specs.Waiting.{FindsNothing}
use Rattle.commit_journal.specs.declared.fault.CommitFault.{CommitFault}
use Rattle.commit_journal.specs.declared.fault.CommitFault.TheVariants.{Full as JournalIsFull, Stale}
use Rattle.quantum_hub.specs.Tries.{MayAwait, FitsTried, tried_of}
use Rattle.quantum_hub.specs.declared.tries.Tried.{Tried}
use Rattle.quantum_hub.specs.Steps.{HasQueue, IsMade}
use Rattle.quantum_hub.proofs.Queues.{same_line, nothing_waits, something_waits}
use Rattle.quantum_hub.proofs.Timeouts.{finds_nothing}
use Rattle.quantum_hub.proofs.Waits.{called, waited_twice, taken_most}

some_line : (o : Option Line) → IsSome o → (l : Line) × (o ≡ Some l)
some_line None e = absurd (clash (sym e))
some_line (Some l) e = (l, refl)

-- the call's entry wasn't committed
pub not_committed : (shape : Shape) (capacity : ℕ) (call : Call) (awaited : Option Line) (word : Option ℕ) (next before now : ℕ) (a b c : Worker) (fault : CommitFault) (tried : Tried) → tried ≡ tried_of fault
    → HasWaited a b → HasWaited b c → ((full : JournalFull) → ◌≡◌ {A = Result Unit CommitFault} (Err fault) (Err (JournalIsFull full)) → (full.entries ≡ capacity) × (length c.seen ≡ capacity)) → IsDrawn word next before now
    → FitsTried shape capacity call awaited next before now a c tried
not_committed shape capacity call awaited word next before now a b c fault tried is one two full drawn = subst (λ (t : Tried). FitsTried shape capacity call awaited next before now a c t) (sym is) (by fault full)
  where
    by : (f : CommitFault) → ((full : JournalFull) → ◌≡◌ {A = Result Unit CommitFault} (Err f) (Err (JournalIsFull full)) → (full.entries ≡ capacity) × (length c.seen ≡ capacity)) → FitsTried shape capacity call awaited next before now a c (tried_of f)
    by (JournalIsFull j) g = let found = g j refl in record { waited = waited_twice a b c one two; told = found.0; all = found.1; words = taken_most word next before now drawn }
    by (Stale s) g = tt

-- the call's entry was committed
pub executed : (shape : Shape) (call : Call) (awaited : Option Line) (next before now : ℕ) (cs new : Cells) (entry : Entry) (a b c : Worker) → IsMade shape call awaited next before now cs new entry → HasWaited a b
    → (h : List Entry) × HasAdded shape b c h entry → own_count c.seat c.seen ≡ c.made → IsExecuted shape call entry.reply next before now a c
executed shape call awaited next before now cs new entry a b c made waited added own = record {
  word = entry.word;
  drawn = made.drawn;
  called = subst (λ (x : Call). HasCalled shape x entry.word entry.reply a c) made.call_is (called shape a b c added.0 entry waited added.1 own);
}

module _ (shape : Shape) (call : Call) (awaited : Option Line) (may : MayAwait call awaited) (h : List Entry) (cs : Cells) (fit : CellsFit shape (after shape h) (homes_after shape h) cs) where
  -- an awaited queue that is empty on the board is empty in the state
  pub found_nothing : (line : Line) → awaited ≡ Some line → HasQueue cs call line (λ q. q ≡ []) → FindsNothing (after shape h) call
  found_nothing line is q = record {
    line = line;
    receives = may line is;
    empty = nothing_waits (after shape h) call.node q.own.now (fit.nodes call.node q.own q.there) call.app line q.queue;
  }

  -- where it isn't, TIMEOUT doesn't come
  pub no_timeout : IsStanding shape (after shape h) (homes_after shape h) → (next before now : ℕ) (new : Cells) (entry : Entry) → IsMade shape call awaited next before now cs new entry → IsSome awaited → entry.reply ≢ Error Timeout
  no_timeout standing next before now new entry made awaits timeout =
      let l = some_line awaited awaits in
      let q = made.waits l.0 l.1 in
      let legal = (made.step.step (after shape h) (homes_after shape h) standing fit).0 in
      let reply : made.prepared.entry.reply ≡ Error Timeout = ap (λ (e : Entry). e.reply) (sym made.entry_is) ∙ timeout in
      let found = finds_nothing shape (after shape h) made.prepared.entry.call (unwrap_or made.prepared.entry.word 0) made.prepared.entry.reply reply legal.reply in
      let call_is : made.prepared.entry.call ≡ call = ap (λ (e : Entry). e.call) (sym made.entry_is) ∙ made.call_is in
      by l.0 l.1 q (subst (λ (x : Call). FindsNothing (after shape h) x) call_is found)
    where
      by : (line : Line) → awaited ≡ Some line → HasQueue cs call line (λ q. q ≢ []) → FindsNothing (after shape h) call → ⊥
      by line is q found =
          let same : found.line ≡ line = same_line found.line line (sym found.receives ∙ may line is) in
          something_waits (after shape h) call.node q.own.now (fit.nodes call.node q.own q.there) call.app line q.queue
          (subst (λ (k : Line). queue (after shape h) call.node call.app k ≡ []) same found.empty)
