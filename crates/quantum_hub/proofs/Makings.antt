-- What is made of a call on a board. The main results are `empty_queue`, `filled_queue` and `made`.
use Rattle.std.proofs.Common.{ℕ, ◌≡◌, ◌≢◌, [], Option, Some, sym, ap, subst, ◌∙◌}
use Rattle.network_model.specs.Network.{Shape}
use Rattle.network_model.specs.declared.Call.{Call}
use Rattle.network_model.specs.declared.Entry.{Entry}
use Rattle.network_model.specs.declared.Line.{Line}
use Rattle.virtual_node.specs.Node.{Node, arrived_map}
use Rattle.core_cells.specs.Cells.{Cells}
use Rattle.factored_core.specs.Changes.{IsPreparedStep}
use Rattle.factored_core.specs.Ready.{HasCells}
use Rattle.factored_core.specs.declared.prepared.Prepared.{Prepared}
use Rattle.quantum_hub.specs.Calls.{IsDrawn}
use Rattle.quantum_hub.specs.Steps.{HasQueue, IsMade}

module _ (shape : Shape) (call : Call) (cs : Cells) (own : Node) (has : (h : HasCells shape call cs) × (h.own.now ≡ own)) where
  -- the queue of the own node's cell
  pub empty_queue : (line : Line) → arrived_map own call.app line ≡ [] → HasQueue cs call line (λ q. q ≡ [])
  empty_queue line none = record { own = has.0.own; there = has.0.own_there; queue = ap (λ (n : Node). arrived_map n call.app line) has.1 ∙ none }

  pub filled_queue : (line : Line) → arrived_map own call.app line ≢ [] → HasQueue cs call line (λ q. q ≢ [])
  filled_queue line some = record { own = has.0.own; there = has.0.own_there; queue = λ none. some (ap (λ (n : Node). arrived_map n call.app line) (sym has.1) ∙ none) }

  -- the prepared step
  pub made : (awaited : Option Line) → ((line : Line) → awaited ≡ Some line → arrived_map own call.app line ≢ []) → (next before now : ℕ) (mid new : Cells) → mid ≡ cs → (p : Prepared) → IsPreparedStep shape mid new p
      → (entry : Entry) → entry ≡ p.entry → p.entry.call ≡ call → IsDrawn p.entry.word next before now → IsMade shape call awaited next before now cs new entry
  made awaited filled next before now mid new same p step entry is call_is drawn = record {
    prepared = p;
    step = subst (λ (c : Cells). IsPreparedStep shape c new p) same step;
    entry_is = is;
    call_is = ap (λ (e : Entry). e.call) is ∙ call_is;
    drawn = subst (λ (e : Entry). IsDrawn e.word next before now) (sym is) drawn;
    waits = λ line at. filled_queue line (filled line at);
  }
