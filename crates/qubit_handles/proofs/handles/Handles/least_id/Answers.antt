use Rattle.std.proofs.Common.{◌≡◌, ◌==◌, filter, length, is_some, sym, ap, ◌∙◌, arith}
use Rattle.std.proofs.lemmas.List.Sums.{length-filter, count_by-le-length}
use Rattle.network_model.specs.Step.{least_free}
use Rattle.qubit_handles.specs.Handle.{ids_of}
use Rattle.qubit_handles.specs.declared.handles.Handle.{Handle}
use Rattle.qubit_handles.proofs.HandleLemmas.{length-ids_of, listed_held, least_is_free}
use Rattle.qubit_handles.proofs.LeastLemmas.{least_starts, least_goes_on, least_found, least_ends}
use Rattle.qubit_handles.proofs.handles.Handles.least_id.Goals as goal

pub loop-init : goal.loop-init
loop-init c = record {
  id = omega arith;
  taken = least_starts (ids_of c.args.self.now c.args.app) c.count_of-held.result
      (c.count_of-held.ensures ∙ ap (λ hs. length (filter (λ h. h.app == c.args.app) hs)) (c.deref.ensures.0 ∙ c.self.view_is) ∙ sym (length-ids_of c.args.self.now c.args.app));
}

-- the first id that is free is the least
found : (c : goal.Then-is_none) → c.loop.id ≡ least_free (ids_of c.args.self.now c.args.app)
found c = least_found c.loop.id c.count_of-held.result (least_free (ids_of c.args.self.now c.args.app)) (ids_of c.args.self.now c.args.app) (omega arith)
    (listed_held c.args.self.now c.args.app c.loop.id ∙ ap is_some (sym c.find.ensures) ∙ c.if-is_none.ensures) c.loop.invariant.taken

pub returns-then-is_none-clause-least : goal.returns-then-is_none-clause-least
returns-then-is_none-clause-least c = found c

pub returns-then-is_none-clause-free : goal.returns-then-is_none-clause-free
returns-then-is_none-clause-free c = least_is_free c.args.self.now c.args.app c.loop.id (found c)

pub loop-preserved : goal.loop-preserved
loop-preserved c = record {
  id = omega arith;
  taken = least_goes_on c.loop.id c.count_of-held.result (least_free (ids_of c.args.self.now c.args.app)) (ids_of c.args.self.now c.args.app) (omega arith)
      (listed_held c.args.self.now c.args.app c.loop.id ∙ ap is_some (sym c.find.ensures) ∙ c.if-is_none.ensures) c.loop.invariant.taken;
}

-- where all are taken, the next is the least free
ended : (c : goal.After-loop) → c.loop.id ≡ least_free (ids_of c.args.self.now c.args.app)
ended c = least_ends c.loop.id c.count_of-held.result (least_free (ids_of c.args.self.now c.args.app)) (ids_of c.args.self.now c.args.app) (omega arith) c.loop.invariant.taken

pub returns-clause-least : goal.returns-clause-least
returns-clause-least c = ended c

pub returns-clause-free : goal.returns-clause-free
returns-clause-free c = least_is_free c.args.self.now c.args.app c.loop.id (ended c)

pub overflow_add-id : goal.overflow_add-id
overflow_add-id c =
    let all = length-filter (λ h. Handle.app h == c.args.app) c.deref.result.now in
    let few = count_by-le-length (λ h. Handle.app h == c.args.app) c.deref.result.now in
    omega arith
