use Rattle.std.proofs.Common.{◌≡◌, ◌-◌}
use Rattle.network_model.specs.Step.{least_from, least_free}
use Rattle.qubit_handles.specs.Handle.{ids_of}
use Rattle.qubit_handles.proofs.handles.Handles.least_id.Given as goal

-- each id so far is taken, so the search goes on from here
abbrev pub invariant-loop : goal.invariant-loop
invariant-loop l = record {
  id : l.id ≡ l.counter;
  taken : least_from l.id (l.held - l.id) (ids_of l.self l.app) ≡ least_free (ids_of l.self l.app);
}
