use Rattle.std.proofs.Common.{◌≡◌, Some, None, position, sym, ap, ◌∙◌}
use Rattle.network_model.specs.Step.{least_free}
use Rattle.qubit_handles.specs.Handle.{ids_of}
use Rattle.virtual_node.specs.Node.{Node, is_waiting}
use Rattle.virtual_node.proofs.NodeLemmas.{look_here, look_empty}
use Rattle.epr_transfer.specs.Transfer.{next_id}
use Rattle.epr_transfer.proofs.TransferLemmas.{taken_by-none, received_by-none, taken_by-some, received_by-some, informed_by_line}
use Rattle.epr_transfer.proofs.receive.Goals as goal

-- an empty look means that nothing waits
nothing : (c : goal.In_default) → position (is_waiting c.args.app c.args.line) (Node.arrivals c.args.node.now) ≡ None
nothing c = look_empty (position (is_waiting c.args.app c.args.line) (Node.arrivals c.args.node.now)) (sym c.look.ensures ∙ c.in_default.is)

-- where the first arrival stood
place : (c : goal.After-add_handle) → position (is_waiting c.args.app c.args.line) (Node.arrivals c.args.node.now) ≡ Some c.in-Here.place
place c = look_here (position (is_waiting c.args.app c.args.line) (Node.arrivals c.args.node.now)) c.in-Here.place (sym c.look.ensures ∙ c.in-Here.is)

-- taking an arrival leaves the handles, so the id is the least one free
next : (c : goal.After-add_handle) → c.least_id-id.result ≡ next_id c.args.node.now c.args.app
next c = c.least_id-id.ensures.least ∙ ap (λ hs. least_free (ids_of hs c.args.app)) (c.handles.ensures ∙ ap (λ n. Node.handles n) c.take-arrival.ensures.others)

pub returns-in_default-clause-taken : goal.returns-in_default-clause-taken
returns-in_default-clause-taken c = taken_by-none c.args.node.now c.args.app c.args.line (nothing c)

pub returns-in_default-clause-node : goal.returns-in_default-clause-node
returns-in_default-clause-node c = received_by-none c.args.node.now c.args.app c.args.line (nothing c)

pub returns-clause-taken : goal.returns-clause-taken
returns-clause-taken c = taken_by-some c.args.node.now c.args.app c.args.line c.in-Here.place c.take-arrival.result (place c) c.take-arrival.ensures.arrival c.least_id-id.result (next c)

pub returns-clause-informed : goal.returns-clause-informed
returns-clause-informed c = informed_by_line c.args.node.now c.args.app c.args.line c.in-Here.place c.take-arrival.result (place c) c.take-arrival.ensures.arrival c.take-arrival.ensures.informed

pub returns-clause-node : goal.returns-clause-node
returns-clause-node c = c.add_handle.ensures
    ∙ received_by-some c.args.node.now c.args.app c.args.line c.in-Here.place c.take-arrival.result (place c) c.take-arrival.ensures.arrival c.take-arrival.new.self c.least_id-id.result (next c) c.take-arrival.ensures.others
