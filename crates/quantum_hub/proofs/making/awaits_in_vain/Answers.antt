use Rattle.std.proofs.Common.{◌≢◌, [], sym, subst, ◌∙◌}
use Rattle.network_model.specs.declared.Line.{Line}
use Rattle.virtual_node.specs.Node.{arrived_map}
use Rattle.quantum_hub.proofs.Queues.{looked_empty, looked_here, same_line}
use Rattle.quantum_hub.proofs.making.awaits_in_vain.Goals as goal

pub returns-in-Empty-clause-empty : goal.returns-in-Empty-clause-empty
returns-in-Empty-clause-empty c e = (c.in-Some.line, c.in-Some.is, looked_empty c.args.own.now c.args.call.now.app c.in-Some.line (sym c.look.ensures ∙ c.in-Empty.is))

pub returns-in_default-clause-filled : goal.returns-in_default-clause-filled
returns-in_default-clause-filled c e line is =
    subst (λ (l : Line). arrived_map c.args.own.now c.args.call.now.app l ≢ []) (same_line c.in-Some.line line (sym c.in-Some.is ∙ is))
    (looked_here c.args.own.now c.args.call.now.app c.in-Some.line (λ empty. c.in_default.not-Empty (c.look.ensures ∙ empty)))
