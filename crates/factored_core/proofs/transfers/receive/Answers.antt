use Rattle.std.proofs.Common.{sym, ap, ◌∙◌, subst, None}
use Rattle.network_model.specs.declared.CoreReply.{CoreReply}
use Rattle.factored_core.specs.Changes.{IsPreparedStep}
use Rattle.factored_core.specs.Ready.{IsRefusable}
use Rattle.factored_core.specs.Replies.{in_nodes}
use Rattle.factored_core.specs.declared.prepared.Prepared.{Prepared}
use Rattle.cqc_model.specs.declared.Fault.TheVariants.{Timeout}
use Rattle.virtual_node.specs.Node.{Node}
use Rattle.factored_core.proofs.ReceiveSteps.{took_some, took_none, received_prepared}
use Rattle.factored_core.proofs.RefusalLines.{own_present, refused_receive, ready_receive}
use Rattle.factored_core.proofs.transfers.receive.Goals as goal

pub refused-requires-clause-own : goal.refused-requires-clause-own
refused-requires-clause-own g c = own_present _ _ _ _ c.requires.open

pub returns-in_default-clause-step : goal.returns-in_default-clause-step
returns-in_default-clause-step g c =
    let none = took_none c.args.own c.args.call.now.app c.args.line (sym c.in_default.is ∙ c.receive.ensures.taken) in
    c.refused.ensures.step c.args.shape.now
    (subst (λ (n : Node). IsRefusable c.args.shape.now c.args.call.now (g.B.Board.cells c.args.board.now) n None Timeout) (sym (c.receive.ensures.node ∙ none.1))
    (refused_receive _ _ _ _ c.requires.open _ c.requires.kind (none.0)))

pub returns-clause-step : goal.returns-clause-step
returns-clause-step g c =
    let got = sym c.in-Some.is ∙ c.receive.ensures.taken in
    subst (λ (p : Prepared). IsPreparedStep c.args.shape.now (g.B.Board.cells c.args.board.now) (g.B.Board.cells c.prepare_node.new.board) p)
    (sym (c.in_nodes.ensures ∙ ap (λ (r : CoreReply). in_nodes c.args.call.now r None) c.received.ensures))
    (received_prepared _ _ _ _ (ready_receive _ _ _ _ c.requires.open _ c.requires.kind (took_some c.args.own c.args.call.now.app c.args.line _ got)) _ c.requires.kind _ got _ c.receive.ensures.node _ c.prepare_node.ensures)
