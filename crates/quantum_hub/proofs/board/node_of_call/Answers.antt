use Rattle.std.proofs.Common.{sym}
use Rattle.held_board.specs.Held.{held_cells}
use Rattle.quantum_hub.proofs.Boards.{ready_has}
use Rattle.quantum_hub.proofs.board.node_of_call.Goals as goal

pub returns-then-has_others : goal.returns-then-has_others
returns-then-has_others c =
    let others = c.has_others.ensures c.if-has_others.true in
    ready_has c.args.shape.now c.args.call.now (held_cells c.args.board.now) c.in_ok-own.own.now c.call_needs-needs.result (sym c.in_ok-own.ensures) c.call_needs-needs.ensures
    others.0 (c.has_free.ensures.pool c.if-has_free.true) (λ is w t at least. c.has_free.ensures.free c.if-has_free.true is w t at least) others.1 others.2
