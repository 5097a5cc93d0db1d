use Rattle.std.proofs.Common.{◌≡◌, ◌+◌, ◌-◌, ◌≤◌, length, option_map, ◌∙◌, ap, sym, arith}
use Rattle.held_board.specs.Held.{held_cells}
use Rattle.held_board.specs.Seats.{cell_of}
use Rattle.hub_cells.specs.declared.cell.Cell.TheVariants.{Node, Pool, Slot}
use Rattle.hub_cells.proofs.Numbers.{at_node, at_pool, at_slot}
use Rattle.quantum_hub.proofs.Puts.{take_node_is, take_pool_is, take_slot_is}
use Rattle.quantum_hub.proofs.moves.take_cell.Goals as goal

pub returns-then-number-nodes-clause-cell : goal.returns-then-number-nodes-clause-cell
returns-then-number-nodes-clause-cell c =
    c.node_of.ensures ∙ ap (option_map Node) c.take_node.ensures.cell
    ∙ sym (at_node c.args.shape.now (held_cells c.args.board.now) c.args.number (omega (arith, c.from-nodes.ensures, c.nodes.ensures.nodes, c.if-number-nodes.true)))

pub returns-then-number-nodes-clause-rest : goal.returns-then-number-nodes-clause-rest
returns-then-number-nodes-clause-rest c =
    take_node_is c.args.shape.now c.args.number c.args.board.now c.take_node.new.self (omega (arith, c.from-nodes.ensures, c.nodes.ensures.nodes, c.if-number-nodes.true)) c.take_node.ensures.rest

pub returns-then-number-nodes-2-clause-cell : goal.returns-then-number-nodes-2-clause-cell
returns-then-number-nodes-2-clause-cell c =
    c.pool_of.ensures ∙ ap (option_map Pool) c.take_pool.ensures.cell
    ∙ sym (at_pool c.args.shape.now (held_cells c.args.board.now) c.args.number (c.if-number-nodes-2.true ∙ c.from-nodes.ensures ∙ c.nodes.ensures.nodes))

pub returns-then-number-nodes-2-clause-rest : goal.returns-then-number-nodes-2-clause-rest
returns-then-number-nodes-2-clause-rest c =
    take_pool_is c.args.shape.now c.args.number c.args.board.now c.take_pool.new.self (c.if-number-nodes-2.true ∙ c.from-nodes.ensures ∙ c.nodes.ensures.nodes) c.take_pool.ensures.rest

pub returns-clause-cell : goal.returns-clause-cell
returns-clause-cell c =
    let high : length c.args.shape.now.places + 1 ≤ c.args.number = omega (arith, c.from-nodes.ensures, c.nodes.ensures.nodes, c.if-number-nodes.false, c.if-number-nodes-2.false) in
    let place : c.args.number - c.from-nodes.result - 1 ≡ c.args.number - (length c.args.shape.now.places + 1) = omega (arith, c.from-nodes.ensures, c.nodes.ensures.nodes) in
    c.slot_of.ensures ∙ ap (option_map Slot) (c.take_slot.ensures.cell ∙ ap (cell_of c.args.board.now.slots) place)
    ∙ sym (at_slot c.args.shape.now (held_cells c.args.board.now) c.args.number high)

pub returns-clause-rest : goal.returns-clause-rest
returns-clause-rest c =
    let high : length c.args.shape.now.places + 1 ≤ c.args.number = omega (arith, c.from-nodes.ensures, c.nodes.ensures.nodes, c.if-number-nodes.false, c.if-number-nodes-2.false) in
    let place : c.args.number - c.from-nodes.result - 1 ≡ c.args.number - (length c.args.shape.now.places + 1) = omega (arith, c.from-nodes.ensures, c.nodes.ensures.nodes) in
    take_slot_is c.args.shape.now c.args.number c.args.board.now c.take_slot.new.self (c.args.number - c.from-nodes.result - 1) high place c.take_slot.ensures.rest
