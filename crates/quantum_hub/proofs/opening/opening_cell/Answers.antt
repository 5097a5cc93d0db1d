use Rattle.std.proofs.Common.{◌≡◌, ◌<◌, ◌≤◌, ◌+◌, ◌-◌, length, arith}
use Rattle.quantum_hub.proofs.Opens.{node_opens, pool_opens, slot_opens}
use Rattle.quantum_hub.proofs.opening.opening_cell.Goals as goal

pub returns-then-number-nodes : goal.returns-then-number-nodes
returns-then-number-nodes c =
    let low : c.args.number < length c.args.shape.now.places = omega (arith, c.if-number-nodes.true, c.from-nodes.ensures, c.nodes.ensures.nodes) in
    node_opens c.args.shape.now c.args.number c.in_ok-node.node c.new.result c.in_ok-node.ensures low (c.new.ensures.fits c.args.number)

pub returns-then-number-nodes-2 : goal.returns-then-number-nodes-2
returns-then-number-nodes-2 c =
    let at : c.args.number ≡ length c.args.shape.now.places = omega (arith, c.if-number-nodes-2.true, c.from-nodes.ensures, c.nodes.ensures.nodes) in
    pool_opens c.args.shape.now c.args.number c.in_ok-pool.pool c.new-then-number-nodes-2.result c.in_ok-pool.ensures at c.new-then-number-nodes-2.ensures.fits

pub returns : goal.returns
returns c =
    let past : length c.args.shape.now.places + 1 ≤ c.args.number = omega (arith, c.if-number-nodes.false, c.if-number-nodes-2.false, c.from-nodes.ensures, c.nodes.ensures.nodes) in
    slot_opens c.args.shape.now c.args.number c.in_ok-slot.slot c.in_ok-cell.cell c.in_ok-slot.ensures past
    (c.in_ok-cell.ensures.fits c.args.shape.now (c.args.number - (length c.args.shape.now.places + 1)) c.limit.ensures.limit)
