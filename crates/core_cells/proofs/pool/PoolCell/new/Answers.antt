use Rattle.std.proofs.Common.{◌*◌, ◌∙◌, ap, length}
use Rattle.core_cells.proofs.PoolLemmas.{full_fits}
use Rattle.core_cells.proofs.pool.PoolCell.new.Goals as goal

pub returns-clause-fits : goal.returns-clause-fits
returns-clause-fits c =
    let shape = c.args.shape.now in
    full_fits shape (c.nodes.result * c.room.result) c.below.result c.below-2.result
    (ap (λ n. n * c.room.result) c.nodes.ensures.nodes ∙ ap (λ n. length shape.places * n) c.room.ensures.room) c.below.ensures c.below-2.ensures
