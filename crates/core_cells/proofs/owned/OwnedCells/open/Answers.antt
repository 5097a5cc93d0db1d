use Rattle.std.proofs.Common.{◌≡◌, ◌*◌, ◌∙◌, List, None, length, ap, sym, subst, refl}
use Rattle.core_cells.specs.Owned.{IsOpened, cells_of}
use Rattle.core_cells.specs.Nodes.{NodeValues}
use Rattle.core_cells.specs.declared.cells.SlotCell.{SlotCell}
use Rattle.core_cells.proofs.OwnedLemmas.{opened}
use Rattle.core_cells.proofs.owned.OwnedCells.open.Goals as goal

pub returns : goal.returns
returns c =
    let shape = c.args.shape.now in
    let count : c.nodes-2.result * c.room.result ≡ length shape.places * shape.room = ap (λ n. n * c.room.result) c.nodes-2.ensures.nodes ∙ ap (λ n. length shape.places * n) c.room.ensures.room in
    subst (λ (l : List NodeValues × List SlotCell). IsOpened shape (cells_of record { nodes = l.0; pool = record { now = c.new.result; next = None }; slots = l.1 }))
    (λ i. (sym c.in_ok-empty_nodes.ensures i, sym c.in_ok-empty_slots.ensures i))
    (opened shape (record { now = c.new.result; next = None }) c.nodes.result (c.nodes-2.result * c.room.result) c.limit.result c.nodes.ensures.nodes count c.limit.ensures.limit refl c.new.ensures.fits)
