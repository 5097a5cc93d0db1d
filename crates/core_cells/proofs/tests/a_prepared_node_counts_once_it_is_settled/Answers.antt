use Rattle.std.proofs.Common.{rules, [], ◌∷◌, Some, IsSome, slice_get, sym, ap, subst, ◌∙◌}
use Rattle.core_cells.specs.Cells.{Cells}
use Rattle.core_cells.specs.Owned.{cells_of}
use Rattle.core_cells.proofs.Within.{has, there}
use Rattle.core_cells.specs.declared.names.CellName.TheVariants.{Node}
use Rattle.core_cells.specs.declared.names.Ending.TheVariants.{Settle}
use Rattle.core_cells.proofs.CellLemmas.{node_put}
use Rattle.core_cells.proofs.Named.{node_kept}
use Rattle.core_cells.proofs.Presence.{all_there}
use Rattle.core_cells.proofs.tests.a_prepared_node_counts_once_it_is_settled.Goals as goal

pub held_node-requires : goal.held_node-requires
held_node-requires g c =
    let before : IsSome (slice_get c.expect-cells.result.nodes 1) = search rules in
    let w = has _ before in
    there _ _ (ap (λ (cs : Cells). cs.node 1) (c.prepare_node.ensures w.0 w.1) ∙ node_put (cells_of c.expect-cells.result) 1 _)

pub end_all-requires : goal.end_all-requires
end_all-requires g c =
    let before : IsSome (slice_get c.expect-cells.result.nodes 1) = search rules in
    let w = has _ before in
    all_there _ _ (there _ _ (ap (λ (cs : Cells). cs.node 1) (c.held_node.ensures.same ∙ c.prepare_node.ensures w.0 w.1) ∙ node_put (cells_of c.expect-cells.result) 1 _), tt)

pub held_node-requires-2 : goal.held_node-requires-2
held_node-requires-2 g c =
    let before : IsSome (slice_get c.expect-cells.result.nodes 1) = search rules in
    let w = has _ before in
    let is = ap (λ (cs : Cells). cs.node 1) (c.held_node.ensures.same ∙ c.prepare_node.ensures w.0 w.1) ∙ node_put (cells_of c.expect-cells.result) 1 _ in
    subst (λ (cs : Cells). IsSome (cs.node 1)) (sym c.end_all.ensures) (node_kept Settle (Some (Node 1) ∷ []) (cells_of c.held_node.new.board) 1 (there _ _ is))
