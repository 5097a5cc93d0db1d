use Rattle.std.proofs.Common.{refl, sym, subst}
use Rattle.factored_core.specs.Changes.{IsPreparedStep}
use Rattle.factored_core.specs.declared.prepared.Prepared.{Prepared}
use Rattle.factored_core.proofs.TwoActs.{places_differ, inside_leaves_node, inside_prepared}
use Rattle.factored_core.proofs.two_qubit_gates.inside.Goals as goal

pub gate-requires-clause-apart : goal.gate-requires-clause-apart
gate-requires-clause-apart g c = places_differ _ _ _ _ c.requires.ready _ _ _ c.requires.spots refl

pub prepare_node-requires : goal.prepare_node-requires
prepare_node-requires g c = inside_leaves_node _ _ _ _ c.requires.ready _ _ _ c.requires.spots refl _ c.gate.ensures

pub returns-clause-step : goal.returns-clause-step
returns-clause-step g c =
    subst (λ (p : Prepared). IsPreparedStep c.args.shape.now (g.B.Board.cells c.args.board.now) (g.B.Board.cells c.prepare_node.new.board) p) (sym c.in_slot.ensures)
    (inside_prepared _ _ _ _ c.requires.ready _ _ _ c.requires.spots refl _ c.gate.ensures _ c.prepare_node.ensures)
