use Rattle.std.proofs.Common.{sym, ◌∙◌}
use Rattle.state_model.proofs.Booleans.{clash}
use Rattle.factored_core.proofs.new_qubits.take_pair.Goals as goal

pub unreachable-requires : goal.unreachable-requires
unreachable-requires c =
    let second = c.requires.second _ _ c.take_least-first.ensures in
    clash (sym (second.1) ∙ c.in_default.ensures (second.0))
