use Rattle.std.proofs.Common.{◌-◌, ◌∙◌, ℕ, List, length, take, slice_index_or, sym, subst}
use Rattle.state_model.specs.Amplitudes.{AreDistinct}
use Rattle.state_model.proofs.KeptLists.{without_distinct}
use Rattle.register_split.proofs.removal.begin_others.Goals as goal

pub begin-requires-clause-distinct : goal.begin-requires-clause-distinct
begin-requires-clause-distinct c =
    let r = c.facts.ensures.rows in
    subst (λ (t : List ℕ). AreDistinct (take (length t - 1) c.others-rest.result)) (c.qubits.ensures ∙ sym c.qubits-2.ensures)
    (subst AreDistinct (sym c.others-rest.ensures) (without_distinct c.qubits.result.now (slice_index_or c.qubits.result.now c.args.place 0) (subst AreDistinct (sym c.qubits.ensures) r.distinct)))
