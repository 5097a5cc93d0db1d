use Rattle.std.proofs.Common.{◌+◌, ◌++◌, ◌∙◌, ℕ, List, length, take, sym, ap, subst}
use Rattle.state_model.specs.Amplitudes.{AreDistinct}
use Rattle.register_merge.proofs.ProductVectors.{distinct_append}
use Rattle.register_merge.proofs.merging.begin_product.Goals as goal

pub begin-requires-clause-distinct : goal.begin-requires-clause-distinct
begin-requires-clause-distinct c =
    let h = c.facts.ensures.rows in let k = c.facts-2.ensures.rows in
    subst AreDistinct (sym (
    ap (λ (t : List ℕ). take (length t + length c.qubits-4.result.now) c.joined-numbers.result) (c.qubits-3.ensures ∙ sym c.qubits.ensures)
    ∙ ap (λ (t : List ℕ). take (length c.qubits.result.now + length t) c.joined-numbers.result) (c.qubits-4.ensures ∙ sym c.qubits-2.ensures)
    ∙ c.joined-numbers.ensures ∙ ap (λ (t : List ℕ). t ++ c.qubits-2.result.now) c.qubits.ensures ∙ ap (λ (t : List ℕ). c.args.one.now.value.qubits ++ t) c.qubits-2.ensures))
    (distinct_append c.args.one.now.value.qubits c.args.two.now.value.qubits h.distinct k.distinct c.requires.apart)
