use Rattle.std.proofs.Common.{◌≡◌, ℕ, false, List, length, slice_index_or, ap, subst, arith}
use Rattle.state_model.specs.Row.{is_listed}
use Rattle.gate_timing.proofs.Apart.{each_missing}
use Rattle.gate_timing.proofs.work.are_apart.Goals as goal

pub returns : goal.returns
returns c = λ t q h. each_missing c.args.one.now.value.qubits c.args.two.now.value.qubits
    (λ k l. subst (λ (ns : List ℕ). is_listed c.args.two.now.value.qubits (slice_index_or ns k 0) ≡ false) c.qubits-numbers.ensures
    (c.loop-k.invariant k (let e = ap (λ (ns : List ℕ). length ns) c.qubits-numbers.ensures in let f = c.loop-k-test.false in omega (arith, e, f, l)))) q h
