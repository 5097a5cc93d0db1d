use Rattle.std.proofs.Common.{[], ◌∷◌, ap}
use Rattle.amplitude_register.specs.States.{RegisterState}
use Rattle.register_merge.proofs.Apart.{one_apart, pair_five}
use Rattle.register_merge.proofs.tests.three_qubits_are_too_many_for_two.Goals as goal

pub verdict-requires-clause-apart : goal.verdict-requires-clause-apart
verdict-requires-clause-apart b c = one_apart c.set_pair.new.self.value c.set_basis.new.self.value (3 ∷ 4 ∷ []) 5 (ap (λ (t : RegisterState). t.value.qubits) c.set_pair.ensures) (ap (λ (t : RegisterState). t.value.qubits) c.set_basis.ensures) pair_five
