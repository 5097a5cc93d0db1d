use Rattle.std.proofs.Common.{[], ◌∷◌, ap}
use Rattle.amplitude_register.specs.States.{RegisterState}
use Rattle.register_merge.proofs.Apart.{one_apart, three_five}
use Rattle.register_merge.proofs.tests.bits_of_the_first_are_the_low_ones.Goals as goal

pub merged_size-requires-clause-apart : goal.merged_size-requires-clause-apart
merged_size-requires-clause-apart b c = one_apart c.set_basis.new.self.value c.set_basis-2.new.self.value (3 ∷ []) 5 (ap (λ (t : RegisterState). t.value.qubits) c.set_basis.ensures) (ap (λ (t : RegisterState). t.value.qubits) c.set_basis-2.ensures) three_five
