use Rattle.std.proofs.Common.{[], ◌∷◌}
use Rattle.register_merge.proofs.Apart.{one_apart, three_five}
use Rattle.register_merge.proofs.tests.turned_size.Goals as goal

pub merged_size-requires-clause-apart : goal.merged_size-requires-clause-apart
merged_size-requires-clause-apart c = one_apart c.turn.new.reg.value c.turn-2.new.reg.value (3 ∷ []) 5 c.turn.ensures.qubits c.turn-2.ensures.qubits three_five
