use Rattle.std.proofs.Common.{◌≡◌, [], ◌∷◌}
use Rattle.register_merge.proofs.tests.turn.Given as goal

abbrev pub invariant-loop : goal.invariant-loop
invariant-loop l = record { qubits : l.reg.value.qubits ≡ l.q ∷ []; limit : l.reg.limit ≡ l.fn.reg.limit }
