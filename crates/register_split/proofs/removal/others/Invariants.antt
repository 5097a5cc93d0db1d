use Rattle.std.proofs.Common.{◌≡◌, ℕ, ◌<◌, get_or, length}
use Rattle.register_split.proofs.Others.{skip}
use Rattle.register_split.proofs.removal.others.Given as goal

abbrev pub invariant-loop-k : goal.invariant-loop-k
invariant-loop-k l = record { room : length l.rest ≡ 12; done : (i : ℕ) → i < l.k → get_or l.rest i 0 ≡ get_or l.qubits (skip l.place i) 0 }
