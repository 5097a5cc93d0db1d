use Rattle.std.proofs.Common.{arith, ap, length, List, ℕ}
use Rattle.amplitude_register.proofs.register.Register.place_of.Goals as goal

pub place_in-requires : goal.place_in-requires
place_in-requires c = let e = ap (λ (t : List ℕ). length t) c.qubits.ensures in let f = c.facts.ensures.few in let l = c.facts.ensures.limit in omega (arith, e, f, l)
