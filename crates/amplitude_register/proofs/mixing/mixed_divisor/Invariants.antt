use Rattle.amplitude_register.proofs.MixedDivisors.{HaveParities}
use Rattle.amplitude_register.proofs.MixedPairs.{pair_sum}
use Rattle.amplitude_register.proofs.mixing.mixed_divisor.Given as goal

abbrev pub invariant-loop-pair : goal.invariant-loop-pair
invariant-loop-pair l = HaveParities l.parities (pair_sum l.place l.from) l.pair
