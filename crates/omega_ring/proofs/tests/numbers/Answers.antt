use Rattle.std.proofs.Common.{pos, arith}
use Rattle.std.proofs.lemmas.List.{length-replicate}
use Rattle.omega_ring.proofs.LaneSizes.{zeros_below}
use Rattle.omega_ring.proofs.tests.numbers.Goals as goal

pub loop-i-init : goal.loop-i-init
loop-i-init c = (zeros_below 1000 4096 (omega arith), length-replicate 4096 (pos 0))
