use Rattle.std.proofs.Common.{length, map}
use Rattle.omega_ring.specs.Views.{omega_value}
use Rattle.amplitude_register.specs.Mixed.{divisor_value, IsMixedRowOver}
use Rattle.amplitude_register.proofs.MixedRows.{IsPairedFrom}
use Rattle.amplitude_register.proofs.mixing.mix_over.Given as goal

abbrev pub invariant-loop-pair : goal.invariant-loop-pair
invariant-loop-pair l = IsPairedFrom (IsMixedRowOver (divisor_value l.divisor) l.place (map omega_value l.from)) l.place (length l.from) l.list l.pair
