use Rattle.std.proofs.Common.{◌≡◌}
use Rattle.omega_ring.specs.Views.{weight_value}
use Rattle.amplitude_register.specs.RowWeights.{bit_weight_to}
use Rattle.amplitude_register.proofs.register.Register.weigh_bit.Given as goal

abbrev pub invariant-loop-row : goal.invariant-loop-row
invariant-loop-row l = weight_value l.sum ≡ bit_weight_to l.place l.bit l.self.value.list l.row
