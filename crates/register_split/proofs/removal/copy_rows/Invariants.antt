use Rattle.std.proofs.Common.{◌≡◌}
use Rattle.omega_ring.specs.Views.{weight_value}
use Rattle.register_split.proofs.Drafts.{IsCopying}
use Rattle.register_split.proofs.KeptWeights.{kept_to}
use Rattle.register_split.proofs.removal.copy_rows.Given as goal

abbrev pub invariant-loop-row : goal.invariant-loop-row
invariant-loop-row l = record { copying : IsCopying l.place l.bit l.row l.fn.reg l.reg; weight : weight_value l.weight ≡ kept_to l.place l.bit l.fn.reg.value.list l.row }
