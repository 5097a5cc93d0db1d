use Rattle.state_model.specs.Gate.{matrix}
use Rattle.state_model.specs.declared.Gate.TheVariants.{H}
use Rattle.amplitude_register.proofs.RowPairs.{IsGateUntil}
use Rattle.amplitude_register.proofs.rows.mix.Given as goal

abbrev pub invariant-loop-row : goal.invariant-loop-row
invariant-loop-row l = IsGateUntil (matrix H) l.place l.fn.list l.list l.row
