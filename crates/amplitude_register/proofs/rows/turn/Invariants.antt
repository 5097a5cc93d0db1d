use Rattle.state_model.specs.Gate.{matrix}
use Rattle.state_model.specs.declared.Gate.TheVariants.{RotZ}
use Rattle.amplitude_register.proofs.RowPairs.{IsGateUntil}
use Rattle.amplitude_register.proofs.rows.turn.Given as goal

abbrev pub invariant-loop-row : goal.invariant-loop-row
invariant-loop-row l = IsGateUntil (matrix (RotZ l.eighths)) l.place l.fn.list l.list l.row
