use Rattle.amplitude_register.proofs.TwoGates.{IsNegatedUntil}
use Rattle.amplitude_register.proofs.controlled.negate_where.Given as goal

abbrev pub invariant-loop-row : goal.invariant-loop-row
invariant-loop-row l = IsNegatedUntil l.one l.two l.fn.list l.list l.row
