use Rattle.amplitude_register.proofs.TwoGates.{IsExchangedUntil}
use Rattle.amplitude_register.proofs.controlled.exchange_where.Given as goal

abbrev pub invariant-loop-row : goal.invariant-loop-row
invariant-loop-row l = IsExchangedUntil l.control l.target l.fn.list l.list l.row
