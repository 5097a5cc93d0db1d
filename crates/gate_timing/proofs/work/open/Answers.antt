use Rattle.std.proofs.Common.{ap}
use Rattle.amplitude_register.specs.States.{RegisterState}
use Rattle.gate_timing.proofs.Dense.{one_divisors, first_row_one, first_row_small}
use Rattle.gate_timing.proofs.work.open.Goals as goal

pub seal-requires-clause-divisors : goal.seal-requires-clause-divisors
seal-requires-clause-divisors c = one_divisors _ (first_row_one c.args.numbers.now c.begin.new.self c.put.new.self (ap (λ (t : RegisterState). t.next) c.begin.ensures) (ap (λ (t : RegisterState). t.next) c.put.ensures))

pub seal-requires-clause-small : goal.seal-requires-clause-small
seal-requires-clause-small c = first_row_small c.args.numbers.now c.begin.new.self c.put.new.self (ap (λ (t : RegisterState). t.next) c.begin.ensures) (ap (λ (t : RegisterState). t.next) c.put.ensures)
