use Rattle.amplitude_register.proofs.Fields.{take_two}
use Rattle.amplitude_register.proofs.fronts.write_two.Goals as goal

pub returns-clause-written : goal.returns-clause-written
returns-clause-written c = take_two c.args.into.now c.args.p c.args.q (search)
