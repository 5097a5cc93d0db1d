use Rattle.amplitude_register.proofs.Fields.{take_one}
use Rattle.amplitude_register.proofs.fronts.write_number.Goals as goal

pub returns-clause-written : goal.returns-clause-written
returns-clause-written c = take_one c.args.into.now c.args.q (search)
