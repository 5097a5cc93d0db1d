use Rattle.std.proofs.Common.{ap, map}
use Rattle.amplitude_register.proofs.Fields.{take_four}
use Rattle.omega_ring.specs.Views.{omega_value}
use Rattle.amplitude_register.proofs.fronts.write_pair.Goals as goal

pub returns-clause-written : goal.returns-clause-written
returns-clause-written c = ap (map omega_value) (take_four c.args.entries.now.items _ _ _ _ c.requires)
