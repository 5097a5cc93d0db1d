use Rattle.std.proofs.Common.{map}
use Rattle.omega_ring.specs.Views.{omega_value, weight_value}
use Rattle.amplitude_register.proofs.Sums.{sum_within, small_of}
use Rattle.amplitude_register.proofs.bounds.bounds.Goals as goal

pub returns-clause-parts : goal.returns-clause-parts
returns-clause-parts c = small_of (map omega_value c.args.list.now) (weight_value c.args.weight) c.requires.weight c.requires.small

pub returns-clause-range : goal.returns-clause-range
returns-clause-range c = sum_within (map omega_value c.args.list.now) (weight_value c.args.weight) c.requires.weight c.requires.small
