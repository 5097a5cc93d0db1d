use Rattle.std.proofs.Common.{rules}
use Rattle.amplitude_register.proofs.MixedParities.{joined_even}
use Rattle.amplitude_register.proofs.mixing.joined.Goals as goal

pub returns : goal.returns
returns c = joined_even c.args.m c.args.n c.ranges.m c.ranges.n (search rules)
