use Rattle.std.proofs.Common.{unsigned_abs}
use Rattle.amplitude_register.proofs.balancing.+balance.Given as goal

abbrev pub decreases-balance : goal.decreases-balance
decreases-balance l = unsigned_abs l.weight.x
