use Rattle.amplitude_register.proofs.Fields.{unlisted}
use Rattle.std.proofs.Common.{arith}
use Rattle.amplitude_register.proofs.fronts.place_in.Goals as goal

pub returns : goal.returns
returns c = unlisted c.args.list.now c.args.q (λ j l. c.loop-k.invariant j (omega arith))
