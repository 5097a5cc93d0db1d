use Rattle.quantum_hub.proofs.Taken.{are_apart}
use Rattle.quantum_hub.proofs.gathering.apart.Goals as goal

pub returns : goal.returns
returns g c = are_apart c.args.hold.now.slots c.args.next c.args.hold.now.count c.numbers_rise.ensures c.requires
