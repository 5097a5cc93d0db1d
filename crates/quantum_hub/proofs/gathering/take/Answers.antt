use Rattle.quantum_hub.proofs.Taken.{taken_more}
use Rattle.quantum_hub.proofs.gathering.take.Goals as goal

pub returns-then-has_room : goal.returns-then-has_room
returns-then-has_room g c = taken_more c.args.hold.now.slots c.take.new.self.slots c.args.taken.now.next c.args.number c.requires c.if-number-taken.true c.take.ensures.taken
