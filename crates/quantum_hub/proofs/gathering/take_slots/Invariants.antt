use Rattle.quantum_hub.specs.Tries.{AreTaken}
use Rattle.quantum_hub.proofs.gathering.take_slots.Given as goal

abbrev pub invariant-loop-number : goal.invariant-loop-number
invariant-loop-number g l = AreTaken l.hold.slots l.taken.next
