use Rattle.quantum_hub.specs.Tries.{AreTaken}
use Rattle.quantum_hub.proofs.gathering.pick_slots.Given as goal

abbrev pub invariant-loop-slot : goal.invariant-loop-slot
invariant-loop-slot g l = AreTaken l.hold.slots l.taken.next
