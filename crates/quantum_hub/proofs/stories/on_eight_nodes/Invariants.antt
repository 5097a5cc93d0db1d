use Rattle.std.proofs.Common.{◌+◌, ◌*◌, length}
use Rattle.quantum_hub.proofs.stories.on_eight_nodes.Given as goal

abbrev pub ghosts-open-N-Named : goal.ghosts-open-N-Named
ghosts-open-N-Named g a = record { table = a.blank }

abbrev pub ghosts-open-N-Framed : goal.ghosts-open-N-Framed
ghosts-open-N-Framed g a = record { shape = a.shape; capacity = a.capacity; cells = length a.shape.places + 1 + length a.shape.places * a.shape.room; seats = a.seats }
