use Rattle.std.proofs.Common.{◌+◌, ◌*◌, length}
use Rattle.hub_timing.proofs.shared.answered.Given as goal

abbrev pub ghosts-turned-N-Named : goal.ghosts-turned-N-Named
ghosts-turned-N-Named g a = record { table = a.blank }

abbrev pub ghosts-turned-N-Framed : goal.ghosts-turned-N-Framed
ghosts-turned-N-Framed g a = record { shape = a.shape; capacity = 1048576; cells = length a.shape.places + 1 + length a.shape.places * a.shape.room; seats = a.load.threads }
