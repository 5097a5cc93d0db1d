use Rattle.omega_ring.proofs.signs.+exceeds.Given as goal

abbrev pub decreases-exceeds : goal.decreases-exceeds
decreases-exceeds l = l.b
