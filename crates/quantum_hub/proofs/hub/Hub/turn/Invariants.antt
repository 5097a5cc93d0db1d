use Rattle.std.proofs.Common.{◌≡◌, ◌≤◌}
use Rattle.quantum_hub.specs.Calls.{HasWaited}
use Rattle.quantum_hub.proofs.hub.Hub.turn.Given as goal

abbrev pub invariant-loop : goal.invariant-loop
invariant-loop g l =
    (goal.iterator-loop g).can_next l.iterator' × (goal.iterator-loop g).is_finite l.iterator'
    × HasWaited l.initial.pass l.pass
    × (g.D.Dice.taken l.dice ≡ g.D.Dice.taken l.initial.dice) × (g.D.Dice.key l.dice ≡ g.D.Dice.key l.initial.dice)
    × (g.D.Dice.begun_seat l.dice ≡ g.D.Dice.begun_seat l.initial.dice) × (g.D.Dice.begun_serial l.dice ≡ g.D.Dice.begun_serial l.initial.dice)
    × (l.missed ≤ 4)
