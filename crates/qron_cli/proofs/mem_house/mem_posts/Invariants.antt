use Rattle.std.proofs.Common.{◌≡◌, ◌+◌, ◌*◌, length}
use Rattle.qron_cli.specs.Posts.{AreFirst}
use Rattle.qron_cli.proofs.mem_house.mem_posts.Given as goal

abbrev pub invariant-loop-door : goal.invariant-loop-door
invariant-loop-door g l = record {
  room : length l.posts.items + length l.door-iterator.rest.items ≡ length l.settings.shape.places * l.settings.workers;
  first : AreFirst l.posts.items
      (λ p. record { node = p.node; faults = p.door.faults; closings = p.door.closings; key = g.D.Dice.key p.dice; times = p.patience.times; gave_up = p.patience.gave_up })
      (g.D.Rolled.key_by l.words.items l.settings.seed) l.settings;
}
