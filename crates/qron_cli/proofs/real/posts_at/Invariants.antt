use Rattle.std.proofs.Common.{◌≡◌, length}
use Rattle.qron_cli.specs.Posts.{AreFirst}
use Rattle.qron_cli.proofs.real.posts_at.Given as goal

abbrev pub invariant-loop-seat : goal.invariant-loop-seat
invariant-loop-seat g l = record {
  many : length l.posts.items ≡ l.seat;
  first : AreFirst l.posts.items
      (λ p. record { node = p.node; faults = p.door.door.faults; closings = 0; key = p.dice.key; times = p.patience.times; gave_up = p.patience.gave_up })
      l.settings.seed l.settings;
}
