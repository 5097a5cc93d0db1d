use Rattle.std.proofs.Common.{◌≡◌, ◌<◌, ◌≤◌, ◌+◌, ◌^◌, length, map}
use Rattle.std.specs.Prelude.{All}
use Rattle.qron_link.specs.MemLinks.{Memory}
use Rattle.schedule.specs.Views.{plan}
use Rattle.cqc_server.specs.declared.actor.Actor.{Actor}
use Rattle.qron_cli.specs.Seats.{Seat, all_seated}
use Rattle.qron_cli.proofs.seats.seat_all.Given as goal

abbrev pub invariant-loop-plan : goal.invariant-loop-plan
invariant-loop-plan g l = record {
  seated : map {A = Actor Memory g.row.H-Dice.Denot} {B = Seat} (λ a. record { session = a.session; link = a.link; key = g.H.Dice.Dice.key a.dice; ending = a.ending }) l.actors.items
      ≡ all_seated ((g.H.House.facts l.initial.house).keys l.seed) 0 (map plan l.yielded);
  few : All {X = Actor Memory g.row.H-Dice.Denot} (λ a. length a.link.left < 2 ^ 32) l.actors.items;
  room : length l.actors.items + length l.plan-iterator.rest.items ≤ 64;
  facts : g.H.House.facts l.house ≡ g.H.House.facts l.initial.house;
  pipe : g.H.House.pipe_of l.house ≡ g.H.House.pipe_of l.initial.house;
}
