use Rattle.std.proofs.Common.{◌≡◌, [], ◌∷◌, length, ◌∙◌, ap, arith, length-append}
use Rattle.qron_link.specs.MemLinks.{Memory}
use Rattle.cqc_server.specs.declared.actor.Actor.{Actor}
use Rattle.qron_cli.specs.House.{Facts}
use Rattle.qron_cli.specs.Seats.{Seat}
use Rattle.qron_cli.proofs.Seating.{seated_push, few_push, pushed_behind}
use Rattle.qron_cli.proofs.seats.seat_all.Goals as goal

pub overflow_cast-seat : goal.overflow_cast-seat
overflow_cast-seat g c = omega (arith, c.len-seat.ensures, c.loop-plan.actors.ok, c.loop-plan.invariant.room)

pub loop-plan-preserved : goal.loop-plan-preserved
loop-plan-preserved g c =
    let seat : Actor Memory g.row.H-Dice.Denot → Seat = λ a. record { session = a.session; link = a.link; key = g.H.Dice.Dice.key a.dice; ending = a.ending } in
    let key = (g.H.House.facts c.args.house.now).keys c.args.seed.now in
    let inv = c.loop-plan.invariant in
    let same = c.in-Ok.ensures.key ∙ ap (λ (f : Facts). f.keys c.args.seed.now) inv.facts in
    let number : c.len-seat.result ≡ length c.loop-plan.actors.items = omega (arith, c.len-seat.ensures, c.loop-plan.actors.ok) in
    let all = pushed_behind c.push.result c.loop-plan.actors.items c.push.new.self.items c.in-Ok-seat_one.actor c.if-is_err.ensures.value c.push.ensures.items in
    record {
      seated = rw all
          (seated_push seat key _ c.len-seat.result c.loop-plan.actors.items c.loop-plan.yielded c.in-Ok-seat_one.actor c.in-Some.plan inv.seated number same c.in-Ok-seat_one.ensures.seated);
      few = few_push (λ a. a.link.left) c.loop-plan.actors.items _ c.in-Ok-seat_one.actor all inv.few c.in-Ok-seat_one.ensures.few;
      room = omega (arith, inv.room, ap length all, ap length c.in-Some.ensures.steps.0, length-append c.loop-plan.actors.items (c.in-Ok-seat_one.actor ∷ []));
      facts = c.dice.ensures.facts ∙ inv.facts;
      pipe = c.dice.ensures.pipe ∙ inv.pipe;
    }
