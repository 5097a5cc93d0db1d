use Rattle.std.proofs.Common.{List, map, subst, Some, refl}
use Rattle.session_model.specs.Turns.{AreTurns, takers_of}
use Rattle.qron_link.specs.MemLinks.{Memory}
use Rattle.cqc_server.specs.declared.actor.Actor.{Actor}
use Rattle.cqc_server.specs.Replay.{Seen}
use Rattle.cqc_server.proofs.MemoryEnds.{all_same}
use Rattle.cqc_server.proofs.in_memory.replay_in_memory.Goals as goal

pub returns-clause-ends : goal.returns-clause-ends
returns-clause-ends g c =
    let seen : Actor Memory g.row.W.Denot → Seen = λ a. record { session = a.session; left = Some a.link.left; held = Some a.link.held; room = Some a.link.room; read_faults = a.link.read_faults; write_faults = a.link.write_faults; dice = record { key = g.W.Dice.key a.dice; seat = g.W.Dice.begun_seat a.dice; serial = g.W.Dice.begun_serial a.dice; taken = g.W.Dice.taken a.dice }; ending = a.ending } in
    let r = c.replay.ensures.replayed in
    (all_same seen (λ a. a.link) (λ a. record { left = refl; held = refl; room = refl; read_faults = refl; write_faults = refl }) g.W.Dice.word c.args.solo.now.capacity
    c.replay.new.solo.entries c.args.actors.now c.replay.new.actors r.acts r.before_is r.after_is c.requires.links c.replay.ensures.led r.ends).1

pub returns-clause-turns : goal.returns-clause-turns
returns-clause-turns g c =
    let seen : Actor Memory g.row.W.Denot → Seen = λ a. record { session = a.session; left = Some a.link.left; held = Some a.link.held; room = Some a.link.room; read_faults = a.link.read_faults; write_faults = a.link.write_faults; dice = record { key = g.W.Dice.key a.dice; seat = g.W.Dice.begun_seat a.dice; serial = g.W.Dice.begun_serial a.dice; taken = g.W.Dice.taken a.dice }; ending = a.ending } in
    let r = c.replay.ensures.replayed in
    subst (λ ms. AreTurns c.args.solo.now.shape c.args.solo.now.capacity (takers_of c.args.solo.now.capacity ms c.args.order.now) c.args.solo.now.entries c.replay.new.solo.entries)
    (all_same seen (λ a. a.link) (λ a. record { left = refl; held = refl; room = refl; read_faults = refl; write_faults = refl }) g.W.Dice.word c.args.solo.now.capacity
    c.replay.new.solo.entries c.args.actors.now c.replay.new.actors r.acts r.before_is r.after_is c.requires.links c.replay.ensures.led r.ends).0
    r.turns
