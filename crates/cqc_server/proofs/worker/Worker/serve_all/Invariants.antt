use Rattle.std.proofs.Common.{◌≡◌, vec_len}
use Rattle.cqc_server.specs.Working.{HasWorkedOn}
use Rattle.cqc_server.proofs.worker.Worker.serve_all.Given as goal

abbrev pub invariant-loop : goal.invariant-loop
invariant-loop g l = record {
  worked : HasWorkedOn (record {
    word = g.W.Dice.word;
    post = λ p. record { node = p.node; faults = g.D.Door.faults p.door; closings = g.D.Door.closings p.door; key = g.W.Dice.key p.dice; times = g.P.Patience.times p.patience; gave_up = g.P.Patience.gave_up p.patience };
    handed = λ p. g.D.Door.handed p.door;
    was_led = λ a b. g.D.Door.was_led a.door b.door;
    link = λ link. record { left = g.D.Link.Source.left link; held = g.D.Link.Sink.held link; read_faults = g.D.Link.Source.read_faults link; write_faults = g.D.Link.Sink.write_faults link };
    link_was_led = g.D.Link.Link.was_led;
  }) g.N.Framed.capacity l.initial.self.post l.self.post l.self.pass l.self.served.items;
  count : vec_len l.self.served ≡ l.counter;
  limit : l.self.limit ≡ l.initial.self.limit;
  seat : l.self.pass.seat ≡ l.initial.self.pass.seat;
}
