use Rattle.std.proofs.Common.{refl, sym, ap, ◌∙◌, arith}
use Rattle.session_model.specs.Walk.{Connection}
use Rattle.cqc_session.specs.State.{State}
use Rattle.cqc_server.proofs.Working.{seen_alike, served_one, stands_still}
use Rattle.cqc_server.proofs.worker.Worker.serve_link.Goals as goal

pub returns-clause-served : goal.returns-clause-served
returns-clause-served g c =
    let worker = c.args.self.now in
    let begun = c.begin.ensures in
    let did = c.serve_session-ending.ensures in
    let shut = c.close.ensures in
    let seat = ap (λ (s : State). s.connection.seat) begun in
    let serial = ap (λ (s : State). s.connection.serial) begun in
    let node = ap (λ (s : State). s.connection.node) begun ∙ worker.node_is in
    served_one _ g.met.D.Link.Link.leads_on _ _ _ _ _ _ _ _ c.serve_session-ending.new.link _ c.begin.new.self.connection
    (c.seat.ensures ∙ ap (λ (p : Connection). p.seat) did.connection, sym serial, sym node) (ap (λ (s : State). s.cap) begun ∙ worker.reads)
    (seat ∙ worker.seat_is, serial ∙ c.len-serial.ensures, node) did.served did.worded did.cause did.led shut.step (seen_alike _ _ shut.left shut.held shut.read_faults shut.write_faults)
    did.seen did.pass did.waited did.gave_up
    (stands_still _ _ _ (record { led = g.met.D.Door.leads_nowhere _; node = refl; key = did.key; times = did.times }) refl (omega arith) (omega arith))
