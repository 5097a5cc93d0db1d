use Rattle.std.proofs.Common.{refl, arith}
use Rattle.cqc_server.proofs.Working.{one_more}
use Rattle.cqc_server.proofs.worker.Worker.serve_next.Goals as goal

pub returns-clause-works : goal.returns-clause-works
returns-clause-works g c =
    let worker = c.args.self.now in
    let knock = c.in-Link.ensures in
    let pushed = c.in-Ok.ensures.items in
    let kept = (c.serve_link-connection.ensures.others).0 in
    one_more _ (λ a b d. g.met.D.Door.leads_on a.door b.door d.door) _ _ _ (record worker.post { door = c.next.new.self }) _ _ _ worker.served.items _ c.in-Link.link c.serve_link-connection.result
    (record { same = record { led = knock.led; node = refl; key = refl; times = refl }; handed = knock.handed; faults = knock.faults; closings = knock.closings })
    refl (omega (arith, worker.served.ok.0)) c.serve_link-connection.ensures.served (cc (pushed, kept))
