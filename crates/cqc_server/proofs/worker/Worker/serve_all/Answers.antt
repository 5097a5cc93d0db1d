use Rattle.std.proofs.Common.{refl, ◌∙◌, arith}
use Rattle.cqc_server.proofs.Working.{none_served, worked_out}
use Rattle.cqc_server.proofs.worker.Worker.serve_all.Goals as goal

pub loop-init : goal.loop-init
loop-init g c =
    let served = c.args.self.now.served in
    record {
      worked = none_served _ _ _ _ _ (g.met.D.Door.leads_nowhere _) (c.requires).1 (omega (arith, served.ok.0, (c.requires).0));
      count = (c.requires).0;
      limit = refl;
      seat = refl;
    }

pub returns-in-Err-clause-worked : goal.returns-in-Err-clause-worked
returns-in-Err-clause-worked g c =
    let kept = c.loop.invariant in
    worked_out _ _ _ _ (record { post = c.loop.self.post; pass = c.loop.self.pass; served = c.loop.self.served.items }) _ _ kept.worked
    (omega (arith, kept.count, c.loop.self.served.ok.0, c.loop-test.true)) c.in-Err.ensures.works

pub loop-preserved : goal.loop-preserved
loop-preserved g c =
    let kept = c.loop.invariant in
    let step = c.in_default.ensures in
    record {
      worked = step.works.on _ kept.worked;
      count = omega (arith, step.works.ends, kept.count, c.loop.self.served.ok.0, c.serve_next.new.self.served.ok.0);
      limit = step.limit ∙ kept.limit;
      seat = step.works.seat ∙ kept.seat;
    }
