use Rattle.std.proofs.Common.{length, Err, ap, ◌∙◌}
use Rattle.quantum_hub.proofs.Waits.{waited_fault, fault_is}
use Rattle.quantum_hub.proofs.looks.end.Goals as goal

pub returns-clause-full : goal.returns-clause-full
returns-clause-full g c full is =
    let at = c.in-Err.is ∙ ap Err (fault_is c.in-Err.fault _ is) in
    let found = (c.commit-committed.ensures.full full).0 at in
    (found.2, ap length (c.commit-committed.ensures.seen full at).seen ∙ found.1)

pub returns-clause-waited : goal.returns-clause-waited
returns-clause-waited g c =
    waited_fault c.commit-committed.result c.in-Err.fault c.args.pass.now c.commit-committed.new.pass _ c.in-Err.is c.commit-committed.ensures.seen c.commit-committed.ensures.unseen
