use Rattle.std.proofs.Common.{arith, refl}
use Rattle.cqc_client.proofs.Dues.{body_stops, strange_body}
use Rattle.cqc_client.proofs.due.read_body.Goals as goal

pub returns-in-Err-clause-took : goal.returns-in-Err-clause-took
returns-in-Err-clause-took g c =
    let t = c.in-Err.ensures.took in
    (t.0, t.1, body_stops c.in-Err.stop _ c.args.head.now t.0 _ _ _ c.requires.app c.requires.begins c.requires.size t.2)

pub returns-in-None-clause-took : goal.returns-in-None-clause-took
returns-in-None-clause-took g c =
    let t = c.in_default.ensures.took in
    (t.0, t.1, (strange_body c.args.head.now t.0 c.fill_due.new.room c.requires.app c.requires.begins (omega (arith, t.2)) (omega arith) t.3 c.in-None.ensures, refl))
