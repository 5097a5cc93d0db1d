use Rattle.std.proofs.Common.{rules}
use Rattle.cqc_server.proofs.Zipped.{zipped}
use Rattle.cqc_server.proofs.jobs.do_all.Goals as goal

pub returns : goal.returns
returns g c =
    zipped _ c.args.jobs.now c.for_each_mut.new.s c.for_each_mut.auto.s
    (λ i d within.
    let x = (c.for_each_mut.ensures i d within).1 in
    record { old = x.argument.now; new = x.after_call.now; old_is = x.argument_is; new_is = x.left; holds = search rules })
