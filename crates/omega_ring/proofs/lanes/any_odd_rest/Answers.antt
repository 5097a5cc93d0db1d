use Rattle.std.proofs.Common.{◌+◌}
use Rattle.omega_ring.proofs.LaneParity.{none_join, none_one}
use Rattle.omega_ring.proofs.lanes.any_odd_rest.Goals as goal

pub loop-i-preserved : goal.loop-i-preserved
loop-i-preserved c =
    let a = c.args.a.now in
    let b = c.args.b.now in
    let i = c.loop-i.i in
    none_join a b c.args.c.now c.args.d.now c.args.start i (i + 1) c.loop-i.invariant (none_one a b c.args.c.now c.args.d.now i (λ odd. absurd (cc (c.is_odd_place.ensures.1 odd))))
