use Rattle.std.proofs.Common.{◌*◌, ◌/◌, length}
use Rattle.omega_ring.proofs.LaneParity.{odd_whole}
use Rattle.omega_ring.proofs.lanes.any_odd.Goals as goal

pub returns-else-any_odd_chunks : goal.returns-else-any_odd_chunks
returns-else-any_odd_chunks c =
    odd_whole c.args.a.now c.args.b.now c.args.c.now c.args.d.now (8 * (length c.args.a.now / 8)) c.any_odd_rest.result c.requires
    (λ odd. absurd (cc (c.any_odd_chunks.ensures.1 odd))) c.any_odd_rest.ensures
