use Rattle.omega_ring.proofs.LaneParity.{odd_chunk}
use Rattle.omega_ring.proofs.lanes.is_odd_chunk.Goals as goal

pub returns : goal.returns
returns c = odd_chunk c.args.i c.args.a.now c.args.b.now c.args.c.now c.args.d.now _ _ _ _ record { first = c.load-p.ensures; second = c.load-q.ensures; third = c.load-r.ensures; fourth = c.load-s.ensures }
