use Rattle.omega_ring.proofs.LaneWords.{chunk_sums}
use Rattle.omega_ring.proofs.lanes.weigh_chunk.Goals as goal

pub returns : goal.returns
returns c w h = chunk_sums c.args.i c.args.a.now c.args.b.now c.args.c.now c.args.d.now _ _ _ _ w c.args.sums record { first = c.load-p.ensures; second = c.load-q.ensures; third = c.load-r.ensures; fourth = c.load-s.ensures } h
