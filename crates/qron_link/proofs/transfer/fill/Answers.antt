use Rattle.std.proofs.Common.{arith, ◌∙◌}
use Rattle.qron_link.proofs.Fills.{more_filled}
use Rattle.qron_link.proofs.transfer.fill.Goals as goal

pub loop-have-preserved : goal.loop-have-preserved
loop-have-preserved g c =
    let kept = c.loop-have.invariant in
    let read = c.in-Bytes.ensures.bytes in (
      more_filled _ _ _ _ _ c.loop-have.room c.read_link.new.room c.loop-have.have _ c.in-Bytes.n kept.0
          (omega arith) (omega arith) (omega arith) (omega arith) read.2,
      omega (arith, c.in-Bytes.ensures.cause),
      c.read_link.ensures.held ∙ kept.2,
      c.read_link.ensures.write_faults ∙ kept.3,
      g.met.L.Link.leads_on _ _ _ kept.4 c.read_link.ensures.led,
    )
