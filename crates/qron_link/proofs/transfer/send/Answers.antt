use Rattle.std.proofs.Common.{ℕ, arith, length-drop, length-take}
use Rattle.qron_link.proofs.Fills.{sent_more}
use Rattle.qron_link.proofs.transfer.send.Goals as goal

pub loop-done-preserved : goal.loop-done-preserved
loop-done-preserved g c =
    let kept = c.loop-done.invariant in
    let w = c.in-Bytes.ensures.bytes in (
      omega (arith, w.1, length-take {A = ℕ}, length-drop {A = ℕ}),
      sent_more _ _ _ c.args.piece.now c.loop-done.done c.in-Bytes.n kept.1 w.2,
      omega (arith, c.in-Bytes.ensures.cause),
      g.met.S.Sink.writes_on _ _ _ kept.3 c.write.ensures.step,
    )
