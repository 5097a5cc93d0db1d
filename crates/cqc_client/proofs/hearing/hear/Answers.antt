use Rattle.std.proofs.Common.{rules, [], ◌++◌, refl, ◌∙◌, arith}
use Rattle.qron_link.proofs.Known.{read_none, written_none, written_on}
use Rattle.qron_link.proofs.Fills.{took_on}
use Rattle.cqc_client.proofs.Hearings.{nothing_heard, still_early, hear_more, hear_stop}
use Rattle.cqc_client.proofs.hearing.hear.Goals as goal

pub loop-last-init : goal.loop-last-init
loop-last-init g c = (
  [],
  [],
  record { read = read_none _ _ refl; paid = omega arith },
  written_none _ _ refl,
  nothing_heard _,
  omega arith,
  omega arith,
  refl,
  refl,
  g.met.L.Link.leads_nowhere _,
  g.met.S.Sink.writes_nowhere _,
)

pub loop-last-preserved : goal.loop-last-preserved
loop-last-preserved g c =
    let kept = c.loop-last.invariant in
    let t = c.in-Ok.ensures.heard in (
      kept.0 ++ t.0,
      kept.1 ++ t.1,
      took_on _ _ _ _ _ _ _ _ kept.2 t.2,
      written_on _ _ _ _ _ kept.3 t.3,
      hear_more _ _ _ _ _ _ (still_early _ _ _ _ (search rules) kept.4) t.4,
      omega (arith, c.in-Ok.ensures.reads),
      omega (arith, c.in-Ok.ensures.prints),
      c.in-Ok.ensures.held ∙ kept.7,
      c.in-Ok.ensures.write_faults ∙ kept.8,
      g.met.L.Link.leads_on _ _ _ kept.9 c.in-Ok.ensures.led,
      g.met.S.Sink.writes_on _ _ _ kept.10 c.in-Ok.ensures.written,
    )

pub returns-in-Err-clause-heard : goal.returns-in-Err-clause-heard
returns-in-Err-clause-heard g c =
    let kept = c.loop-last.invariant in
    let t = c.in-Err.ensures.heard in
    let part = hear_stop _ _ _ _ _ _ _ _ (still_early _ _ _ _ (search rules) kept.4) t.4 in
    (kept.0 ++ t.0, kept.1 ++ t.1, took_on _ _ _ _ _ _ _ _ kept.2 t.2, written_on _ _ _ _ _ kept.3 t.3, part)
