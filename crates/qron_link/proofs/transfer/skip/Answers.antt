use Rattle.std.proofs.Common.{ℕ, ◌≡◌, ◌<◌, ◌++◌, length, arith, ◌∙◌, length-append, length-take, length-drop}
use Rattle.qron_link.proofs.Fills.{took_on}
use Rattle.qron_link.proofs.transfer.skip.Goals as goal

pub loop-done-preserved : goal.loop-done-preserved
loop-done-preserved g c =
    let kept = c.loop-done.invariant in
    let had = kept.0 in
    let t = c.in-Whole.ensures.took in
    let size : length t.0 ≡ c.min-most.result = omega (arith, t.2, length-take {A = ℕ}) in (
      record { taken = had.taken ++ t.0; took = took_on _ _ _ _ _ _ _ _ had.took t.1; size = omega (arith, length-append had.taken t.0, had.size) },
      omega arith,
      omega (arith, length-append {A = ℕ}, length-drop {A = ℕ}, length-take {A = ℕ}),
      omega (arith, c.in-Whole.ensures.cause),
      c.fill.ensures.held ∙ kept.4,
      c.fill.ensures.write_faults ∙ kept.5,
      g.met.L.Link.leads_on _ _ _ kept.6 c.fill.ensures.led,
    )

pub returns-in-Ended-clause-took : goal.returns-in-Ended-clause-took
returns-in-Ended-clause-took g c =
    let had = c.loop-done.invariant.0 in
    let t = c.in-Ended.ensures.took in
    let size : length t.0 < c.min-most.result = omega (arith, t.2.0, length-take {A = ℕ}) in (
      had.taken ++ t.0,
      took_on _ _ _ _ _ _ _ _ had.took t.1,
      (omega (arith, length-append had.taken t.0, had.size), omega (arith, length-append had.taken t.0, had.size, t.2.1), t.2.2),
    )

pub returns-in-Failed-clause-took : goal.returns-in-Failed-clause-took
returns-in-Failed-clause-took g c =
    let had = c.loop-done.invariant.0 in
    let t = c.in-Failed.ensures.took in
    let size : length t.0 < c.min-most.result = omega (arith, t.2, length-take {A = ℕ}) in
    (had.taken ++ t.0, took_on _ _ _ _ _ _ _ _ had.took t.1, omega (arith, length-append had.taken t.0, had.size))

pub returns-in-Spent-clause-took : goal.returns-in-Spent-clause-took
returns-in-Spent-clause-took g c =
    let had = c.loop-done.invariant.0 in
    let t = c.in-Spent.ensures.took in
    let size : length t.0 < c.min-most.result = omega (arith, t.2.0, length-take {A = ℕ}) in
    (had.taken ++ t.0, took_on _ _ _ _ _ _ _ _ had.took t.1, (omega (arith, length-append had.taken t.0, had.size), t.2.1))
