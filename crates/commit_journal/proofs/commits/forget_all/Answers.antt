use Rattle.std.proofs.Common.{List, sym, subst, ap, arith}
use Rattle.register_locks.specs.declared.slot.Slot.{Slot}
use Rattle.register_locks.specs.Slots.{Holding}
use Rattle.commit_journal.specs.Views.{Stamp}
use Rattle.commit_journal.specs.Holding.{AllFit, AreIdle, forgotten_stamp}
use Rattle.commit_journal.proofs.Slots.{hold_length, hold_step, hold_done}
use Rattle.commit_journal.proofs.Ends.{forgotten_fit, forgotten_idle}
use Rattle.commit_journal.proofs.commits.forget_all.Goals as goal

pub at-requires : goal.at-requires
at-requires g c =
    let f = forgotten_stamp g.C.Cells.forgotten in
    (omega arith, omega (arith, hold_length f c.args.hold.now c.loop-place.hold c.loop-place.place c.loop-place.invariant, c.len-place-end.ensures, c.loop-place-test.true))

pub loop-place-preserved : goal.loop-place-preserved
loop-place-preserved g c =
    let f = forgotten_stamp g.C.Cells.forgotten in
    hold_step f c.args.hold.now c.loop-place.hold c.loop-place.place c.loop-place.invariant c.at.result.now c.forget.new.self
    (omega (arith, c.len-place-end.ensures, c.loop-place-test.true)) c.at.ensures.value c.forget.ensures

pub returns-clause-forgotten : goal.returns-clause-forgotten
returns-clause-forgotten g c =
    let f = forgotten_stamp g.C.Cells.forgotten in
    hold_done f c.args.hold.now c.loop-place.hold c.loop-place.place c.loop-place.invariant (omega (arith, c.len-place-end.ensures, c.loop-place-test.false))

pub returns-clause-idle : goal.returns-clause-idle
returns-clause-idle g c =
    let now = ap (λ (h : Holding (Stamp g.row.C.Denot)). h.slots) (returns-clause-forgotten g c) in
    subst (λ (ss : List (Slot (Stamp g.row.C.Denot))). AreIdle g.C.Cells.has_next ss) (sym now)
    (forgotten_idle g.C.Cells.forgotten c.args.hold.now.slots g.C.Cells.has_next g.met.C.Cells.none_forgotten)

pub returns-clause-fits : goal.returns-clause-fits
returns-clause-fits g c log all =
    let now = ap (λ (h : Holding (Stamp g.row.C.Denot)). h.slots) (returns-clause-forgotten g c) in
    subst (λ (ss : List (Slot (Stamp g.row.C.Denot))). AllFit g.C.Cells.fits g.N.Framed.shape ss log) (sym now)
    (forgotten_fit g.C.Cells.forgotten c.args.hold.now.slots g.C.Cells.fits g.N.Framed.shape log (λ n x fit. g.met.C.Cells.value_stays g.N.Framed.shape n x log fit) all)
