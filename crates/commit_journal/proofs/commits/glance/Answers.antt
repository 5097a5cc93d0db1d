use Rattle.std.proofs.Common.{List, refl, sym, subst, ap}
use Rattle.register_locks.specs.declared.slot.Slot.{Slot}
use Rattle.register_locks.specs.Slots.{Holding}
use Rattle.commit_journal.specs.Views.{Stamp}
use Rattle.commit_journal.specs.Holding.{AllFit, AreFresh, map_values, forgotten_stamp}
use Rattle.commit_journal.proofs.Keeps.{seen_all}
use Rattle.commit_journal.proofs.Ends.{forgotten_fresh, told_as}
use Rattle.commit_journal.proofs.commits.glance.Goals as goal

pub returns-clause-current : goal.returns-clause-current
returns-clause-current g c = (λ ok. c.in_ok-compare.ensures.current, λ current. refl)

pub returns-clause-fits : goal.returns-clause-fits
returns-clause-fits g c =
    let before = subst (λ (h : Holding (Stamp g.row.C.Denot)). AllFit g.C.Cells.fits g.N.Framed.shape h.slots c.args.journal.now) (sym c.compare.ensures.hold) c.in_ok-compare.ensures.fits in
    c.forget_all.ensures.fits c.args.journal.now before

pub returns-clause-fresh : goal.returns-clause-fresh
returns-clause-fresh g c =
    let forgotten = g.C.Cells.forgotten in
    let slots = ap (λ (h : Holding (Stamp g.row.C.Denot)). map_values (forgotten_stamp forgotten) h.slots) c.compare.ensures.hold in
    let now = ap (λ (h : Holding (Stamp g.row.C.Denot)). h.slots) c.forget_all.ensures.forgotten in
    subst (λ (ss : List (Slot (Stamp g.row.C.Denot))). AreFresh g.N.Framed.shape ss c.args.journal.now) (sym now)
    (subst (λ (ss : List (Slot (Stamp g.row.C.Denot))). AreFresh g.N.Framed.shape ss c.args.journal.now) (sym slots)
    (forgotten_fresh forgotten c.args.hold.now.slots g.N.Framed.shape c.args.journal.now c.in_ok-compare.ensures.current.cells))

pub returns-clause-seen : goal.returns-clause-seen
returns-clause-seen g c =
    let current = c.in_ok-compare.ensures.current in
    seen_all c.args.pass.now c.tell.new.pass c.args.journal.now c.in_ok-compare.ensures.prefix current.counted c.in_ok-compare.ensures.kept.0
    (told_as c.compare.new.pass c.args.pass.now c.tell.new.pass c.compare.new.journal c.args.journal.now c.compare.ensures.pass c.compare.ensures.journal c.tell.ensures.pass)
