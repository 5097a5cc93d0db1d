use Rattle.std.proofs.Common.{◌≡◌, ◌≤◌, length, slice_get, Some, ap, subst, ◌∙◌, arith}
use Rattle.std.specs.Prelude.{IfSome}
use Rattle.register_locks.specs.Slots.{Holding, slot_value}
use Rattle.commit_journal.specs.Keeping.{LastTouch}
use Rattle.commit_journal.specs.Views.{Stamp}
use Rattle.commit_journal.proofs.Slots.{hold_same, below_more, below_all, below_take, slot_there}
use Rattle.commit_journal.proofs.Journals.{fits_of}
use Rattle.commit_journal.proofs.comparing.compare_cells.Goals as goal

pub returns-in-Err-clause-hold : goal.returns-in-Err-clause-hold
returns-in-Err-clause-hold g c =
    let size = ap (λ (h : Holding (Stamp g.row.C.Denot)). length h.slots) c.loop-place.invariant.1 in
    hold_same c.loop-place.hold c.loop-place.place c.at.result.now c.fresh.new.cell (omega (arith, size, c.len-place-end.ensures, c.loop-place-test.true)) c.at.ensures.value c.fresh.ensures.cell
    ∙ c.loop-place.invariant.1

pub loop-place-preserved : goal.loop-place-preserved
loop-place-preserved g c =
    let P : Stamp g.row.C.Denot → Type 0 = λ v. IfSome v.cell (λ x. g.C.Cells.fits g.N.Framed.shape v.number x c.args.journal.now) × LastTouch g.N.Framed.shape v.number c.args.journal.now (length v.seen) in
    let size = ap (λ (h : Holding (Stamp g.row.C.Denot)). length h.slots) c.loop-place.invariant.1 in
    let at = subst (λ (h : Holding (Stamp g.row.C.Denot)). IfSome (slice_get h.slots c.loop-place.place) (λ s. slot_value s ≡ Some c.at.result.now)) c.loop-place.invariant.1 c.at.ensures.value in
    let p : P c.at.result.now =
    subst (λ l. IfSome c.at.result.now.cell (λ x. g.C.Cells.fits g.N.Framed.shape c.at.result.now.number x l) × LastTouch g.N.Framed.shape c.at.result.now.number l (length c.at.result.now.seen)) c.loop-place.invariant.0 c.in_default.ensures.ok in (
      c.fresh.ensures.same ∙ c.loop-place.invariant.0,
      hold_same c.loop-place.hold c.loop-place.place c.at.result.now c.fresh.new.cell (omega (arith, size, c.len-place-end.ensures, c.loop-place-test.true)) c.at.ensures.value c.fresh.ensures.cell
          ∙ c.loop-place.invariant.1,
      below_more P c.args.hold.now.slots c.loop-place.place c.at.result.now c.loop-place.invariant.2 at p,
    )

pub returns-clause-fits : goal.returns-clause-fits
returns-clause-fits g c =
    let P : Stamp g.row.C.Denot → Type 0 = λ v. IfSome v.cell (λ x. g.C.Cells.fits g.N.Framed.shape v.number x c.args.journal.now) × LastTouch g.N.Framed.shape v.number c.args.journal.now (length v.seen) in
    let past : length c.args.hold.now.slots ≤ c.loop-place.place = omega (arith, c.len-place-end.ensures, c.loop-place-test.false) in
    λ v x held is. fits_of (λ x. g.C.Cells.fits g.N.Framed.shape v.number x c.args.journal.now) v.cell x is (below_all P c.args.hold.now.slots c.loop-place.place past c.loop-place.invariant.2 v held).0

pub returns-clause-fresh : goal.returns-clause-fresh
returns-clause-fresh g c =
    let P : Stamp g.row.C.Denot → Type 0 = λ v. IfSome v.cell (λ x. g.C.Cells.fits g.N.Framed.shape v.number x c.args.journal.now) × LastTouch g.N.Framed.shape v.number c.args.journal.now (length v.seen) in
    let past : length c.args.hold.now.slots ≤ c.loop-place.place = omega (arith, c.len-place-end.ensures, c.loop-place-test.false) in
    λ v held. (below_all P c.args.hold.now.slots c.loop-place.place past c.loop-place.invariant.2 v held).1

pub returns-in-Err-clause-stale : goal.returns-in-Err-clause-stale
returns-in-Err-clause-stale g c =
    let P : Stamp g.row.C.Denot → Type 0 = λ v. IfSome v.cell (λ x. g.C.Cells.fits g.N.Framed.shape v.number x c.args.journal.now) × LastTouch g.N.Framed.shape v.number c.args.journal.now (length v.seen) in
    let size = ap (λ (h : Holding (Stamp g.row.C.Denot)). length h.slots) c.loop-place.invariant.1 in
    let at = subst (λ (h : Holding (Stamp g.row.C.Denot)). IfSome (slice_get h.slots c.loop-place.place) (λ s. slot_value s ≡ Some c.at.result.now)) c.loop-place.invariant.1 c.at.ensures.value in
    let there = slot_there c.args.hold.now.slots c.loop-place.place c.at.result.now (omega (arith, c.len-place-end.ensures, c.loop-place-test.true)) at in
    let stale = c.in-Err.ensures.stale in
    record {
      place = c.loop-place.place;
      slot = there.0;
      cell = c.at.result.now;
      there = there.1;
      held = there.2;
      before = λ v held. (below_take P c.args.hold.now.slots c.loop-place.place c.loop-place.invariant.2 v held).1;
      number = stale.0;
      found = stale.1;
      kept = subst (λ l. LastTouch g.N.Framed.shape c.at.result.now.number l c.in-Err.stale.kept) c.loop-place.invariant.0 stale.2;
      differ = stale.3;
    }
