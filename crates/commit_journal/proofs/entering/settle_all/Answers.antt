use Rattle.std.proofs.Common.{◌<◌, length, ap, ◌∙◌, arith}
use Rattle.commit_journal.specs.Holding.{committed_stamp}
use Rattle.commit_journal.proofs.Slots.{hold_length, hold_at, hold_step, hold_done, held_place}
use Rattle.commit_journal.proofs.Marks.{next_of, marks_more}
use Rattle.commit_journal.proofs.entering.settle_all.Goals as goal

pub at-requires : goal.at-requires
at-requires g c =
    let f = committed_stamp g.C.Cells.has_next g.C.Cells.settled c.args.pen.now in
    (omega arith, omega (arith, hold_length f c.args.hold.now c.loop-place.hold c.loop-place.place c.loop-place.invariant.1, c.len-place-end.ensures, c.loop-place-test.true))

pub settle_cell-requires-clause-next : goal.settle_cell-requires-clause-next
settle_cell-requires-clause-next g c =
    let f = committed_stamp g.C.Cells.has_next g.C.Cells.settled c.args.pen.now in
    let lt : c.loop-place.place < length c.args.hold.now.slots = omega (arith, c.len-place-end.ensures, c.loop-place-test.true) in
    let at = hold_at f c.args.hold.now c.loop-place.hold c.loop-place.place c.loop-place.invariant.1 c.at.result.now c.at.ensures.value in
    next_of g.C.Cells.fits g.C.Cells.has_next g.C.Cells.settled g.N.Framed.shape c.args.hold.now.slots c.args.pen.now c.loop-place.pen c.at.result.now
    c.requires.next (held_place c.args.hold.now.slots c.loop-place.place c.at.result.now lt at) c.loop-place.invariant.0

pub loop-place-preserved : goal.loop-place-preserved
loop-place-preserved g c =
    let hn = g.C.Cells.has_next in
    let st = g.C.Cells.settled in
    let f = committed_stamp hn st c.args.pen.now in
    let lt : c.loop-place.place < length c.args.hold.now.slots = omega (arith, c.len-place-end.ensures, c.loop-place-test.true) in
    let at = hold_at f c.args.hold.now c.loop-place.hold c.loop-place.place c.loop-place.invariant.1 c.at.result.now c.at.ensures.value in (
      c.settle_cell.ensures.pen ∙ c.loop-place.invariant.0,
      hold_step f c.args.hold.now c.loop-place.hold c.loop-place.place c.loop-place.invariant.1 c.at.result.now c.settle_cell.new.cell lt c.at.ensures.value
          (c.settle_cell.ensures.cell ∙ ap (λ l. committed_stamp hn st l c.at.result.now) c.loop-place.invariant.0),
      marks_more hn c.args.hold.now.slots c.loop-place.place c.at.result.now c.args.count c.args.kept.now.items c.loop-place.kept.items c.settle_cell.new.kept.items lt at c.loop-place.invariant.2 c.settle_cell.ensures.kept,
    )

pub returns-clause-hold : goal.returns-clause-hold
returns-clause-hold g c =
    let f = committed_stamp g.C.Cells.has_next g.C.Cells.settled c.args.pen.now in
    hold_done f c.args.hold.now c.loop-place.hold c.loop-place.place c.loop-place.invariant.1 (omega (arith, c.len-place-end.ensures, c.loop-place-test.false))
