use Rattle.std.proofs.Common.{◌≡◌}
use Rattle.commit_journal.specs.Holding.{committed_stamp, mapped_below, AreMarked}
use Rattle.commit_journal.proofs.entering.settle_all.Given as goal

abbrev pub invariant-loop-place : goal.invariant-loop-place
invariant-loop-place g l = (l.pen ≡ l.initial.pen)
    × (l.hold ≡ record l.initial.hold { slots = mapped_below l.place (committed_stamp g.C.Cells.has_next g.C.Cells.settled l.initial.pen) l.initial.hold.slots })
    × AreMarked g.C.Cells.has_next l.place l.initial.hold.slots l.count l.initial.kept.items l.kept.items
