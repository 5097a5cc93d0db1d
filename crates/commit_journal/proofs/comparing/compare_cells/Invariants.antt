use Rattle.std.proofs.Common.{◌≡◌, length}
use Rattle.std.specs.Prelude.{IfSome}
use Rattle.commit_journal.specs.Keeping.{LastTouch}
use Rattle.commit_journal.proofs.Slots.{HeldBelow}
use Rattle.commit_journal.proofs.comparing.compare_cells.Given as goal

abbrev pub invariant-loop-place : goal.invariant-loop-place
invariant-loop-place g l = (l.journal ≡ l.initial.journal) × (l.hold ≡ l.initial.hold)
    × HeldBelow (λ c. IfSome c.cell (λ x. g.C.Cells.fits g.N.Framed.shape c.number x l.initial.journal) × LastTouch g.N.Framed.shape c.number l.initial.journal (length c.seen)) l.place l.initial.hold.slots
