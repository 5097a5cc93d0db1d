use Rattle.std.proofs.Common.{◌≡◌, ◌<◌, ◌+◌, ◌++◌, ◌∷◌, [], length, ℕ, List, ap, sym, subst, ◌∙◌, arith}
use Rattle.network_model.specs.declared.Entry.{Entry}
use Rattle.register_locks.specs.Slots.{Holding}
use Rattle.commit_journal.specs.Keeping.{own_count}
use Rattle.commit_journal.specs.Views.{Stamp, Worker}
use Rattle.commit_journal.specs.Holding.{IsEntered}
use Rattle.commit_journal.proofs.Keeps.{seen_all, added_one, own_more, own_few}
use Rattle.commit_journal.proofs.Ends.{committed_ends, told_as, noted_as}
use Rattle.std.proofs.lemmas.Bool.{false≢true}
use Rattle.commit_journal.specs.declared.fault.Stale.{Stale}
use Rattle.commit_journal.specs.Commits.{IsFirstStale}
use Rattle.commit_journal.proofs.Staleness.{current_not_stale}
use Rattle.commit_journal.proofs.Journals.{room_left}
use Rattle.commit_journal.proofs.commits.commit.Goals as goal

pub enter-requires : goal.enter-requires
enter-requires g c =
    let shape = g.N.Framed.shape in
    let entered = c.requires.cells c.args.journal.now c.len-place.ensures.legal c.in_default.ensures.fits in (
      omega arith,
      (
        room_left c.is_full.result _ _ c.is_full.ensures c.if-is_full.false (omega (arith, ap (length {A = Entry}) c.compare.ensures.journal, c.len-place.ensures.len, c.len-place.ensures.most)),
        (
          subst (λ (n : ℕ). n < g.N.Framed.seats) (sym c.requires.seat) c.in_default.ensures.kept.1,
          subst (λ (h : Holding (Stamp g.row.C.Denot)). IsEntered g.C.Cells.fits g.C.Cells.has_next g.C.Cells.settled shape g.N.Framed.cells h.slots c.compare.new.journal c.args.entry) (sym c.compare.ensures.hold)
              (subst (λ (l : List Entry). IsEntered g.C.Cells.fits g.C.Cells.has_next g.C.Cells.settled shape g.N.Framed.cells c.args.hold.now.slots l c.args.entry) (sym c.compare.ensures.journal) entered),
        ),
      ),
    )

pub note-requires-clause-made : goal.note-requires-clause-made
note-requires-clause-made g c =
    let e : Entry = c.args.entry in
    let old : Worker = c.args.pass.now in
    let now = c.enter.ensures.journal ∙ ap (λ (l : List Entry). l ++ e ∷ []) c.compare.ensures.journal in
    ap (λ (w : Worker). own_count w.seat c.enter.new.self) c.compare.ensures.pass ∙ ap (own_count old.seat) now
    ∙ own_more old.seat old.made c.args.journal.now e c.in_default.ensures.current.counted c.requires.seat ∙ ap (λ (w : Worker). w.made + 1) (sym c.compare.ensures.pass)

pub note-requires-clause-few : goal.note-requires-clause-few
note-requires-clause-few g c =
    let old : Worker = c.args.pass.now in
    let same = ap (λ (w : Worker). w.made) c.compare.ensures.pass in
    let room = room_left c.is_full.result _ _ c.is_full.ensures c.if-is_full.false (omega (arith, ap (length {A = Entry}) c.compare.ensures.journal, c.len-place.ensures.len, c.len-place.ensures.most)) in
    omega (arith, same, c.in_default.ensures.current.counted, own_few old.seat c.args.journal.now, ap (length {A = Entry}) c.compare.ensures.journal, room, c.len-place.ensures.few)

pub returns-in-Err-clause-ok : goal.returns-in-Err-clause-ok
returns-in-Err-clause-ok g c =
    (λ ok. absurd (false≢true ok), λ now. absurd (current_not_stale g.N.Framed.shape g.N.Framed.cells c.args.hold.now.slots c.args.pass.now c.args.journal.now c.in-Err.stale c.in-Err.ensures.stale now.0))

pub returns-in-Err-clause-full : goal.returns-in-Err-clause-full
returns-in-Err-clause-full g c f =
    (λ is. absurd (cc (is)), λ now. absurd (current_not_stale g.N.Framed.shape g.N.Framed.cells c.args.hold.now.slots c.args.pass.now c.args.journal.now c.in-Err.stale c.in-Err.ensures.stale now.0))

pub returns-in-Err-clause-stale : goal.returns-in-Err-clause-stale
returns-in-Err-clause-stale g c s is =
    let same : c.in-Err.stale ≡ s = cc (is) in
    subst (λ (t : Stale). IsFirstStale g.N.Framed.shape g.N.Framed.cells c.args.hold.now.slots c.args.pass.now c.args.journal.now t) same c.in-Err.ensures.stale

pub returns-then-is_full-clause-seen : goal.returns-then-is_full-clause-seen
returns-then-is_full-clause-seen g c f is =
    let ok = c.in_default.ensures in
    seen_all c.args.pass.now c.tell.new.pass c.args.journal.now ok.prefix ok.current.counted ok.kept.0
    (told_as c.compare.new.pass c.args.pass.now c.tell.new.pass c.compare.new.journal c.args.journal.now c.compare.ensures.pass c.compare.ensures.journal c.tell.ensures.pass)

pub returns-clause-fits : goal.returns-clause-fits
returns-clause-fits g c = (committed_ends g.C.Cells.fits g.C.Cells.has_next g.C.Cells.settled g.N.Framed.shape g.N.Framed.cells c.args.hold.now c.compare.new.hold c.enter.new.hold
    c.args.journal.now c.compare.new.journal c.enter.new.self c.note.new.self c.args.entry c.requires.cells c.len-place.ensures.legal c.in_default.ensures.fits c.in_default.ensures.current.cells
    (λ n x legal fit missed. g.met.C.Cells.stays g.N.Framed.shape n x c.args.journal.now c.args.entry c.len-place.ensures.limit legal fit missed)
    c.compare.ensures.hold c.compare.ensures.journal c.note.ensures.same c.enter.ensures.journal c.enter.ensures.hold).0

pub returns-clause-fresh : goal.returns-clause-fresh
returns-clause-fresh g c = (committed_ends g.C.Cells.fits g.C.Cells.has_next g.C.Cells.settled g.N.Framed.shape g.N.Framed.cells c.args.hold.now c.compare.new.hold c.enter.new.hold
    c.args.journal.now c.compare.new.journal c.enter.new.self c.note.new.self c.args.entry c.requires.cells c.len-place.ensures.legal c.in_default.ensures.fits c.in_default.ensures.current.cells
    (λ n x legal fit missed. g.met.C.Cells.stays g.N.Framed.shape n x c.args.journal.now c.args.entry c.len-place.ensures.limit legal fit missed)
    c.compare.ensures.hold c.compare.ensures.journal c.note.ensures.same c.enter.ensures.journal c.enter.ensures.hold).1

pub returns-clause-added : goal.returns-clause-added
returns-clause-added g c =
    let ok = c.in_default.ensures in
    let h = c.args.journal.now in
    let e : Entry = c.args.entry in
    let entered = c.requires.cells h c.len-place.ensures.legal ok.fits in
    let now = c.enter.ensures.journal ∙ ap (λ (l : List Entry). l ++ e ∷ []) c.compare.ensures.journal in
    added_one g.N.Framed.shape c.args.pass.now c.note.new.pass h e ok.prefix ok.current.counted ok.kept.0 entered.legal
    (noted_as c.compare.new.pass c.args.pass.now c.note.new.pass c.enter.new.self (h ++ e ∷ []) c.compare.ensures.pass now c.note.ensures.pass)
