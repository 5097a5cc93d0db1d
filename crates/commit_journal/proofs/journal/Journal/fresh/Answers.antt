use Rattle.std.proofs.Common.{◌≡◌, ◌<◌, ℕ, length, ap, sym, ◌∙◌, arith, subst, List}
use Rattle.std.specs.Prelude.{slice_index, IfSome}
use Rattle.std.proofs.lemmas.List.{get_or_read}
use mathlib.Core.List.{IsPrefix}
use Rattle.network_model.specs.declared.Entry.{Entry}
use Rattle.commit_journal.specs.Views.{Stamp}
use Rattle.commit_journal.specs.Keeping.{LastTouch}
use Rattle.commit_journal.proofs.Histories.{fits_whole}
use Rattle.commit_journal.proofs.Journals.{some_fits}
use Rattle.commit_journal.proofs.journal.Journal.fresh.Goals as goal

pub returns-clause-ok : goal.returns-clause-ok
returns-clause-ok g c =
    let cell = c.cell.inside in
    let seen : List Entry = cell.front.seen in
    let log : List Entry = c.self.inside.entries.items in
    let kept : List ℕ = c.self.inside.kept.items in
    let keeps = c.self.invariant.1 in
    let shape = g.N.Framed.shape in
    let within : cell.number < length kept = omega (arith, c.cell.invariant.2, keeps.cells_kept) in
    let number_is : slice_index kept cell.number ≡ length seen =
    sym (get_or_read kept _ _ within c.index-kept.ensures 0) ∙ (c.if-kept-found.false ∙ c.cell.invariant.1) in
    let last : LastTouch shape cell.number log (length seen) = subst (λ (k : ℕ). LastTouch shape cell.number log k) number_is (keeps.touched cell.number c.cell.invariant.2) in
    let prefix : IsPrefix seen log =
    subst (λ (l : List Entry). IsPrefix l log) (ap (λ s. s.seen) c.copy-front.ensures.copied)
    (subst (λ (l : List Entry). IsPrefix c.copy-front.result.seen l) c.self.invariant.0 c.meet.ensures.prefix) in
    let fits = some_fits (λ (x : g.row.C.Denot) (l : List Entry). g.C.Cells.fits shape cell.number x l) cell.cell seen log
    (λ x fit. fits_whole shape cell.number (λ (l : List Entry). g.C.Cells.fits shape cell.number x l)
    (λ h e legal f missed. g.met.C.Cells.stays shape cell.number x h e keeps.limit legal f missed) seen log keeps.legal prefix last.behind fit) c.cell.invariant.0 in
    subst (λ (s : Stamp g.row.C.Denot). IfSome s.cell (λ x. g.C.Cells.fits shape s.number x c.args.self.now) × LastTouch shape s.number c.args.self.now (length s.seen)) c.cell.view_is
    (subst (λ (l : List Entry). IfSome cell.cell (λ x. g.C.Cells.fits shape cell.number x l) × LastTouch shape cell.number l (length seen)) c.self.view_is (fits, last))
