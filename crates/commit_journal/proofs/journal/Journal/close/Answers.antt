use Rattle.std.proofs.Common.{◌≡◌, ◌<◌, List, length, slice_get, slice_set, Some, get_or, refl, ap, sym, ◌∙◌, subst, arith}
use Rattle.std.proofs.lemmas.Option.{slice_get_read, slice_get_within}
use mathlib.Core.List.{IsPrefix}
use Rattle.network_model.specs.declared.Entry.{Entry}
use Rattle.commit_journal.specs.Views.{Worker, IsCounted}
use Rattle.state_model.proofs.Booleans.{clash}
use Rattle.commit_journal.specs.Commits.{IsStalePass}
use Rattle.commit_journal.proofs.Closing.{AreCompared, set_same, compared_more, compared_before, have_made}
use Rattle.commit_journal.proofs.journal.Journal.close.Goals as goal

pub loop-place-preserved : goal.loop-place-preserved
loop-place-preserved g c =
    let ps : List Worker = c.args.passes.items in
    let lt : c.loop-place.place < length ps = omega (arith, c.len-place-end.ensures, c.loop-place-test.true, c.args.passes.ok.0) in
    let read = c.index_mut.ensures.value ∙ ap (λ (l : List Worker). get_or l c.loop-place.place c.index_mut.result.now) c.loop-place.invariant.1 in
    let at : slice_get ps c.loop-place.place ≡ Some c.index_mut.result.now = slice_get_read ps (length ps) c.loop-place.place c.index_mut.result.now refl lt read in (
      c.counted.ensures.same ∙ c.loop-place.invariant.0,
      ap (λ (w : Worker). slice_set c.loop-place.passes.items c.loop-place.place w) c.counted.ensures.pass
          ∙ ap (λ (l : List Worker). slice_set l c.loop-place.place c.index_mut.result.now) c.loop-place.invariant.1 ∙ set_same ps c.loop-place.place c.index_mut.result.now at,
      compared_more ps c.args.self c.loop-place.place c.index_mut.result.now c.loop-place.invariant.2 at
          (subst (λ (l : List Entry). IsPrefix c.index_mut.result.now.seen l × IsCounted c.index_mut.result.now l) c.loop-place.invariant.0 (c.in_default.ensures.prefix, c.in_default.ensures.counted)),
    )

pub returns-in-Err-clause-stale : goal.returns-in-Err-clause-stale
returns-in-Err-clause-stale g c =
    let ps : List Worker = c.args.passes.items in
    let lt : c.loop-place.place < length ps = omega (arith, c.len-place-end.ensures, c.loop-place-test.true, c.args.passes.ok.0) in
    let read = c.index_mut.ensures.value ∙ ap (λ (l : List Worker). get_or l c.loop-place.place c.index_mut.result.now) c.loop-place.invariant.1 in
    record {
      place = c.loop-place.place;
      pass = c.index_mut.result.now;
      there = slice_get_read ps (length ps) c.loop-place.place c.index_mut.result.now refl lt read;
      before = compared_before ps c.args.self c.loop-place.place c.loop-place.invariant.2;
      stale = subst (λ (l : List Entry). IsStalePass g.N.Framed.cells c.index_mut.result.now l c.in-Err.stale) c.loop-place.invariant.0 c.in-Err.ensures.stale;
    }

pub returns-in-Err-clause-counted : goal.returns-in-Err-clause-counted
returns-in-Err-clause-counted g c =
    let first = returns-in-Err-clause-stale g c in
    (λ ok. absurd (clash (sym ok)), λ all. absurd (first.stale.differ (first.stale.kept ∙ all first.place first.pass first.there ∙ sym first.stale.found)))

pub returns-clause-counted : goal.returns-clause-counted
returns-clause-counted g c = (
  λ ok k p at.
      let lt = slice_get_within c.args.passes.items k p at in
      (c.loop-place.invariant.2 k p (omega (arith, lt, c.len-place-end.ensures, c.loop-place-test.false, c.args.passes.ok.0)) at).1,
  λ all. refl,
)

pub returns-clause-made : goal.returns-clause-made
returns-clause-made g c =
    let ps : List Worker = c.args.passes.items in
    let log : List Entry = c.self-2.inside.entries.items in
    let all : AreCompared ps c.args.self (length ps) = λ k p lt at. c.loop-place.invariant.2 k p (omega (arith, lt, c.len-place-end.ensures, c.loop-place-test.false, c.args.passes.ok.0)) at in
    have_made ps log g.N.Framed.seats (subst (λ (l : List Entry). AreCompared ps l (length ps)) (sym (c.self-2.view_is ∙ c.loop-place.invariant.0)) all)
    (omega (arith, c.requires.seats, c.args.passes.ok.0)) c.self-2.invariant.1.seated c.requires.order
