-- Passes that are compared with a journal one after the other.
use Rattle.std.proofs.Common.{◌≡◌, ℕ, zero, suc, ◌+◌, ◌<◌, List, [], ◌∷◌, length, take, Some, slice_get, slice_set, get_or, refl, ap, sym, ◌∙◌, subst, arith}
use Rattle.std.proofs.lemmas.Option.{same_Some, slice_get_within, slice_get-get_or}
use mathlib.Core.Logic.{dite}
use native.Mathlib.Decide.{ℕ_discrete}
use mathlib.Core.List.{IsPrefix}
use Rattle.network_model.specs.declared.Entry.{Entry}
use Rattle.commit_journal.specs.Keeping.{AreSeated}
use Rattle.commit_journal.specs.Views.{Worker, IsCounted, AreCounted, HaveMade}
use Rattle.commit_journal.proofs.Staleness.{get_take}

pub set_same : {A : Type 0} (xs : List A) (k : ℕ) (x : A) → slice_get xs k ≡ Some x → slice_set xs k x ≡ xs
set_same [] k x at = refl
set_same (y ∷ xs) zero x at = ap (λ z. z ∷ xs) (sym (same_Some y x at))
set_same (y ∷ xs) (suc k) x at = ap (λ l. y ∷ l) (set_same xs k x at)

-- what is known of the first passes
abbrev pub AreCompared : List Worker → List Entry → ℕ → Type 0
AreCompared passes h place = (k : ℕ) (p : Worker) → k < place → slice_get passes k ≡ Some p → IsPrefix p.seen h × IsCounted p h

pub compared_more : (ps : List Worker) (h : List Entry) (place : ℕ) (w : Worker) → AreCompared ps h place → slice_get ps place ≡ Some w → IsPrefix w.seen h × IsCounted w h → AreCompared ps h (place + 1)
compared_more ps h place w below at this k p lt there = dite (ℕ_discrete k place)
    (λ is. subst (λ (q : Worker). IsPrefix q.seen h × IsCounted q h) (same_Some w p (sym at ∙ ap (slice_get ps) (sym is) ∙ there)) this)
    (λ apart. below k p (omega arith) there)

pub compared_before : (ps : List Worker) (h : List Entry) (place : ℕ) → AreCompared ps h place → AreCounted (take place ps) h
compared_before ps h place below k p there = let r = get_take ps place k p there in (below k p r.0 r.1).1

-- passes of all seats, in order, made the history
pub have_made : (ps : List Worker) (h : List Entry) (seats : ℕ) → AreCompared ps h (length ps) → length ps ≡ seats → AreSeated seats h
    → ((k : ℕ) (p : Worker) → slice_get ps k ≡ Some p → p.seat ≡ k) → HaveMade ps h
have_made ps h seats all many seated order = record {
  prefixes = λ k p at. (all k p (slice_get_within ps k p at) at).0;
  counted = λ k p at. (all k p (slice_get_within ps k p at) at).1;
  others = λ i e at.
      let lt = seated i e at in
      let none : Worker = record { seat = 0; made = 0; seen = [] } in
      let there = slice_get-get_or ps e.call.seat none (omega arith) in
      (e.call.seat, get_or ps e.call.seat none, there, order e.call.seat (get_or ps e.call.seat none) there);
}
