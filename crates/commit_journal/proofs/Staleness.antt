-- Numbers that differ from the journal's: one number alone is the kept one, and nothing is stale where all are equal.
use Rattle.std.proofs.Common.{◌≡◌, ℕ, zero, suc, ◌-◌, ◌<◌, List, [], ◌∷◌, Some, length, take, slice_get, sym, ◌∙◌, arith, ⊎_elim}
use Rattle.std.proofs.lemmas.Bool.{cases_order}
use Rattle.state_model.proofs.Booleans.{clash}
use Rattle.network_model.specs.Network.{Shape}
use Rattle.network_model.specs.declared.Entry.{Entry}
use Rattle.register_locks.specs.declared.slot.Slot.{Slot}
use Rattle.commit_journal.specs.declared.fault.Stale.{Stale}
use Rattle.commit_journal.specs.Keeping.{LastTouch}
use Rattle.commit_journal.specs.Views.{Stamp, Worker}
use Rattle.commit_journal.specs.Commits.{AreCurrent, IsFirstStale}

not_later : (shape : Shape) (n : ℕ) (h : List Entry) (a b : ℕ) → LastTouch shape n h a → LastTouch shape n h b → a < b → ⊥
not_later shape n h a b p q lt =
    let t = q.at (omega arith) in
    absurd (clash (sym t.2 ∙ p.behind (b - 1) t.0 (omega arith) t.1))

last_same : (shape : Shape) (n : ℕ) (h : List Entry) (a b : ℕ) → LastTouch shape n h a → LastTouch shape n h b → a ≡ b
last_same shape n h a b p q = ⊎_elim (λ e. e) (λ o. ⊎_elim (λ lt. absurd (not_later shape n h a b p q lt)) (λ lt. absurd (not_later shape n h b a q p lt)) o) (cases_order a b)

pub current_not_stale : {C : Type 0} (shape : Shape) (cells : ℕ) (slots : List (Slot (Stamp C))) (pass : Worker) (h : List Entry) (s : Stale)
    → IsFirstStale shape cells slots pass h s → AreCurrent shape slots pass h → ⊥
current_not_stale shape cells slots pass h s stale current = ⊎_elim
    (λ t. t.differ (last_same shape t.cell.number h s.kept (length t.cell.seen) t.kept (current.cells t.cell (t.place, t.slot, t.there, t.held)) ∙ sym t.found))
    (λ t. t.1.differ (t.1.kept ∙ current.counted ∙ sym t.1.found)) stale

-- what is found in the beginning of a list
pub get_take : {E : Type 0} (xs : List E) (k i : ℕ) (x : E) → slice_get (take k xs) i ≡ Some x → (i < k) × (slice_get xs i ≡ Some x)
get_take xs zero i x at = absurd (cc (at))
get_take [] (suc k) i x at = absurd (cc (at))
get_take (y ∷ ys) (suc k) zero x at = (omega arith, at)
get_take (y ∷ ys) (suc k) (suc i) x at = let r = get_take ys k i x at in ((let lt = r.0 in omega arith), r.1)
