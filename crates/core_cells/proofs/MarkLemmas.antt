-- Marks and the numbers that are marked: `listed_at` reads a mark as whether its number is listed, and what one
-- write of a mark does to the numbers follows.
use Rattle.std.proofs.Common.{◌≡◌, ℕ, zero, suc, ◌+◌, ◌<◌, ◌==◌, Bool, true, false, not, ◌&&◌, ◌||◌, List, [], ◌∷◌, length, replicate, slice_index_or, slice_set, refl, sym, ap, ◌∙◌, arith}
use Rattle.std.proofs.lemmas.List.{get_or-set_same, get_or-set_other}
use Rattle.state_model.specs.Row.{is_listed}
use Rattle.state_model.proofs.Booleans.{clash, eq_true, eq_false, eq_of, ne_of, or_true, or_false, and_true, and_false}
use Rattle.core_cells.specs.Marks.{positions_from, positions, IsLeastListed, IsWithout, IsWith}

-- no number before the first mark is listed
before_from : (marks : List Bool) (n k : ℕ) → k < n → is_listed (positions_from n marks) k ≡ false
unfolding positions_from is_listed
before_from [] n k h = refl
before_from (true ∷ marks) n k h = ap (λ b. b || is_listed (positions_from (n + 1) marks) k) (eq_false n k (λ e. omega arith)) ∙ before_from marks (n + 1) k (omega arith)
before_from (false ∷ marks) n k h = before_from marks (n + 1) k (omega arith)

-- a mark tells whether its number is listed
listed_from : (marks : List Bool) (n q k : ℕ) → k ≡ n + q → is_listed (positions_from n marks) k ≡ slice_index_or marks q false
unfolding positions_from is_listed
listed_from [] n q k e = refl
listed_from (true ∷ marks) n zero k e = ap (λ b. b || is_listed (positions_from (n + 1) marks) k) (eq_true n k (omega arith))
listed_from (false ∷ marks) n zero k e = before_from marks (n + 1) k (omega arith)
listed_from (true ∷ marks) n (suc q) k e = ap (λ b. b || is_listed (positions_from (n + 1) marks) k) (eq_false n k (λ f. omega arith)) ∙ listed_from marks (n + 1) q k (omega arith)
listed_from (false ∷ marks) n (suc q) k e = listed_from marks (n + 1) q k (omega arith)

pub listed_at : (marks : List Bool) (q : ℕ) → is_listed (positions marks) q ≡ slice_index_or marks q false
unfolding positions
listed_at marks q = listed_from marks 0 q q (omega arith)

-- where no mark is set, nothing is listed
unmarked_from : (k n q : ℕ) → is_listed (positions_from n (replicate k false)) q ≡ false
unfolding positions_from is_listed
unmarked_from zero n q = refl
unmarked_from (suc k) n q = unmarked_from k (n + 1) q

pub none_listed : (q : ℕ) → is_listed (positions (replicate 128 false)) q ≡ false
unfolding positions
none_listed q = unmarked_from 128 0 q

-- a mark that is set lies among the marks
set_within : (marks : List Bool) (q : ℕ) → slice_index_or marks q false ≡ true → q < length marks
set_within [] q h = absurd (clash (sym h))
set_within (b ∷ marks) zero h = omega arith
set_within (b ∷ marks) (suc q) h = let rest = set_within marks q h in omega arith

pub listed_below : (marks : List Bool) (q : ℕ) → is_listed (positions marks) q ≡ true → q < length marks
listed_below marks q h = set_within marks q (sym (listed_at marks q) ∙ h)

-- the first mark that is set is the least number
pub least_marked : (marks : List Bool) (n : ℕ) → slice_index_or marks n false ≡ true → ((j : ℕ) → j < n → slice_index_or marks j false ≡ false) → IsLeastListed (positions marks) n
least_marked marks n here before = record { listed = listed_at marks n ∙ here; least = λ m less. listed_at marks m ∙ before m less }

-- where the marks below their count aren't set, nothing is listed
pub nothing_marked : (marks : List Bool) (n : ℕ) → length marks ≡ n → ((j : ℕ) → j < n → slice_index_or marks j false ≡ false) → (q : ℕ) → is_listed (positions marks) q ≡ false
nothing_marked marks n long none q = listed_at marks q ∙ by (slice_index_or marks q false) refl
  where
    by : (b : Bool) → slice_index_or marks q false ≡ b → slice_index_or marks q false ≡ false
    by true e = let within = set_within marks q e in none q (omega arith)
    by false e = e

-- writing a mark
pub cleared : (marks : List Bool) (n : ℕ) → n < length marks → IsWithout n (positions marks) (positions (slice_set marks n false))
cleared marks n within q = listed_at (slice_set marks n false) q ∙ by (q == n) refl
  where
    by : (b : Bool) → (q == n) ≡ b → slice_index_or (slice_set marks n false) q false ≡ (is_listed (positions marks) q && not (q == n))
    by true e =
        ap (λ k. slice_index_or (slice_set marks n false) k false) (eq_of q n e) ∙ get_or-set_same marks n false false within
        ∙ sym (ap (λ b. is_listed (positions marks) q && not b) e ∙ and_false (is_listed (positions marks) q))
    by false e =
        get_or-set_other marks n q false false (ne_of q n e) ∙ sym (listed_at marks q)
        ∙ sym (ap (λ b. is_listed (positions marks) q && not b) e ∙ and_true (is_listed (positions marks) q))

pub marked : (marks : List Bool) (n : ℕ) → n < length marks → IsWith n (positions marks) (positions (slice_set marks n true))
marked marks n within q = listed_at (slice_set marks n true) q ∙ by (q == n) refl
  where
    by : (b : Bool) → (q == n) ≡ b → slice_index_or (slice_set marks n true) q false ≡ (is_listed (positions marks) q || (q == n))
    by true e =
        ap (λ k. slice_index_or (slice_set marks n true) k false) (eq_of q n e) ∙ get_or-set_same marks n true false within
        ∙ sym (ap (λ b. is_listed (positions marks) q || b) e ∙ or_true (is_listed (positions marks) q))
    by false e =
        get_or-set_other marks n q true false (ne_of q n e) ∙ sym (listed_at marks q)
        ∙ sym (ap (λ b. is_listed (positions marks) q || b) e ∙ or_false (is_listed (positions marks) q))
