-- Whether a register has a place for a qubit number is whether it lists it.
use Rattle.std.proofs.Common.{◌≡◌, ℕ, zero, suc, ◌<◌, ◌==◌, true, false, ◌||◌, List, [], ◌∷◌, length, Option, Some, None, is_some, slice_index_or, MatchOption, sym, ap, ◌∙◌, arith}
use Rattle.state_model.specs.Row.{is_listed}
use Rattle.state_model.proofs.Booleans.{eq_true, or_true}

listed_there : (qs : List ℕ) (k q : ℕ) → k < length qs → slice_index_or qs k 0 ≡ q → is_listed qs q ≡ true
unfolding is_listed
listed_there [] k q less is = absurd (omega arith)
listed_there (p ∷ qs) zero q less is = ap (λ b. b || is_listed qs q) (eq_true p q is)
listed_there (p ∷ qs) (suc k) q less is = ap (λ b. (p == q) || b) (listed_there qs k q (omega arith) is) ∙ or_true ((p == q))

pub place_tells : (qs : List ℕ) (q : ℕ) (o : Option ℕ) → MatchOption o (is_listed qs q ≡ false) (λ k. (k < length qs) × (slice_index_or qs k 0 ≡ q)) → is_some o ≡ is_listed qs q
place_tells qs q None h = sym h
place_tells qs q (Some k) h = sym (listed_there qs k q h.0 h.1)
