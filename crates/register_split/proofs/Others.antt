-- Numbers without the one at a place, number by number.
use Prim.Native.Nat.{zero, suc}
use Rattle.std.proofs.Common.{◌≡◌, ◌≢◌, ℕ, ◌+◌, ◌-◌, ◌<◌, ◌≤◌, List, [], ◌∷◌, length, take, get_or, slice_set, length-take-le, refl, sym, ap, ◌∙◌, arith, ⊎_elim, get_or-set_other, get_or-set_same}
use Rattle.std.proofs.lemmas.Bool.{cases_lt}
use Rattle.std.proofs.lemmas.List.{ext_get_or, get_or-take}
use Rattle.state_model.specs.Row.{is_listed, without}
use Rattle.state_model.specs.Amplitudes.{AreDistinct}
use Rattle.state_model.proofs.Booleans.{eq_true, eq_false, clash}
use Rattle.state_model.proofs.KeptLists.{without_length}
use Rattle.state_model.proofs.RegisterGates.{at_place}
use Rattle.state_model.proofs.Registers.{IsAt, is_at_listed}
use Rattle.state_model.proofs.Sizes.{without-same, without-other, without_absent}

-- the place of the i-th number among the others
unfoldable pub skip : ℕ → ℕ → ℕ
skip zero i = suc i
skip (suc j) zero = zero
skip (suc j) (suc i) = suc (skip j i)

pub skip_low : (j i : ℕ) → i < j → skip j i ≡ i
unfolding skip
skip_low zero i h = absurd (omega arith)
skip_low (suc j) zero h = refl
skip_low (suc j) (suc i) h = ap suc (skip_low j i (omega arith))

pub skip_high : (j i : ℕ) → j ≤ i → skip j i ≡ i + 1
unfolding skip
skip_high zero i h = omega arith
skip_high (suc j) zero h = absurd (omega arith)
skip_high (suc j) (suc i) h = ap suc (skip_high j i (omega arith)) ∙ omega arith

without_at : (qs : List ℕ) (j q : ℕ) → AreDistinct qs → IsAt qs j q → (i : ℕ) → get_or (without qs q) i 0 ≡ get_or qs (skip j i) 0
unfolding skip
without_at [] j q apart at i = absurd at
without_at (p ∷ qs) zero q apart at i = ap (λ (l : List ℕ). get_or l i 0) (without-same qs p q (eq_true p q at) ∙ without_absent qs q (ap (is_listed qs) (sym at) ∙ apart.0))
without_at (p ∷ qs) (suc j) q apart at zero = ap (λ (l : List ℕ). get_or l 0 0) (without-other qs p q (eq_false p q (λ is. clash (sym (is_at_listed qs j q at) ∙ ap (is_listed qs) (sym is) ∙ apart.0))))
without_at (p ∷ qs) (suc j) q apart at (suc i) =
    ap (λ (l : List ℕ). get_or l (suc i) 0) (without-other qs p q (eq_false p q (λ is. clash (sym (is_at_listed qs j q at) ∙ ap (is_listed qs) (sym is) ∙ apart.0))))
    ∙ without_at qs j q (apart.1) at i

-- ---- the loop
pub more_copied : (qs rest : List ℕ) (j k x : ℕ) → k < length rest → ((i : ℕ) → i < k → get_or rest i 0 ≡ get_or qs (skip j i) 0) → x ≡ get_or qs (skip j k) 0
    → (i : ℕ) → i < k + 1 → get_or (slice_set rest k x) i 0 ≡ get_or qs (skip j i) 0
more_copied qs rest j k x l h e i m = ⊎_elim
    (λ (p : i < k). let ne : i ≢ k = omega arith in rw get_or-set_other (h i p))
    (λ (p : k ≤ i). let is : i ≡ k = omega arith in rw is (rw get_or-set_same e))
    (cases_lt i k)

pub all_copied : (qs rest : List ℕ) (j : ℕ) → AreDistinct qs → j < length qs → length qs ≤ length rest → ((i : ℕ) → i < length qs - 1 → get_or rest i 0 ≡ get_or qs (skip j i) 0)
    → take (length qs - 1) rest ≡ without qs (get_or qs j 0)
all_copied qs rest j apart l room h =
    let n = without_length qs j (get_or qs j 0) apart (at_place qs j l) in
    let t = length-take-le (length qs - 1) rest (omega arith) in
    ext_get_or 0 (take (length qs - 1) rest) (without qs (get_or qs j 0)) (lengths (length (without qs (get_or qs j 0))) n t)
    (λ i m. get_or-take (length qs - 1) rest i 0 (omega (arith, t, m)) ∙ h i (omega (arith, t, m)) ∙ sym (without_at qs j (get_or qs j 0) apart (at_place qs j l) i))
  where
    lengths : (n : ℕ) → suc n ≡ length qs → length (take (length qs - 1) rest) ≡ length qs - 1 → length (take (length qs - 1) rest) ≡ n
    lengths n e f = omega (arith, e, f)

-- the place that the code computes
pub skip_is : (j k r : ℕ) → (k < j → r ≡ k) → (j ≤ k → r ≡ k + 1) → r ≡ skip j k
skip_is j k r low high = ⊎_elim (λ p. low p ∙ sym (skip_low j k p)) (λ p. high p ∙ sym (skip_high j k p)) (cases_lt k j)
