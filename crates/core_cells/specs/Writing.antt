-- What is read of a list behind a write.
use Rattle.std.proofs.Common.{◌≡◌, ◌≢◌, ℕ, zero, suc, ◌==◌, Bool, true, false, cond, List, [], ◌∷◌, Some, IsSome, slice_get, slice_set, refl, sym, ap, ◌∙◌}
use mathlib.Core.Bool.{false≢true}
use Rattle.state_model.proofs.Booleans.{eq_of, ne_of}

pub get_set : {A : Type 0} (xs : List A) (k : ℕ) (w : A) → IsSome (slice_get xs k) → slice_get (slice_set xs k w) k ≡ Some w
get_set [] k w has = absurd (false≢true has)
get_set (x ∷ xs) zero w has = refl
get_set (x ∷ xs) (suc k) w has = get_set xs k w has

pub get_beside : {A : Type 0} (xs : List A) (k m : ℕ) (w : A) → m ≢ k → slice_get (slice_set xs k w) m ≡ slice_get xs m
get_beside [] k m w other = refl
get_beside (x ∷ xs) zero zero w other = absurd (other refl)
get_beside (x ∷ xs) zero (suc m) w other = refl
get_beside (x ∷ xs) (suc k) zero w other = refl
get_beside (x ∷ xs) (suc k) (suc m) w other = get_beside xs k m w (λ e. other (ap suc e))

pub set_is_put : {A : Type 0} (xs : List A) (k m : ℕ) (w : A) → IsSome (slice_get xs k) → slice_get (slice_set xs k w) m ≡ cond (m == k) (Some w) (slice_get xs m)
set_is_put xs k m w has = by (m == k) refl
  where
    by : (b : Bool) → (m == k) ≡ b → slice_get (slice_set xs k w) m ≡ cond (m == k) (Some w) (slice_get xs m)
    by true e = ap (slice_get (slice_set xs k w)) (eq_of m k e) ∙ get_set xs k w has ∙ sym (ap (λ b. cond b (Some w) (slice_get xs m)) e)
    by false e = get_beside xs k m w (ne_of m k e) ∙ sym (ap (λ b. cond b (Some w) (slice_get xs m)) e)
