-- Lists of next values by number: what holds of each, and which numbers are there.
use Rattle.std.proofs.Common.{ℕ, ◌≡◌, ◌==◌, Bool, true, false, cond, ◌||◌, List, [], ◌∷◌, Some, None, is_some, unwrap_or, refl, sym, ap, subst, ◌∙◌}
use Rattle.state_model.proofs.Booleans.{eq_of, eq_true, eq_flip, or_false}
use Rattle.factored_core.specs.Changes.{change_at}

no_some : {A : Type 0} (a : A) → None ≡ Some a → ⊥
no_some a e = cc

-- what holds of each value in a list
pub change_nil : {A : Type 0} (P : ℕ → A → Type 0) (m : ℕ) (n : A) → change_at [] m ≡ Some n → P m n
change_nil P m n e = absurd (no_some n e)

pub change_cons : {A : Type 0} (P : ℕ → A → Type 0) (k : ℕ) (a : A) (xs : List (ℕ × A)) → P k a → ((m : ℕ) (n : A) → change_at xs m ≡ Some n → P m n)
    → (m : ℕ) (n : A) → change_at ((k, a) ∷ xs) m ≡ Some n → P m n
change_cons P k a xs here rest m n = by (m == k) refl
  where
    by : (t : Bool) → (m == k) ≡ t → cond (m == k) (Some a) (change_at xs m) ≡ Some n → P m n
    by true e f =
        let same : a ≡ n = ap (λ o. unwrap_or o a) (sym (ap (λ b. cond b (Some a) (change_at xs m)) e) ∙ f) in
        subst (λ (v : _). P m v) same (subst (λ (i : ℕ). P i a) (sym (eq_of m k e)) here)
    by false e f = rest m n (sym (ap (λ b. cond b (Some a) (change_at xs m)) e) ∙ f)

pub change_one : {A : Type 0} (P : ℕ → A → Type 0) (k : ℕ) (a : A) → P k a → (m : ℕ) (n : A) → change_at ((k, a) ∷ []) m ≡ Some n → P m n
change_one P k a here = change_cons P k a [] here (change_nil P)

-- the numbers of a list
pub number_cons : {A : Type 0} (k : ℕ) (a : A) (xs : List (ℕ × A)) (m : ℕ) → is_some (change_at ((k, a) ∷ xs) m) ≡ ((m == k) || is_some (change_at xs m))
number_cons k a xs m = by (m == k)
  where
    by : (t : Bool) → is_some (cond t (Some a) (change_at xs m)) ≡ (t || is_some (change_at xs m))
    by true = refl
    by false = refl

pub number_one : {A : Type 0} (k : ℕ) (a : A) (m : ℕ) → is_some (change_at ((k, a) ∷ []) m) ≡ (k == m)
number_one k a m = number_cons k a [] m ∙ or_false (m == k) ∙ eq_flip m k

-- a later value hides an earlier one of its number
pub hidden : {A : Type 0} (k : ℕ) (a b : A) (xs : List (ℕ × A)) (m : ℕ) → change_at ((k, a) ∷ (k, b) ∷ xs) m ≡ change_at ((k, a) ∷ xs) m
hidden k a b xs m = by (m == k)
  where
    by : (t : Bool) → cond t (Some a) (cond t (Some b) (change_at xs m)) ≡ cond t (Some a) (change_at xs m)
    by true = refl
    by false = refl

pub own_change : {A : Type 0} (k : ℕ) (a : A) (xs : List (ℕ × A)) → change_at ((k, a) ∷ xs) k ≡ Some a
own_change k a xs = ap (λ b. cond b (Some a) (change_at xs k)) (eq_true k k refl)
