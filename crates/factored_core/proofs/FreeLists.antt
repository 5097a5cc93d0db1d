-- Free numbers and free slots: those below a bound that are not taken. `least_is_least_free` and `least_free_is_listed` tell
-- of the least one; `one_taken` and `one_freed` of what is free when one is taken or given back.
use Rattle.std.proofs.Common.{◌≡◌, ℕ, ◌<◌, ◌≤◌, ◌==◌, nat_lt, Bool, true, false, not, ◌&&◌, ◌||◌, List, [], ◌∷◌, ◌++◌, refl, sym, ap, subst, ◌∙◌, arith, ltb-true, ltb-false}
use Rattle.state_model.specs.Row.{is_listed}
use Rattle.state_model.proofs.Booleans.{clash, both_true, eq_of, eq_flip, or_false}
use Rattle.state_model.proofs.Numbers.{is_listed-snoc}
use Rattle.network_model.specs.Step.{least_free}
use Rattle.network_model.proofs.Least.{least_free_new}
use Rattle.network_model.proofs.Added.{least_free_low}

-- the numbers below a bound that are not taken are free
abbrev pub AreFree : ℕ → List ℕ → List ℕ → Type 0
AreFree bound taken free = (q : ℕ) → is_listed free q ≡ (nat_lt q bound && not (is_listed taken q))

-- a lesser number, as a test
pub less_true : (m n : ℕ) → m < n → nat_lt m n ≡ true
less_true m n h = by (nat_lt m n) refl
  where
    by : (t : Bool) → nat_lt m n ≡ t → nat_lt m n ≡ true
    by true e = e
    by false e = absurd (let f = ltb-false m n e in omega (arith, f))

-- two booleans that imply one another
pub both_ways : (a b : Bool) → (a ≡ true → b ≡ true) → (b ≡ true → a ≡ true) → a ≡ b
both_ways true b h k = sym (h refl)
both_ways false true h k = k refl
both_ways false false h k = refl

-- a list with one number more
pub listed_with : (xs : List ℕ) (n q : ℕ) → is_listed (xs ++ n ∷ []) q ≡ (is_listed xs q || (q == n))
unfolding is_listed
listed_with xs n q = is_listed-snoc xs (n ∷ []) q ∙ ap (λ b. is_listed xs q || b) (or_false (n == q) ∙ eq_flip n q)

module _ (bound : ℕ) (taken free : List ℕ) (are : AreFree bound taken free) where
  -- the least listed number is the least that is not taken
  pub least_is_least_free : (n : ℕ) → is_listed free n ≡ true → ((m : ℕ) → m < n → is_listed free m ≡ false) → n ≡ least_free taken
  least_is_least_free n listed least = joined (least_free taken) n (least_free_low taken n unlisted) (by (nat_lt (least_free taken) n) refl)
    where
      parts : (nat_lt n bound ≡ true) × (not (is_listed taken n) ≡ true)
      parts = both_true (nat_lt n bound) (not (is_listed taken n)) (sym (are n) ∙ listed)

      flip : (b : Bool) → not b ≡ true → b ≡ false
      flip true e = absurd (clash (sym e))
      flip false e = refl

      unlisted : is_listed taken n ≡ false
      unlisted = flip (is_listed taken n) (parts.1)

      joined : (a b : ℕ) → a ≤ b → b ≤ a → b ≡ a
      joined a b h k = omega arith

      lower : (a b c : ℕ) → a < b → b < c → a < c
      lower a b c h k = omega arith

      by : (t : Bool) → nat_lt (least_free taken) n ≡ t → n ≤ least_free taken
      by true e =
          let less = ltb-true (least_free taken) n e in
          let within = less_true (least_free taken) bound (lower (least_free taken) n bound less (ltb-true n bound (parts.0))) in
          absurd (clash (sym (are (least_free taken) ∙ ap (λ b. b && not (is_listed taken (least_free taken))) within ∙ ap not (least_free_new taken)) ∙ least (least_free taken) less))
      by false e = let f = ltb-false (least_free taken) n e in omega (arith, f)

  -- the least that is not taken is listed, where it is below the bound
  pub least_free_is_listed : least_free taken < bound → is_listed free (least_free taken) ≡ true
  least_free_is_listed h = are (least_free taken) ∙ ap (λ b. b && not (is_listed taken (least_free taken))) (less_true (least_free taken) bound h) ∙ ap not (least_free_new taken)

  -- one is taken
  pub one_taken : (n : ℕ) (taken' free' : List ℕ) → ((q : ℕ) → is_listed free' q ≡ (is_listed free q && not (q == n))) → ((q : ℕ) → is_listed taken' q ≡ (is_listed taken q || (q == n))) → AreFree bound taken' free'
  one_taken n taken' free' less more q =
      less q ∙ ap (λ b. b && not (q == n)) (are q) ∙ by (nat_lt q bound) (is_listed taken q) (q == n) ∙ sym (ap (λ b. nat_lt q bound && not b) (more q))
    where
      by : (x y z : Bool) → ((x && not y) && not z) ≡ (x && not (y || z))
      by true true z = refl
      by true false z = refl
      by false y z = refl

  -- one is given back
  pub one_freed : (n : ℕ) → n < bound → (taken' free' : List ℕ) → ((q : ℕ) → is_listed free' q ≡ (is_listed free q || (q == n))) → ((q : ℕ) → is_listed taken' q ≡ (is_listed taken q && not (q == n))) → AreFree bound taken' free'
  one_freed n within taken' free' more less q =
      more q ∙ ap (λ b. b || (q == n)) (are q) ∙ by (nat_lt q bound) (is_listed taken q) (q == n) (λ e. less_true q bound (subst (λ k. k < bound) (sym (eq_of q n e)) within)) ∙ sym (ap (λ b. nat_lt q bound && not b) (less q))
    where
      by : (x y z : Bool) → (z ≡ true → x ≡ true) → ((x && not y) || z) ≡ (x && not (y && not z))
      by true true true h = refl
      by true true false h = refl
      by true false true h = refl
      by true false false h = refl
      by false y true h = absurd (clash (sym (h refl)))
      by false y false h = refl
