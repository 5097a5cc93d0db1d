-- The least number of a list, and a search for the least number that is not listed, step by step.
use Prim.Native.Nat.{zero, suc}
use Rattle.std.proofs.Common.{◌≡◌, ℕ, ◌+◌, ◌-◌, ◌<◌, ◌≤◌, ◌↔◌, ◌||◌, min, true, false, cond, List, [], ◌∷◌, Option, IfSome, IsNone, length, fold, refl, subst, sym, ap, ◌∙◌, arith}
use Rattle.std.specs.List.{reduce}
use Rattle.state_model.specs.Row.{is_listed}
use Rattle.network_model.specs.Step.{least_from, least_free, least}
use Rattle.network_model.proofs.Least.{least_listed}
use Rattle.network_model.proofs.Filters.{least_below}
use Rattle.state_model.proofs.Booleans.{clash, eq_true}

pub least_starts : (taken : List ℕ) (held : ℕ) → held ≡ length taken → least_from 0 (held - 0) taken ≡ least_free taken
unfolding least_free
least_starts taken held e = ap (λ k. least_from 0 k taken) (all held e)
  where
    all : (n : ℕ) → n ≡ length taken → n - 0 ≡ length taken
    all n f = omega arith

-- one step, where numbers are left to be tried
one_step : (id held r : ℕ) (taken : List ℕ) → id < held → least_from id (held - id) taken ≡ r → cond (is_listed taken id) (least_from (id + 1) (held - (id + 1)) taken) id ≡ r
unfolding least_from
one_step id held r taken more e = sym (ap (λ k. least_from id k taken) next) ∙ e
  where
    next : held - id ≡ suc (held - (id + 1))
    next = omega arith

pub least_goes_on : (id held r : ℕ) (taken : List ℕ) → id < held → is_listed taken id ≡ true → least_from id (held - id) taken ≡ r → least_from (id + 1) (held - (id + 1)) taken ≡ r
least_goes_on id held r taken more listed e = sym (ap (λ b. cond b (least_from (id + 1) (held - (id + 1)) taken) id) listed) ∙ one_step id held r taken more e

pub least_found : (id held r : ℕ) (taken : List ℕ) → id < held → is_listed taken id ≡ false → least_from id (held - id) taken ≡ r → id ≡ r
least_found id held r taken more free e = sym (ap (λ b. cond b (least_from (id + 1) (held - (id + 1)) taken) id) free) ∙ one_step id held r taken more e

pub least_ends : (id held r : ℕ) (taken : List ℕ) → held ≤ id → least_from id (held - id) taken ≡ r → id ≡ r
unfolding least_from
least_ends id held r taken none e = sym (ap (λ k. least_from id k taken) (nothing_left)) ∙ e
  where
    nothing_left : held - id ≡ zero
    nothing_left = omega arith

-- what holds of a listed number that none is below holds of the least
pub least_is : (ids : List ℕ) (r : Option ℕ) (P : ℕ → Type 0) → r ≡ reduce min ids → ((id : ℕ) → is_listed ids id ≡ true → ((other : ℕ) → is_listed ids other ≡ true → id ≤ other) → P id) → IfSome r P
unfolding least is_listed
least_is [] r P e h = subst (λ o. IfSome o P) (sym e) tt
least_is (n ∷ ns) r P e h = subst (λ o. IfSome o P) (sym e) (h (fold min n ns) (least_listed (n ∷ ns) n (ap (λ b. b || is_listed ns n) (eq_true n n refl))) (λ other listed. least_below (n ∷ ns) other listed))

-- there is no least exactly where nothing is listed
pub no_least : (ids : List ℕ) (r : Option ℕ) → r ≡ reduce min ids → IsNone r ↔ (ids ≡ [])
no_least [] r e = (λ n. refl, λ n. subst IsNone (sym e) refl)
no_least (n ∷ ns) r e = (λ none. absurd (clash (subst IsNone e none)), λ none. cc)
