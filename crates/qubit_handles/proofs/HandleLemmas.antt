-- Handles as a list: what adding and dropping do to the map from names to numbers.
-- `added_distinct` and `dropped_distinct` keep that no name stands twice.
use Rattle.std.proofs.Common.{◌≡◌, ℕ, ◌+◌, ◌≤◌, ◌==◌, Bool, true, false, not, cond, ◌&&◌, List, [], ◌∷◌, ◌++◌, Option, None, Some, IsSome, is_some, ◌||◌, map, length, get_or, find, filter, count_by, option_map, position, remove, refl, sym, ap, subst, ◌∙◌, arith}
use Rattle.network_model.proofs.Counting.{count-cons, count-snoc, count-filter}
use Rattle.state_model.proofs.Booleans.{clash, both_true, eq_of}
use Rattle.std.proofs.lemmas.List.{length-map}
use Rattle.state_model.specs.Row.{is_listed}
use Rattle.network_model.specs.Step.{least_free}
use Rattle.network_model.proofs.Least.{least_free_new}
use Rattle.qubit_handles.proofs.Firsts.{removed_first, found_at, found_none, without_first_once}
use Rattle.qubit_handles.specs.Handle.{is_named, number_of, ids_of, without_handle, AreDistinct}
use Rattle.qubit_handles.specs.declared.handles.Handle.{Handle}

-- a name that isn't held is counted nowhere
pub none_counted : (hs : List Handle) (app id : ℕ) → number_of hs app id ≡ None → count_by (is_named app id) hs ≡ 0
none_counted [] app id e = refl
none_counted (h ∷ hs) app id e = count-cons (is_named app id) h hs ∙ by (is_named app id h) refl (λ f. none_counted hs app id f)
  where
    by : (t : Bool) → is_named app id h ≡ t → (number_of hs app id ≡ None → count_by (is_named app id) hs ≡ 0) → cond (is_named app id h) 1 0 + count_by (is_named app id) hs ≡ 0
    by true t again = let found : Some h.number ≡ None = sym (ap (λ b. option_map (λ g. Handle.number g) (cond b (Some h) (find (is_named app id) hs))) t) ∙ e in cc
    by false t again = rw t (let rest = again (sym (ap (λ b. option_map (λ g. Handle.number g) (cond b (Some h) (find (is_named app id) hs))) t) ∙ e) in omega arith)

-- a handle under a name that isn't held keeps names apart
pub added_distinct : (hs : List Handle) (h : Handle) → AreDistinct hs → number_of hs h.app h.id ≡ None → AreDistinct (hs ++ h ∷ [])
added_distinct hs h apart free app id = subst (λ n. n ≤ 1) (sym (count-snoc (is_named app id) hs h)) (by (is_named app id h) refl)
  where
    by : (t : Bool) → is_named app id h ≡ t → count_by (is_named app id) hs + cond (is_named app id h) 1 0 ≤ 1
    by true t =
        let same = both_true (h.app == app) (h.id == id) t in
        let none : count_by (is_named app id) hs ≡ 0 = none_counted hs app id (subst (λ a. number_of hs a id ≡ None) (eq_of h.app app same.0) (subst (λ i. number_of hs h.app i ≡ None) (eq_of h.id id same.1) free)) in
        subst (λ b. count_by (is_named app id) hs + cond b 1 0 ≤ 1) (sym t) (omega arith)
    by false t = subst (λ b. count_by (is_named app id) hs + cond b 1 0 ≤ 1) (sym t) (let few = apart app id in omega arith)

-- a handle that is held has a place
pub held_place : (hs : List Handle) (app id : ℕ) → IsSome (number_of hs app id) → position (is_named app id) hs ≡ None → ⊥
held_place hs app id held none = clash (sym (subst IsSome (ap (option_map (λ h. Handle.number h)) (found_none (is_named app id) hs none)) held))

-- the number at a handle's place
pub number_at : (hs : List Handle) (app id place : ℕ) (h : Handle) → position (is_named app id) hs ≡ Some place → h ≡ get_or hs place h → number_of hs app id ≡ Some h.number
number_at hs app id place h e is = ap (option_map (λ g. Handle.number g)) (found_at (is_named app id) hs place h e) ∙ ap (λ g. Some (Handle.number g)) (sym is)

-- dropping the one handle of a name leaves all others, in order
pub removed_is : (hs : List Handle) (app id place : ℕ) → AreDistinct hs → position (is_named app id) hs ≡ Some place → remove hs place ≡ without_handle hs app id
removed_is hs app id place apart e = removed_first (is_named app id) hs place e ∙ without_first_once (is_named app id) hs (apart app id)

-- dropping keeps names apart
pub dropped_distinct : (hs : List Handle) (app id : ℕ) → AreDistinct hs → AreDistinct (without_handle hs app id)
dropped_distinct hs app id apart a i =
    let fewer : count_by (is_named a i) (without_handle hs app id) ≤ count_by (is_named a i) hs = count-filter (is_named a i) (λ h. not (is_named app id h)) hs in
    let few = apart a i in omega arith

-- an id is listed exactly where a number is held under it
pub listed_held : (hs : List Handle) (app id : ℕ) → is_listed (ids_of hs app) id ≡ is_some (number_of hs app id)
unfolding is_listed
listed_held [] app id = refl
listed_held (h ∷ hs) app id = by (h.app == app) (h.id == id) refl (listed_held hs app id)
  where
    rest : List Handle
    rest = filter (λ g. Handle.app g == app) hs

    by : (t u : Bool) → (h.id == id) ≡ u → is_listed (ids_of hs app) id ≡ is_some (number_of hs app id)
        → is_listed (map (λ g. Handle.id g) (cond t (h ∷ rest) rest)) id ≡ is_some (option_map (λ g. Handle.number g) (cond (t && u) (Some h) (find (is_named app id) hs)))
    by true true e again = ap (λ b. b || is_listed (ids_of hs app) id) e
    by true false e again = ap (λ b. b || is_listed (ids_of hs app) id) e ∙ again
    by false u e again = again

-- an application has as many ids as handles
pub length-ids_of : (hs : List Handle) (app : ℕ) → length (ids_of hs app) ≡ length (filter (λ h. Handle.app h == app) hs)
length-ids_of hs app = length-map (filter (λ h. Handle.app h == app) hs) (λ h. Handle.id h)

-- nothing is held under the least free id
pub least_is_free : (hs : List Handle) (app id : ℕ) → id ≡ least_free (ids_of hs app) → number_of hs app id ≡ None
least_is_free hs app id e = none (number_of hs app id) (sym (listed_held hs app id) ∙ ap (is_listed (ids_of hs app)) e ∙ least_free_new (ids_of hs app))
  where
    none : (o : Option ℕ) → is_some o ≡ false → o ≡ None
    none None f = refl
    none (Some n) f = cc
