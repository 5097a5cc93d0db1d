-- The first element of a list that passes a test: where it stands, and the list without it.
-- `removed_first`, `found_at` and `found_none` say what a position tells of `without_first` and `find`.
use Prim.Native.Nat.{zero, suc}
use Rattle.std.proofs.Common.{◌≡◌, ℕ, ◌+◌, ◌<◌, ◌≤◌, Bool, true, false, not, cond, nat_lt, List, [], ◌∷◌, length, get_or, None, Some, find, filter, count_by, position, remove, refl, sym, ap, subst, ◌∙◌, arith}
use Rattle.std.specs.List.{position_or_len, slice_get}
use Rattle.std.proofs.lemmas.List.Folds.{find_at}
use Rattle.std.proofs.lemmas.Option.{slice_get-get_or}
use Rattle.network_model.specs.Step.{without_first}
use Rattle.network_model.proofs.Counting.{count-cons, count_none}
use borrow.Author.Tests.{ltb-true, ltb-false}

-- past the end stands nothing
slice_get_past : {A : Type 0} (xs : List A) (i : ℕ) → length xs ≤ i → slice_get xs i ≡ None
slice_get_past [] i h = refl
slice_get_past (x ∷ xs) zero h = absurd (omega arith)
slice_get_past (x ∷ xs) (suc i) h = slice_get_past xs i (omega arith)

module _ {A : Type 0} (p : A → Bool) where
  -- a place that is given is the first place that passes, and within the list
  pub place_is : (xs : List A) (i : ℕ) → position p xs ≡ Some i → (position_or_len p xs ≡ i) × (i < length xs)
  place_is xs i e = by (nat_lt (position_or_len p xs) (length xs)) refl
    where
      by : (t : Bool) → nat_lt (position_or_len p xs) (length xs) ≡ t → (position_or_len p xs ≡ i) × (i < length xs)
      by true t =
          let is : Some (position_or_len p xs) ≡ Some i = sym (ap (λ b. cond b (Some (position_or_len p xs)) None) t) ∙ e in
          let same : position_or_len p xs ≡ i = cc in
          (same, subst (λ n. n < length xs) same (ltb-true (position_or_len p xs) (length xs) t))
      by false t = let is : None ≡ Some i = sym (ap (λ b. cond b (Some (position_or_len p xs)) None) t) ∙ e in cc

  -- the first element that passes, taken out at its place
  removed_at : (xs : List A) → position_or_len p xs < length xs → remove xs (position_or_len p xs) ≡ without_first p xs
  unfolding without_first
  removed_at [] h = absurd (omega arith)
  removed_at (x ∷ xs) h = by (p x) refl (λ g. removed_at xs g)
    where
      next : (n : ℕ) → 1 + n ≡ suc n
      next n = omega arith

      within : (n m : ℕ) → 1 + n < suc m → n < m
      within n m g = omega arith

      by : (t : Bool) → p x ≡ t → (position_or_len p xs < length xs → remove xs (position_or_len p xs) ≡ without_first p xs)
          → remove (x ∷ xs) (cond (not (p x)) (1 + position_or_len p xs) 0) ≡ cond (p x) xs (x ∷ without_first p xs)
      by true e again = ap (λ b. remove (x ∷ xs) (cond (not b) (1 + position_or_len p xs) 0)) e ∙ sym (ap (λ b. cond b xs (x ∷ without_first p xs)) e)
      by false e again = ap (λ b. remove (x ∷ xs) (cond (not b) (1 + position_or_len p xs) 0)) e ∙ ap (remove (x ∷ xs)) (next (position_or_len p xs)) ∙ ap (λ l. x ∷ l) (again (within (position_or_len p xs) (length xs) (subst (λ b. cond (not b) (1 + position_or_len p xs) 0 < length (x ∷ xs)) e h))) ∙ sym (ap (λ b. cond b xs (x ∷ without_first p xs)) e)

  pub removed_first : (xs : List A) (i : ℕ) → position p xs ≡ Some i → remove xs i ≡ without_first p xs
  removed_first xs i e = let place = place_is xs i e in
      ap (remove xs) (sym (place.0)) ∙ removed_at xs (subst (λ n. n < length xs) (sym (place.0)) (place.1))

  -- the element at the first place that passes is the one that is found
  pub found_at : (xs : List A) (i : ℕ) (d : A) → position p xs ≡ Some i → find p xs ≡ Some (get_or xs i d)
  found_at xs i d e = let place = place_is xs i e in
      find_at p xs ∙ ap (slice_get xs) (place.0) ∙ slice_get-get_or xs i d (place.1)

  -- with no place, nothing is found
  pub found_none : (xs : List A) → position p xs ≡ None → find p xs ≡ None
  found_none xs e = by (nat_lt (position_or_len p xs) (length xs)) refl
    where
      by : (t : Bool) → nat_lt (position_or_len p xs) (length xs) ≡ t → find p xs ≡ None
      by true t = let is : Some (position_or_len p xs) ≡ None = sym (ap (λ b. cond b (Some (position_or_len p xs)) None) t) ∙ e in cc
      by false t = find_at p xs ∙ slice_get_past xs (position_or_len p xs) (ltb-false (position_or_len p xs) (length xs) t)

  -- a test that one element passes at most leaves what a filter leaves
  pub without_first_once : (xs : List A) → count_by p xs ≤ 1 → without_first p xs ≡ filter (λ x. not (p x)) xs
  unfolding without_first
  without_first_once [] h = refl
  without_first_once (x ∷ xs) h = by (p x) refl (λ g. without_first_once xs g)
    where
      few : (t : Bool) → p x ≡ t → cond t 1 0 + count_by p xs ≤ 1
      few t e = subst (λ b. cond b 1 0 + count_by p xs ≤ 1) e (subst (λ n. n ≤ 1) (count-cons p x xs) h)

      none : (n : ℕ) → 1 + n ≤ 1 → n ≡ 0
      none n f = omega arith

      some : (n : ℕ) → 0 + n ≤ 1 → n ≤ 1
      some n f = omega arith

      by : (t : Bool) → p x ≡ t → (count_by p xs ≤ 1 → without_first p xs ≡ filter (λ y. not (p y)) xs)
          → cond (p x) xs (x ∷ without_first p xs) ≡ cond (not (p x)) (x ∷ filter (λ y. not (p y)) xs) (filter (λ y. not (p y)) xs)
      by true t again = ap (λ b. cond b xs (x ∷ without_first p xs)) t ∙ sym (count_none p xs (none (count_by p xs) (few true t))) ∙ sym (ap (λ b. cond (not b) (x ∷ filter (λ y. not (p y)) xs) (filter (λ y. not (p y)) xs)) t)
      by false t again = ap (λ b. cond b xs (x ∷ without_first p xs)) t ∙ ap (λ l. x ∷ l) (again (some (count_by p xs) (few false t))) ∙ sym (ap (λ b. cond (not b) (x ∷ filter (λ y. not (p y)) xs) (filter (λ y. not (p y)) xs)) t)

  -- the element at the first place that passes, as a place gives it
  pub found_there : (xs : List A) (i : ℕ) (x : A) → position p xs ≡ Some i → slice_get xs i ≡ Some x → find p xs ≡ Some x
  found_there xs i x e s = find_at p xs ∙ ap (slice_get xs) ((place_is xs i e).0) ∙ s

  -- of what passes, the first goes
  pub filter-without_first : (xs : List A) (x : A) → find p xs ≡ Some x → filter p xs ≡ x ∷ filter p (without_first p xs)
  unfolding without_first
  filter-without_first [] x e = cc
  filter-without_first (y ∷ xs) x e = by (p y) refl (λ f. filter-without_first xs x f)
    where
      by : (t : Bool) → p y ≡ t → (find p xs ≡ Some x → filter p xs ≡ x ∷ filter p (without_first p xs))
          → cond (p y) (y ∷ filter p xs) (filter p xs) ≡ x ∷ filter p (cond (p y) xs (y ∷ without_first p xs))
      by true t again =
          let is : Some y ≡ Some x = sym (ap (λ b. cond b (Some y) (find p xs)) t) ∙ e in
          let same : y ≡ x = cc in
          ap (λ b. cond b (y ∷ filter p xs) (filter p xs)) t ∙ ap (λ z. z ∷ filter p xs) same ∙ sym (ap (λ b. x ∷ filter p (cond b xs (y ∷ without_first p xs))) t)
      by false t again =
          ap (λ b. cond b (y ∷ filter p xs) (filter p xs)) t ∙ again (sym (ap (λ b. cond b (Some y) (find p xs)) t) ∙ e)
          ∙ sym (ap (λ b. x ∷ cond b (y ∷ filter p (without_first p xs)) (filter p (without_first p xs))) t)
          ∙ sym (ap (λ b. x ∷ filter p (cond b xs (y ∷ without_first p xs))) t)

  -- of what passes only other tests, nothing goes
  pub filter-without_other : (q : A → Bool) → ((x : A) → p x ≡ true → q x ≡ false) → (xs : List A) → filter q (without_first p xs) ≡ filter q xs
  unfolding without_first
  filter-without_other q apart [] = refl
  filter-without_other q apart (y ∷ xs) = by (p y) refl (filter-without_other q apart xs)
    where
      by : (t : Bool) → p y ≡ t → filter q (without_first p xs) ≡ filter q xs → filter q (cond (p y) xs (y ∷ without_first p xs)) ≡ cond (q y) (y ∷ filter q xs) (filter q xs)
      by true t again = ap (λ b. filter q (cond b xs (y ∷ without_first p xs))) t ∙ sym (ap (λ b. cond b (y ∷ filter q xs) (filter q xs)) (apart y t))
      by false t again = ap (λ b. filter q (cond b xs (y ∷ without_first p xs))) t ∙ ap (λ l. cond (q y) (y ∷ l) l) again
