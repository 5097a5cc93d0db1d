-- The slots in which live numbers have their homes, when numbers come, go and move.
use Rattle.std.proofs.Common.{◌≡◌, ◌≢◌, ℕ, ◌+◌, ◌<◌, ◌≤◌, ◌==◌, Bool, true, false, not, cond, ◌&&◌, ◌||◌, List, [], ◌∷◌, ◌++◌, map, length, count_by, refl, sym, ap, subst, ◌∙◌, arith}
use Rattle.std.proofs.lemmas.List.{map-append, length-map}
use Rattle.std.proofs.lemmas.List.Filters.{length-filter_both}
use Rattle.state_model.specs.Row.{is_listed, without}
use Rattle.state_model.proofs.Booleans.{clash, both_true, eq_true, eq_false, eq_of, ne_of, or_true}
use Rattle.state_model.proofs.Numbers.{is_listed-without, was_listed}
use Rattle.state_model.proofs.Kept.{is_listed-map}
use Rattle.network_model.specs.Factored.{used_slots, moved, gathered}
use Rattle.network_model.specs.Step.{least_free}
use Rattle.network_model.proofs.Added.{least_free_high}
use Rattle.network_model.proofs.Filters.{filter_once}
use Rattle.network_model.proofs.Homes.{at_moved, moved_other}
use Rattle.factored_core.proofs.Loads.{least_free_same}
use Rattle.factored_core.proofs.FreeLists.{both_ways, listed_with}

-- what is listed by a map comes from a listed number
pub mapped_from : (f : ℕ → ℕ) (xs : List ℕ) (t : ℕ) → is_listed (map f xs) t ≡ true → (x : ℕ) × (is_listed xs x ≡ true) × (f x ≡ t)
unfolding is_listed
mapped_from f [] t h = cc
mapped_from f (x ∷ xs) t h = by (f x == t) refl (mapped_from f xs t)
  where
    by : (b : Bool) → (f x == t) ≡ b → (is_listed (map f xs) t ≡ true → (y : ℕ) × (is_listed xs y ≡ true) × (f y ≡ t)) → (y : ℕ) × (((x == y) || is_listed xs y) ≡ true) × (f y ≡ t)
    by true e again = (x, ap (λ b. b || is_listed xs x) (eq_true x x refl), eq_of (f x) t e)
    by false e again =
        let found = again (sym (ap (λ b. b || is_listed (map f xs) t) e) ∙ h) in
        (found.0, ap (λ b. (x == found.0) || b) (found.1) ∙ or_true (x == found.0), found.2)

-- maps that agree on the list are the same
pub map_same : (f g : ℕ → ℕ) (xs : List ℕ) → ((x : ℕ) → is_listed xs x ≡ true → f x ≡ g x) → map f xs ≡ map g xs
unfolding is_listed
map_same f g [] h = refl
map_same f g (x ∷ xs) h =
    ap (λ y. y ∷ map f xs) (h x (ap (λ b. b || is_listed xs x) (eq_true x x refl)))
    ∙ ap (λ l. g x ∷ l) (map_same f g xs (λ y i. h y (ap (λ b. (x == y) || b) i ∙ or_true (x == y))))

still_listed : (live : List ℕ) (q x : ℕ) → is_listed live x ≡ true → x ≢ q → is_listed (without live q) x ≡ true
still_listed live q x i e = is_listed-without live q x ∙ ap (λ b. b && not (x == q)) i ∙ ap not (eq_false x q e)

not_it : (live : List ℕ) (q x : ℕ) → is_listed (without live q) x ≡ true → x ≢ q
not_it live q x i e = clash (sym ((both_true (is_listed live x) (not (x == q)) (sym (is_listed-without live q x) ∙ i)).1) ∙ ap not (eq_true x q e))

-- as many slots as numbers are listed
pub length_used : (live : List ℕ) (home : ℕ → ℕ) → length (used_slots live home) ≡ length live
unfolding used_slots
length_used live home = length-map live home

-- a list without one of its numbers
pub one_less : (xs : List ℕ) (q : ℕ) → count_by (λ p. p == q) xs ≤ 1 → is_listed xs q ≡ true → length (without xs q) + 1 ≡ length xs
unfolding without
one_less xs q once i =
    let others = length-filter_both (λ p. p == q) (λ p. not (p == q)) (λ p. refl) xs in
    let one = ap length (filter_once xs q once i) in
    omega arith

-- a slot is used where a live number has its home there
pub used_by : (live : List ℕ) (home : ℕ → ℕ) (t x : ℕ) → is_listed live x ≡ true → home x ≡ t → is_listed (used_slots live home) t ≡ true
unfolding used_slots
used_by live home t x i e = subst (λ n. is_listed (map home live) n ≡ true) e (is_listed-map home live x i)

pub user_of : (live : List ℕ) (home : ℕ → ℕ) (t : ℕ) → is_listed (used_slots live home) t ≡ true → (x : ℕ) × (is_listed live x ≡ true) × (home x ≡ t)
unfolding used_slots
user_of live home t h = mapped_from home live t h

module _ (live : List ℕ) (home : ℕ → ℕ) where
  -- a new number at a slot
  pub used_with : (p slot : ℕ) → is_listed live p ≡ false → (t : ℕ) → is_listed (used_slots (live ++ p ∷ []) (moved home p slot)) t ≡ (is_listed (used_slots live home) t || (t == slot))
  unfolding used_slots
  used_with p slot new t =
      ap (λ l. is_listed l t) (map-append (moved home p slot) live (p ∷ [])
      ∙ ap (λ l. l ++ moved home p slot p ∷ []) (map_same (moved home p slot) home live (λ x i. moved_other home p slot x (λ e. clash (sym i ∙ ap (is_listed live) e ∙ new))))
      ∙ ap (λ n. map home live ++ n ∷ []) (at_moved home p slot))
      ∙ listed_with (map home live) slot t

  -- the one number of a slot goes
  pub used_without_alone : (q : ℕ) → ((x : ℕ) → is_listed live x ≡ true → home x ≡ home q → x ≡ q)
      → (t : ℕ) → is_listed (used_slots (without live q) home) t ≡ (is_listed (used_slots live home) t && not (t == home q))
  used_without_alone q alone t = both_ways _ _ to from
    where
      to : is_listed (used_slots (without live q) home) t ≡ true → (is_listed (used_slots live home) t && not (t == home q)) ≡ true
      to h =
          let user = user_of (without live q) home t h in
          let was = was_listed live q (user.0) (user.1) in
          ap (λ b. b && not (t == home q)) (used_by live home t (user.0) was (user.2))
          ∙ ap not (eq_false t (home q) (λ e. not_it live q (user.0) (user.1) (alone (user.0) was (user.2 ∙ e))))

      from : (is_listed (used_slots live home) t && not (t == home q)) ≡ true → is_listed (used_slots (without live q) home) t ≡ true
      from h =
          let both = both_true (is_listed (used_slots live home) t) (not (t == home q)) h in
          let user = user_of live home t (both.0) in
          used_by (without live q) home t (user.0)
          (still_listed live q (user.0) (user.1) (λ e. clash (sym (both.1) ∙ ap not (eq_true t (home q) (sym (user.2) ∙ ap home e))))) (user.2)

  -- of several numbers at one slot, one goes or moves
  module _ (q r : ℕ) (live_r : is_listed live r ≡ true) (other : r ≢ q) (same : home r ≡ home q) where
    pub used_without_beside : (t : ℕ) → is_listed (used_slots (without live q) home) t ≡ is_listed (used_slots live home) t
    used_without_beside t = both_ways _ _ to from
      where
        to : is_listed (used_slots (without live q) home) t ≡ true → is_listed (used_slots live home) t ≡ true
        to h = let user = user_of (without live q) home t h in used_by live home t (user.0) (was_listed live q (user.0) (user.1)) (user.2)

        by : (x : ℕ) → is_listed live x ≡ true → home x ≡ t → (b : Bool) → (x == q) ≡ b → is_listed (used_slots (without live q) home) t ≡ true
        by x i e true f = used_by (without live q) home t r (still_listed live q r live_r other) (same ∙ ap home (sym (eq_of x q f)) ∙ e)
        by x i e false f = used_by (without live q) home t x (still_listed live q x i (ne_of x q f)) e

        from : is_listed (used_slots live home) t ≡ true → is_listed (used_slots (without live q) home) t ≡ true
        from h = let user = user_of live home t h in by (user.0) (user.1) (user.2) (user.0 == q) refl

    pub used_moved_beside : (slot : ℕ) → is_listed live q ≡ true → (t : ℕ) → is_listed (used_slots live (moved home q slot)) t ≡ (is_listed (used_slots live home) t || (t == slot))
    used_moved_beside slot live_q t = both_ways _ _ to from
      where
        at : (x : ℕ) → is_listed live x ≡ true → moved home q slot x ≡ t → (b : Bool) → (x == q) ≡ b → (is_listed (used_slots live home) t || (t == slot)) ≡ true
        at x i e true f = ap (λ b. is_listed (used_slots live home) t || b) (eq_true t slot (sym e ∙ ap (moved home q slot) (eq_of x q f) ∙ at_moved home q slot)) ∙ or_true (is_listed (used_slots live home) t)
        at x i e false f = ap (λ b. b || (t == slot)) (used_by live home t x i (sym (moved_other home q slot x (ne_of x q f)) ∙ e))

        to : is_listed (used_slots live (moved home q slot)) t ≡ true → (is_listed (used_slots live home) t || (t == slot)) ≡ true
        to h = let user = user_of live (moved home q slot) t h in at (user.0) (user.1) (user.2) (user.0 == q) refl

        by : (x : ℕ) → is_listed live x ≡ true → home x ≡ t → (b : Bool) → (x == q) ≡ b → is_listed (used_slots live (moved home q slot)) t ≡ true
        by x i e true f = used_by live (moved home q slot) t r live_r (moved_other home q slot r other ∙ same ∙ ap home (sym (eq_of x q f)) ∙ e)
        by x i e false f = used_by live (moved home q slot) t x i (moved_other home q slot x (ne_of x q f) ∙ e)

        back : (b : Bool) → is_listed (used_slots live home) t ≡ b → (is_listed (used_slots live home) t || (t == slot)) ≡ true → is_listed (used_slots live (moved home q slot)) t ≡ true
        back true f h = let user = user_of live home t f in by (user.0) (user.1) (user.2) (user.0 == q) refl
        back false f h = used_by live (moved home q slot) t q live_q (at_moved home q slot ∙ sym (eq_of t slot (sym (ap (λ b. b || (t == slot)) f) ∙ h)))

        from : (is_listed (used_slots live home) t || (t == slot)) ≡ true → is_listed (used_slots live (moved home q slot)) t ≡ true
        from h = back (is_listed (used_slots live home) t) refl h

    -- a number beside another leaves a slot below the count of live numbers free
    pub slot_beside : ((x : ℕ) → count_by (λ p. p == x) live ≤ 1) → is_listed live q ≡ true → least_free (used_slots live home) < length live
    slot_beside once live_q = below (least_free (used_slots live home)) (length (without live q)) (length live)
        (subst (λ n. n ≤ length (without live q)) (least_free_same (used_slots (without live q) home) (used_slots live home) used_without_beside) fewest)
        (one_less live q (once q) live_q)
      where
        below : (a b c : ℕ) → a ≤ b → b + 1 ≡ c → a < c
        below a b c h e = omega arith

        fewest : least_free (used_slots (without live q) home) ≤ length (without live q)
        fewest = subst (λ n. least_free (used_slots (without live q) home) ≤ n) (length_used (without live q) home) (least_free_high (used_slots (without live q) home))

  -- two slots become one
  pub used_gathered : (a b : ℕ) → is_listed live a ≡ true → is_listed live b ≡ true → home a ≢ home b
      → (t : ℕ) → is_listed (used_slots live (gathered home a b)) t ≡ (is_listed (used_slots live home) t && not (t == home b))
  used_gathered a b live_a live_b apart t = both_ways _ _ to from
    where
      into : (x : ℕ) → (home x == home b) ≡ true → gathered home a b x ≡ home a
      into x e = unfold gathered in ap (λ t. cond t (home a) (home x)) e

      stays : (x : ℕ) → (home x == home b) ≡ false → gathered home a b x ≡ home x
      stays x e = unfold gathered in ap (λ t. cond t (home a) (home x)) e

      at : (x : ℕ) → is_listed live x ≡ true → gathered home a b x ≡ t → (c : Bool) → (home x == home b) ≡ c → (is_listed (used_slots live home) t && not (t == home b)) ≡ true
      at x i e true f =
          ap (λ u. u && not (t == home b)) (used_by live home t a live_a (sym (into x f) ∙ e))
          ∙ ap not (eq_false t (home b) (λ g. apart (sym (into x f) ∙ e ∙ g)))
      at x i e false f =
          ap (λ u. u && not (t == home b)) (used_by live home t x i (sym (stays x f) ∙ e))
          ∙ ap not (eq_false t (home b) (λ g. ne_of (home x) (home b) f (sym (stays x f) ∙ e ∙ g)))

      to : is_listed (used_slots live (gathered home a b)) t ≡ true → (is_listed (used_slots live home) t && not (t == home b)) ≡ true
      to h = let user = user_of live (gathered home a b) t h in at (user.0) (user.1) (user.2) (home (user.0) == home b) refl

      from : (is_listed (used_slots live home) t && not (t == home b)) ≡ true → is_listed (used_slots live (gathered home a b)) t ≡ true
      from h =
          let both = both_true (is_listed (used_slots live home) t) (not (t == home b)) h in
          let user = user_of live home t (both.0) in
          used_by live (gathered home a b) t (user.0) (user.1)
          (stays (user.0) (eq_false (home (user.0)) (home b) (λ e. clash (sym (both.1) ∙ ap not (eq_true t (home b) (sym (user.2) ∙ e))))) ∙ user.2)
