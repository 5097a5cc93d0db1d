-- A node that fits a state keeps fitting when both change alike: when a handle or an arrival comes or goes there, or elsewhere.
use Rattle.std.proofs.Common.{◌≡◌, ◌≢◌, ℕ, ◌==◌, Bool, true, false, not, cond, ◌&&◌, List, [], ◌∷◌, ◌++◌, map, filter, find, Option, None, Some, option_map, refl, sym, ap, ◌∙◌}
use Rattle.std.proofs.lemmas.List.{map-append}
use Rattle.std.proofs.lemmas.List.Elements.{filter-append}
use Rattle.state_model.proofs.Booleans.{clash, eq_true, eq_false, eq_of, both_true}
use Rattle.cqc_model.specs.declared.PairInfo.{PairInfo}
use Rattle.network_model.specs.Network.{Network, Held, Waiting, held_number, line_eq, is_in_queue, queue}
use Rattle.network_model.specs.Step.{unheld}
use Rattle.network_model.specs.Factored.{FitsNode}
use Rattle.network_model.specs.declared.Line.{Line}
use Rattle.qubit_handles.specs.Handle.{number_of}
use Rattle.virtual_node.specs.Node.{Node, is_waiting, held_map, arrived_map, told_of, with_handle, without_held, with_arrival}
use Rattle.virtual_node.specs.declared.arrival.Arrival.{Arrival}
use Rattle.virtual_node.proofs.NodeLemmas.{held_map-with_handle, held_map-without_held, held_map-others, arrived_map-with_arrival}

-- ---- lists
-- what is found with one more element behind
find_last : {A : Type 0} (test : A → Bool) (xs : List A) (x : A) → (test x ≡ true → find test xs ≡ None) → find test (xs ++ x ∷ []) ≡ cond (test x) (Some x) (find test xs)
find_last test xs x h = by (test x) refl
  where
    behind : (ys : List _) → find test ys ≡ None → find test (ys ++ x ∷ []) ≡ cond (test x) (Some x) None
    behind [] e = refl
    behind (y ∷ ys) e = at (test y) (behind ys) e
      where
        at : (t : Bool) → (find test ys ≡ None → find test (ys ++ x ∷ []) ≡ cond (test x) (Some x) None) → cond t (Some y) (find test ys) ≡ None → cond t (Some y) (find test (ys ++ x ∷ [])) ≡ cond (test x) (Some x) None
        at true again f = cc
        at false again f = again f

    kept : test x ≡ false → (ys : List _) → find test (ys ++ x ∷ []) ≡ find test ys
    kept e [] = ap (λ b. cond b (Some x) None) e
    kept e (y ∷ ys) = ap (cond (test y) (Some y)) (kept e ys)

    by : (t : Bool) → test x ≡ t → find test (xs ++ x ∷ []) ≡ cond (test x) (Some x) (find test xs)
    by true e = behind xs (h e) ∙ ap (cond (test x) (Some x)) (sym (h e))
    by false e = kept e xs ∙ sym (ap (λ b. cond b (Some x) (find test xs)) e)

-- what passes goes, and is found no more
find_none_left : {A : Type 0} (test : A → Bool) (xs : List A) → find test (filter (λ x. not (test x)) xs) ≡ None
find_none_left test [] = refl
find_none_left test (x ∷ xs) = by (test x) refl (find_none_left test xs)
  where
    by : (t : Bool) → test x ≡ t → find test (filter (λ y. not (test y)) xs) ≡ None → find test (cond (not (test x)) (x ∷ filter (λ y. not (test y)) xs) (filter (λ y. not (test y)) xs)) ≡ None
    by true e h = ap (λ b. find test (cond (not b) (x ∷ filter (λ y. not (test y)) xs) (filter (λ y. not (test y)) xs))) e ∙ h
    by false e h = ap (λ b. find test (cond (not b) (x ∷ filter (λ y. not (test y)) xs) (filter (λ y. not (test y)) xs))) e ∙ ap (λ b. cond b (Some x) (find test (filter (λ y. not (test y)) xs))) e ∙ h

-- what others pass stays
find_others : {A : Type 0} (test stay : A → Bool) (xs : List A) → ((x : A) → stay x ≡ false → test x ≡ false) → find test (filter stay xs) ≡ find test xs
find_others test stay [] h = refl
find_others test stay (x ∷ xs) h = by (stay x) refl (find_others test stay xs h)
  where
    by : (t : Bool) → stay x ≡ t → find test (filter stay xs) ≡ find test xs → find test (cond (stay x) (x ∷ filter stay xs) (filter stay xs)) ≡ cond (test x) (Some x) (find test xs)
    by true e r = ap (λ b. find test (cond b (x ∷ filter stay xs) (filter stay xs))) e ∙ ap (cond (test x) (Some x)) r
    by false e r = ap (λ b. find test (cond b (x ∷ filter stay xs) (filter stay xs))) e ∙ r ∙ sym (ap (λ b. cond b (Some x) (find test xs)) (h x e))

-- the head of what a filter leaves is what is found
pub found_head : {A : Type 0} (test : A → Bool) (xs : List A) (e : A) (es : List A) → filter test xs ≡ e ∷ es → find test xs ≡ Some e
found_head test [] e es h = cc
found_head test (x ∷ xs) e es h = by (test x) h (found_head test xs e es)
  where
    by : (t : Bool) → cond t (x ∷ filter test xs) (filter test xs) ≡ e ∷ es → (filter test xs ≡ e ∷ es → find test xs ≡ Some e) → cond t (Some x) (find test xs) ≡ Some e
    by true f again = let same : x ≡ e = cc in ap (λ y. Some y) same
    by false f again = again f

all_three : (a b c : Bool) → (a && b && c) ≡ true → (a ≡ true) × (b ≡ true) × (c ≡ true)
all_three true true true e = (refl, refl, refl)
all_three true true false e = cc
all_three true false c e = cc
all_three false b c e = cc

three_of : (a b c : Bool) → a ≡ true → (a && b && c) ≡ (b && c)
three_of a b c e = ap (λ t. t && b && c) e

none_of : {A B : Type 0} (f : A → B) (o : Option A) → option_map f o ≡ None → o ≡ None
none_of f None e = refl
none_of f (Some a) e = cc

-- what is told of a waiting qubit
abbrev pub tell : Waiting → ℕ × Option PairInfo
tell e = (Waiting.number e, Waiting.info e)

-- whether a handle of the state is one of a name at a node
abbrev at_name : ℕ → ℕ → ℕ → Held → Bool
at_name m app id e = (Held.node e == m) && (Held.app e == app) && (Held.id e == id)

module _ (s : Network) (m : ℕ) (n : Node) (fits : FitsNode s m (held_map n) (arrived_map n)) where
  -- ---- handles
  pub same_handles : (t : Network) → t.held ≡ s.held → (a i : ℕ) → held_map n a i ≡ held_number t m a i
  unfolding held_number
  same_handles t e a i = fits.handles a i ∙ sym (ap (λ l. option_map (λ x. Held.number x) (find (at_name m a i) l)) e)

  -- a new handle at the node
  pub more_handles : (t : Network) (app id q : ℕ) → t.held ≡ s.held ++ record { node = m; app = app; id = id; number = q } ∷ [] → number_of n.handles app id ≡ None
      → (a i : ℕ) → held_map (with_handle n (record { app = app; id = id; number = q })) a i ≡ held_number t m a i
  unfolding held_number
  more_handles t app id q e free a i =
      held_map-with_handle n (record { app = app; id = id; number = q }) a i free
      ∙ ap (cond ((app == a) && (id == i)) (Some q)) (fits.handles a i)
      ∙ sym (ap (λ l. option_map (λ x. Held.number x) (find (at_name m a i) l)) e
      ∙ ap (option_map (λ x. Held.number x)) (find_last (at_name m a i) s.held (record { node = m; app = app; id = id; number = q }) new)
      ∙ ap (λ b. option_map (λ x. Held.number x) (cond b (Some (record { node = m; app = app; id = id; number = q })) (find (at_name m a i) s.held))) (three_of (m == m) (app == a) (id == i) (eq_true m m refl))
      ∙ out ((app == a) && (id == i)))
    where
      new : ((m == m) && (app == a) && (id == i)) ≡ true → find (at_name m a i) s.held ≡ None
      new h =
          let all = all_three (m == m) (app == a) (id == i) h in
          none_of (λ x. Held.number x) (find (at_name m a i) s.held) (sym (fits.handles a i) ∙ ap (λ b. held_map n b i) (sym (eq_of app a (all.1))) ∙ ap (λ b. held_map n app b) (sym (eq_of id i (all.2))) ∙ free)

      out : (b : Bool) → option_map (λ x. Held.number x) (cond b (Some (record { node = m; app = app; id = id; number = q })) (find (at_name m a i) s.held)) ≡ cond b (Some q) (option_map (λ x. Held.number x) (find (at_name m a i) s.held))
      out true = refl
      out false = refl

  -- a new handle elsewhere
  pub handles_beside_more : (t : Network) (k app id q : ℕ) → k ≢ m → t.held ≡ s.held ++ record { node = k; app = app; id = id; number = q } ∷ [] → (a i : ℕ) → held_map n a i ≡ held_number t m a i
  unfolding held_number
  handles_beside_more t k app id q away e a i =
      fits.handles a i
      ∙ sym (ap (λ l. option_map (λ x. Held.number x) (find (at_name m a i) l)) e
      ∙ ap (option_map (λ x. Held.number x)) (find_last (at_name m a i) s.held (record { node = k; app = app; id = id; number = q }) (λ h. absurd (clash (sym h ∙ there))) ∙ ap (λ b. cond b (Some (record { node = k; app = app; id = id; number = q })) (find (at_name m a i) s.held)) there))
    where
      there : ((k == m) && (app == a) && (id == i)) ≡ false
      there = ap (λ b. b && (app == a) && (id == i)) (eq_false k m away)

  -- a handle of the node goes
  pub less_handles : (t : Network) (app id : ℕ) → t.held ≡ unheld s.held m app id → (a i : ℕ) → held_map (without_held n app id) a i ≡ held_number t m a i
  unfolding held_number unheld
  less_handles t app id e a i = by ((a == app) && (i == id)) refl ∙ sym (ap (λ l. option_map (λ x. Held.number x) (find (at_name m a i) l)) e)
    where
      other : ((a == app) && (i == id)) ≡ false → (x : Held) → not (at_name m app id x) ≡ false → at_name m a i x ≡ false
      other apart x h = at (at_name m a i x) refl
        where
          passes : (b : Bool) → not b ≡ false → b ≡ true
          passes true f = refl
          passes false f = cc

          at : (t : Bool) → at_name m a i x ≡ t → at_name m a i x ≡ false
          at false f = f
          at true f =
              let one = all_three (x.node == m) (x.app == app) (x.id == id) (passes (at_name m app id x) h) in
              let two = all_three (x.node == m) (x.app == a) (x.id == i) f in
              absurd (clash (sym (ap (λ b. b && (i == id)) (eq_true a app (sym (eq_of x.app a (two.1)) ∙ eq_of x.app app (one.1))) ∙ eq_true i id (sym (eq_of x.id i (two.2)) ∙ eq_of x.id id (one.2))) ∙ apart))

      by : (t : Bool) → ((a == app) && (i == id)) ≡ t → held_map (without_held n app id) a i ≡ option_map (λ x. Held.number x) (find (at_name m a i) (filter (λ x. not (at_name m app id x)) s.held))
      by true f =
          let both = both_true (a == app) (i == id) f in
          ap (λ b. held_map (without_held n app id) b i) (eq_of a app (both.0)) ∙ ap (λ b. held_map (without_held n app id) app b) (eq_of i id (both.1)) ∙ held_map-without_held n app id
          ∙ sym (ap (λ b. option_map (λ x. Held.number x) (find (at_name m b i) (filter (λ x. not (at_name m app id x)) s.held))) (eq_of a app (both.0))
          ∙ ap (λ b. option_map (λ x. Held.number x) (find (at_name m app b) (filter (λ x. not (at_name m app id x)) s.held))) (eq_of i id (both.1))
          ∙ ap (option_map (λ x. Held.number x)) (find_none_left (at_name m app id) s.held))
      by false f =
          held_map-others n app id a i f ∙ fits.handles a i
          ∙ sym (ap (option_map (λ x. Held.number x)) (find_others (at_name m a i) (λ x. not (at_name m app id x)) s.held (other f)))

  -- a handle elsewhere goes
  pub handles_beside_less : (t : Network) (k app id : ℕ) → k ≢ m → t.held ≡ unheld s.held k app id → (a i : ℕ) → held_map n a i ≡ held_number t m a i
  unfolding held_number unheld
  handles_beside_less t k app id away e a i =
      fits.handles a i
      ∙ sym (ap (λ l. option_map (λ x. Held.number x) (find (at_name m a i) l)) e
      ∙ ap (option_map (λ x. Held.number x)) (find_others (at_name m a i) (λ x. not (at_name k app id x)) s.held other))
    where
      first : (b c d : Bool) → not (b && c && d) ≡ false → b ≡ true
      first true c d h = refl
      first false c d h = cc

      other : (x : Held) → not (at_name k app id x) ≡ false → at_name m a i x ≡ false
      other x h = ap (λ b. b && (x.app == a) && (x.id == i)) (eq_false x.node m (λ is. away (sym (eq_of x.node k (first (x.node == k) (x.app == app) (x.id == id) h)) ∙ is)))

  -- ---- queues
  pub same_queues : (t : Network) → t.waiting ≡ s.waiting → (a : ℕ) (l : Line) → arrived_map n a l ≡ map tell (queue t m a l)
  unfolding queue
  same_queues t e a l = fits.queues a l ∙ sym (ap (λ ws. map tell (filter (is_in_queue m a l) ws)) e)

  -- an arrival at a node
  one_more : (t : Network) (w : Waiting) → t.waiting ≡ s.waiting ++ w ∷ [] → (a : ℕ) (l : Line) → map tell (queue t m a l) ≡ map tell (queue s m a l) ++ cond (is_in_queue m a l w) (tell w ∷ []) []
  unfolding queue
  one_more t w e a l =
      ap (λ ws. map tell (filter (is_in_queue m a l) ws)) e
      ∙ ap (map tell) (filter-append (is_in_queue m a l) s.waiting (w ∷ []))
      ∙ map-append tell (filter (is_in_queue m a l) s.waiting) (filter (is_in_queue m a l) (w ∷ []))
      ∙ ap (λ ws. map tell (filter (is_in_queue m a l) s.waiting) ++ ws) (one (is_in_queue m a l w))
    where
      one : (b : Bool) → map tell (cond b (w ∷ []) []) ≡ cond b (tell w ∷ []) []
      one true = refl
      one false = refl

  pub more_queues : (t : Network) (x : Arrival) → t.waiting ≡ s.waiting ++ record { node = m; app = x.app; line = x.line; number = x.number; info = x.info } ∷ []
      → (a : ℕ) (l : Line) → arrived_map (with_arrival n x) a l ≡ map tell (queue t m a l)
  unfolding is_in_queue
  more_queues t x e a l =
      arrived_map-with_arrival n x a l
      ∙ ap (λ ws. ws ++ cond (is_waiting a l x) (told_of x ∷ []) []) (fits.queues a l)
      ∙ ap (λ b. map tell (queue s m a l) ++ cond b (told_of x ∷ []) []) (sym (three_of (m == m) (x.app == a) (line_eq x.line l) (eq_true m m refl)))
      ∙ sym (one_more t (record { node = m; app = x.app; line = x.line; number = x.number; info = x.info }) e a l)

  -- an arrival elsewhere
  pub queues_beside_more : (t : Network) (w : Waiting) → w.node ≢ m → t.waiting ≡ s.waiting ++ w ∷ [] → (a : ℕ) (l : Line) → arrived_map n a l ≡ map tell (queue t m a l)
  unfolding is_in_queue
  queues_beside_more t w away e a l =
      fits.queues a l ∙ no_more (map tell (queue s m a l))
      ∙ ap (λ b. map tell (queue s m a l) ++ cond b (tell w ∷ []) []) (sym (ap (λ b. b && (w.app == a) && line_eq w.line l) (eq_false w.node m away)))
      ∙ sym (one_more t w e a l)
    where
      no_more : {A : Type 0} (xs : List A) → xs ≡ xs ++ []
      no_more [] = refl
      no_more (x ∷ xs) = ap (λ ys. x ∷ ys) (no_more xs)
