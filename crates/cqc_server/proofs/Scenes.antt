-- Turns of one of several actors, and turns of all of them one after the other.
use Rattle.std.proofs.Common.{◌≡◌, ◌≢◌, ℕ, zero, suc, ◌+◌, ◌<◌, ◌≤◌, List, [], ◌∷◌, ◌++◌, length, map, set, take, get_or, Option, None, Some, refl, sym, ap, subst, ◌∙◌, arith, append_assoc, length-append}
use Rattle.std.specs.Prelude.{All, IsSomeAnd, slice_get}
use Rattle.std.specs.List.{flat_map}
use Rattle.std.proofs.lemmas.List.{append-nil, map-set, length-map, take_all}
use Rattle.std.proofs.Math.Seq.{take-suc}
use Rattle.std.proofs.lemmas.List.Elements.{All-nil, All-cons, All-head, All-tail, All-append}
use Rattle.network_model.specs.Network.{Shape}
use Rattle.network_model.specs.declared.Call.{Call}
use Rattle.network_model.specs.declared.Entry.{Entry}
use Rattle.factored_core.specs.Core.{Journal}
use Rattle.session_model.specs.declared.Ending.{Ending}
use Rattle.session_model.specs.Walk.{Connection}
use Rattle.session_model.specs.Turns.{Actor, AreTurns, of_order, with_taker}
use Rattle.cqc_server.specs.Replay.{Act, Seen, place_of, entries_of, IsCallAt, IsOfOne}
use Rattle.cqc_server.specs.Progress.{Stands, IsActing, Fits, TakesTurns, HasActed, IsSeated, AreActing, AllFit, AllTakeTurns, AllHaveActed}
use Rattle.cqc_server.proofs.Histories.{own_kept}
use Rattle.cqc_server.proofs.Idling.{turns_on}

places_of : (xs : List Act) → map place_of xs ≡ map (λ (s : Seen). s.session.connection) (map (λ (a : Act). a.before) xs)
places_of [] = refl
places_of (x ∷ xs) = ap (λ (ps : List Connection). place_of x ∷ ps) (places_of xs)

-- acts that began alike are of the same connections
pub places_same : (xs ys : List Act) → map (λ (a : Act). a.before) xs ≡ map (λ (a : Act). a.before) ys → map place_of xs ≡ map place_of ys
places_same xs ys same = places_of xs ∙ ap (map (λ (s : Seen). s.session.connection)) same ∙ sym (places_of ys)

module _ (word : List ℕ → ℕ → ℕ → ℕ → ℕ) (shape : Shape) (capacity : ℕ) where
  -- ---- entries of others leave an actor as it is
  stands_longer : (o : Option Ending) (m n : ℕ) (own : List Entry) (a : Act) → m ≤ n → Stands word capacity m own a o → Stands word capacity n own a o
  stands_longer None m n own a h s = s
  stands_longer (Some e) m n own a h s = record {
    speaks = λ k few most. s.speaks k (omega (arith, h, few)) most;
    idle = λ history same longer. s.idle history same (omega (arith, h, longer));
    cause = s.cause;
  }

  acting_longer : (m n : ℕ) (own : List Entry) (a : Act) → m ≤ n → IsActing word capacity m own a → IsActing word capacity n own a
  acting_longer m n own a h f = record {
    connection = f.connection;
    cap = f.cap;
    read = f.read;
    written = f.written;
    room = f.room;
    dice = f.dice;
    worded = f.worded;
    reads = f.reads;
    writes = f.writes;
    stands = stands_longer a.after.ending m n own a h f.stands;
  }

  kept_one : (p : Connection) (h es : List Entry) (a : Act) → (p.seat ≢ (place_of a).seat) → All (λ e. IsCallAt p e.call) es
      → IsActing word capacity (length h) (entries_of a h) a → IsActing word capacity (length (h ++ es)) (entries_of a (h ++ es)) a
  kept_one p h es a apart all f =
      subst (λ own. IsActing word capacity (length (h ++ es)) own a) (sym (own_kept (place_of a) p h es apart all))
      (acting_longer (length h) (length (h ++ es)) (entries_of a h) a (omega (arith, length-append h es)) f)

  kept_all : (p : Connection) (h es : List Entry) (n : ℕ) (acts : List Act) → p.seat < n → All (λ e. IsCallAt p e.call) es
      → AreActing word shape capacity h n acts → AreActing word shape capacity (h ++ es) n acts
  kept_all p h es n [] less all f = tt
  kept_all p h es n (a ∷ acts) less all f = (
    f.0,
    kept_one p h es a (λ e. omega (arith, e, f.0.seat_is, less)) all f.1,
    kept_all p h es (suc n) acts (omega (arith, less)) all f.2,
  )

  -- ---- the actor at a place
  -- the actor at a place has come so far
  record IsAt (h : List Entry) (n k : ℕ) (acts : List Act) (s : Seen) : Type 0 where
    act : Act
    there : slice_get acts k ≡ Some act
    now_is : act.after ≡ s
    seated : IsSeated shape (n + k) act
    acting : IsActing word capacity (length h) (entries_of act h) act

  at_place : (h : List Entry) (n k : ℕ) (acts : List Act) (s : Seen) → slice_get (map (λ (a : Act). a.after) acts) k ≡ Some s → AreActing word shape capacity h n acts
      → IsAt h n k acts s
  at_place h n k [] s e f = absurd (none k e)
    where
      none : (k : ℕ) → slice_get (map (λ (a : Act). a.after) []) k ≡ Some s → ⊥
      none zero e = cc
      none (suc k) e = cc
  at_place h n zero (a ∷ acts) s e f = record {
    act = a;
    there = refl;
    now_is = same e;
    seated = subst (λ m. IsSeated shape m a) (simple n) f.0;
    acting = f.1;
  }
    where
      simple : (n : ℕ) → n ≡ n + 0
      simple n = omega arith

      same : Some a.after ≡ Some s → a.after ≡ s
      same e = cc
  at_place h n (suc k) (a ∷ acts) s e f =
      let x = at_place h (suc n) k acts s e f.2 in
      record { act = x.act; there = x.there; now_is = x.now_is; seated = subst (λ m. IsSeated shape m x.act) (moved n k) x.seated; acting = x.acting }
    where
      moved : (n k : ℕ) → suc n + k ≡ n + suc k
      moved n k = omega arith

  -- another in its place
  put_acting : (h es : List Entry) (n k : ℕ) (acts : List Act) (a b : Act) → slice_get acts k ≡ Some a → (place_of a).seat ≡ n + k → IsSeated shape (n + k) b
      → IsActing word capacity (length (h ++ es)) (entries_of b (h ++ es)) b → All (λ e. IsCallAt (place_of a) e.call) es
      → AreActing word shape capacity h n acts → AreActing word shape capacity (h ++ es) n (set acts k b)
  put_acting h es n k [] a b there seat seated acting all f = tt
  put_acting h es n zero (y ∷ ys) a b there seat seated acting all f = (
    subst (λ m. IsSeated shape m b) (simple n) seated,
    acting,
    kept_all (place_of a) h es (suc n) ys (omega (arith, seat)) all f.2,
  )
    where
      simple : (n : ℕ) → n + 0 ≡ n
      simple n = omega arith
  put_acting h es n (suc k) (y ∷ ys) a b there seat seated acting all f = (
    f.0,
    kept_one (place_of a) h es y (λ e. omega (arith, e, f.0.seat_is, seat)) all f.1,
    put_acting h es (suc n) k ys a b there (omega (arith, seat)) (subst (λ m. IsSeated shape m b) (moved n k) seated) acting all f.2,
  )
    where
      moved : (n k : ℕ) → n + suc k ≡ suc n + k
      moved n k = omega arith

  before_put : (k : ℕ) (acts : List Act) (a b : Act) → slice_get acts k ≡ Some a → b.before ≡ a.before → map (λ (x : Act). x.before) (set acts k b) ≡ map (λ (x : Act). x.before) acts
  before_put k [] a b there same = refl
  before_put zero (y ∷ ys) a b there same = ap (λ (s : Seen). s ∷ map (λ (x : Act). x.before) ys) (same ∙ ap (λ (x : Act). x.before) (sym (head there)))
    where
      head : Some y ≡ Some a → y ≡ a
      head e = cc
  before_put (suc k) (y ∷ ys) a b there same = ap (λ (ss : List Seen). y.before ∷ ss) (before_put k ys a b there same)

  -- the actor of the definition at a place
  record FitsAt (k : ℕ) (acts : List Act) (a b : Act) (ms : List Actor) : Type 0 where
    model : Actor
    there : slice_get ms k ≡ Some model
    fits : Fits word b b.after.ending model
    all : Fits word a a.after.ending model → AllFit word acts ms

  fit_put : (k : ℕ) (acts : List Act) (a b : Act) (ms : List Actor) → slice_get acts k ≡ Some a → AllFit word (set acts k b) ms → FitsAt k acts a b ms
  fit_put k [] a b ms there f = absurd (none k there)
    where
      nobody : List Act
      nobody = []

      none : (k : ℕ) → slice_get [] k ≡ Some a → ⊥
      none zero e = cc
      none (suc k) e = cc
  fit_put zero (y ∷ ys) a b [] there f = absurd f
  fit_put (suc k) (y ∷ ys) a b [] there f = absurd f
  fit_put zero (y ∷ ys) a b (m ∷ ms) there f = record {
    model = m;
    there = refl;
    fits = f.0;
    all = λ g. (subst (λ (x : Act). Fits word x x.after.ending m) (sym (head there)) g, f.1);
  }
    where
      head : Some y ≡ Some a → y ≡ a
      head e = cc
  fit_put (suc k) (y ∷ ys) a b (m ∷ ms) there f =
      let x = fit_put k ys a b ms there f.1 in
      record { model = x.model; there = x.there; fits = x.fits; all = λ g. (f.0, x.all g) }

  ours_of : (places : List Connection) (p : Connection) (k : ℕ) (es : List Entry) → slice_get places k ≡ Some p → p.seat ≡ k → All (λ e. IsCallAt p e.call) es → All (IsOfOne places) es
  ours_of places p k [] there seat all = All-nil (IsOfOne places)
  ours_of places p k (e ∷ es) there seat all =
      let here = All-head (λ (x : Entry). IsCallAt p x.call) e es all in
      let at : slice_get places e.call.seat ≡ Some p = ap (slice_get places) (ap (λ (c : Call). c.seat) here ∙ seat) ∙ there in
      All-cons (IsOfOne places) e es (subst (λ o. IsSomeAnd o (λ q. IsCallAt q e.call)) (sym at) here)
      (ours_of places p k es there seat (All-tail (λ (x : Entry). IsCallAt p x.call) e es all))

  place_there : (k : ℕ) (acts : List Act) (a : Act) → slice_get acts k ≡ Some a → slice_get (map place_of acts) k ≡ Some (place_of a)
  place_there k [] a e = absurd (none k e)
    where
      none : (k : ℕ) → slice_get [] k ≡ Some a → ⊥
      none zero e = cc
      none (suc k) e = cc
  place_there zero (y ∷ ys) a e = ap Some (ap place_of (head e))
    where
      head : Some y ≡ Some a → y ≡ a
      head e = cc
  place_there (suc k) (y ∷ ys) a e = place_there k ys a e

  -- the turns of the actor at a place, if there is one
  abbrev at_one : (Actor → List Actor) → Option Actor → List Actor
  at_one takers None = []
  at_one takers (Some m) = takers m

  -- turns of the actor at a place are turns of all
  pub one_of_all : (takers : Actor → List Actor) (h l : List Entry) (k : ℕ) (nows : List Seen) (s now : Seen) → slice_get nows k ≡ Some s
      → TakesTurns word shape capacity takers h l s now → AllTakeTurns word shape capacity (λ ms. at_one takers (slice_get ms k)) h l nows (set nows k now)
  one_of_all takers h l k nows s now e takes acts is_now acting =
      let x = at_place h 0 k acts s (ap (λ (ss : List Seen). slice_get ss k) is_now ∙ e) acting in
      let t = takes x.act x.now_is x.acting in
      let seated : IsSeated shape (0 + k) t.act = record {
        seat_is = ap (λ (b : Seen). b.session.connection.seat) t.same ∙ x.seated.seat_is;
        node = subst (λ (b : Seen). b.session.connection.node < length shape.places) (sym t.same) x.seated.node;
      } in
      let moved : IsActing word capacity (length (h ++ t.added)) (entries_of t.act (h ++ t.added)) t.act =
      subst (λ (es : List Entry). IsActing word capacity (length es) (entries_of t.act es) t.act) t.grown t.acting in
      record {
        next = set acts k t.act;
        same = before_put k acts x.act t.act x.there t.same;
        now_is = map-set (λ (a : Act). a.after) acts k t.act ∙ ap (λ (ss : List Seen). set ss k t.act.after) is_now ∙ ap (set nows k) t.now_is;
        acting = subst (λ (es : List Entry). AreActing word shape capacity es 0 (set acts k t.act)) (sym t.grown)
            (put_acting h t.added 0 k acts x.act t.act x.there x.seated.seat_is seated moved t.ours acting);
        turns = λ ms fits.
            let f = fit_put k acts x.act t.act ms x.there fits in
            let y = t.turns f.model f.fits in
            (f.all y.0, subst (λ o. AreTurns shape capacity (at_one takers o) h l) (sym f.there) y.1);
        added = t.added;
        grown = t.grown;
        ours = ours_of (map place_of acts) (place_of x.act) k t.added (place_there k acts x.act x.there) (x.seated.seat_is ∙ simple k) t.ours;
      }
    where
      simple : (n : ℕ) → 0 + n ≡ n
      simple n = omega arith

  -- ---- turns of all
  pub all_then : (one two : List Actor → List Actor) (h k l : List Entry) (before mid now : List Seen)
      → AllTakeTurns word shape capacity one h k before mid → AllTakeTurns word shape capacity two k l mid now
      → AllTakeTurns word shape capacity (λ ms. one ms ++ two ms) h l before now
  all_then one two h k l before mid now first second acts e acting =
      let f = first acts e acting in
      let g = second f.next f.now_is f.acting in
      record {
        next = g.next;
        same = g.same ∙ f.same;
        now_is = g.now_is;
        acting = g.acting;
        turns = λ ms fits.
            let y = g.turns ms fits in
            let x = f.turns ms y.0 in
            (x.0, turns_on shape capacity (one ms) (two ms) h k l x.1 y.1);
        added = f.added ++ g.added;
        grown = g.grown ∙ ap (λ (x : List Entry). x ++ g.added) f.grown ∙ append_assoc h f.added g.added;
        ours = All-append (IsOfOne (map place_of acts)) f.added g.added f.ours
            (subst (λ (ps : List Connection). All (IsOfOne ps) g.added) (places_same f.next acts f.same) g.ours);
      }

  -- the same turns, named otherwise
  pub all_same : (one two : List Actor → List Actor) (h k : List Entry) (before now : List Seen) → ((ms : List Actor) → length ms ≡ length now → one ms ≡ two ms)
      → AllTakeTurns word shape capacity one h k before now → AllTakeTurns word shape capacity two h k before now
  all_same one two h k before now same takes acts e acting =
      let t = takes acts e acting in
      record {
        next = t.next;
        same = t.same;
        now_is = t.now_is;
        acting = t.acting;
        turns = λ ms fits.
            let x = t.turns ms fits in
            (x.0, subst (λ (ts : List Actor). AreTurns shape capacity ts h k) (same ms (as_many t.next ms fits ∙ sym (length-map t.next (λ (a : Act). a.after)) ∙ ap length t.now_is)) x.1);
        added = t.added;
        grown = t.grown;
        ours = t.ours;
      }
    where
      as_many : (acts : List Act) (ms : List Actor) → AllFit word acts ms → length ms ≡ length acts
      as_many [] [] f = refl
      as_many [] (m ∷ ms) f = absurd f
      as_many (a ∷ acts) [] f = absurd f
      as_many (a ∷ acts) (m ∷ ms) f = ap suc (as_many acts ms f.1)

  -- no turn
  pub none_yet : (h : List Entry) (before : List Seen) → AllTakeTurns word shape capacity (λ ms. []) h h before before
  none_yet h before acts e acting = record {
    next = acts;
    same = refl;
    now_is = e;
    acting = acting;
    turns = λ ms fits. (fits, refl);
    added = [];
    grown = sym (append-nil h);
    ours = All-nil (IsOfOne (map place_of acts));
  }

  -- what is known of the actor at a place, and of all after turns
  pub one_acted : (h : List Entry) (k : ℕ) (nows : List Seen) (s : Seen) → slice_get nows k ≡ Some s → AllHaveActed word shape capacity h nows
      → HasActed word capacity h s × (s.session.connection.node < length shape.places)
  one_acted h k nows s e all =
      let x = at_place h 0 k all.acts s (ap (λ (ss : List Seen). slice_get ss k) all.now_is ∙ e) all.acting in (
        record { act = x.act; now_is = x.now_is; acting = x.acting },
        subst (λ (p : Connection). p.node < length shape.places) (sym x.acting.connection ∙ ap (λ (b : Seen). b.session.connection) x.now_is) x.seated.node,
      )

  pub all_acted : (takers : List Actor → List Actor) (h k : List Entry) (before now : List Seen) → AllHaveActed word shape capacity h before
      → AllTakeTurns word shape capacity takers h k before now → AllHaveActed word shape capacity k now
  all_acted takers h k before now all takes =
      let t = takes all.acts all.now_is all.acting in
      record { acts = t.next; now_is = t.now_is; acting = t.acting }

  -- ---- one turn more of an order, and one actor more that goes on to its end
  order_more : (ms : List Actor) (xs ys : List ℕ) → of_order ms (xs ++ ys) ≡ of_order ms xs ++ of_order ms ys
  order_more ms [] ys = refl
  order_more ms (k ∷ xs) ys = by (slice_get ms k) (order_more ms xs ys)
    where
      by : (o : Option Actor) → of_order ms (xs ++ ys) ≡ of_order ms xs ++ of_order ms ys
          → with_taker o (of_order ms (xs ++ ys)) ≡ with_taker o (of_order ms xs) ++ of_order ms ys
      by None e = e
      by (Some m) e = ap (λ (ts : List Actor). m ∷ ts) e

  one_taker : (o : Option Actor) → at_one (λ m. m ∷ []) o ≡ with_taker o []
  one_taker None = refl
  one_taker (Some m) = refl

  pub next_turn : (order : List ℕ) (i j : ℕ) (d : ℕ) (h k l : List Entry) (before nows : List Seen) (s now : Seen) → j ≡ suc i → i < length order → slice_get nows (get_or order i d) ≡ Some s
      → AllTakeTurns word shape capacity (λ ms. of_order ms (take i order)) h k before nows → TakesTurns word shape capacity (λ m. m ∷ []) k l s now
      → AllTakeTurns word shape capacity (λ ms. of_order ms (take j order)) h l before (set nows (get_or order i d) now)
  next_turn order i j d h k l before nows s now next within e all one =
      let place = get_or order i d in
      all_same (λ ms. of_order ms (take i order) ++ at_one (λ m. m ∷ []) (slice_get ms place)) (λ ms. of_order ms (take j order)) h l before (set nows place now)
      (λ ms same.
      ap (λ (ts : List Actor). of_order ms (take i order) ++ ts) (one_taker (slice_get ms place))
      ∙ sym (order_more ms (take i order) (place ∷ []))
      ∙ ap (of_order ms) (sym (take-suc order i d within) ∙ ap (λ (n : ℕ). take n order) (sym next)))
      (all_then (λ ms. of_order ms (take i order)) (λ ms. at_one (λ m. m ∷ []) (slice_get ms place)) h k l before nows (set nows place now) all
      (one_of_all (λ m. m ∷ []) k l place nows s now e one))

  flat_more : (f : Actor → List Actor) (i : ℕ) (ms : List Actor) → flat_map f (take i ms) ++ at_one f (slice_get ms i) ≡ flat_map f (take (suc i) ms)
  flat_more f zero [] = refl
  flat_more f (suc i) [] = refl
  flat_more f zero (m ∷ ms) = sym (append-nil (f m))
  flat_more f (suc i) (m ∷ ms) = append_assoc (f m) (flat_map f (take i ms)) (at_one f (slice_get ms i)) ∙ ap (λ (ts : List Actor). f m ++ ts) (flat_more f i ms)

  pub next_end : (takers : Actor → List Actor) (i j : ℕ) (h k l : List Entry) (before nows : List Seen) (s now : Seen) → j ≡ suc i → slice_get nows i ≡ Some s
      → AllTakeTurns word shape capacity (λ ms. flat_map takers (take i ms)) h k before nows → TakesTurns word shape capacity takers k l s now
      → AllTakeTurns word shape capacity (λ ms. flat_map takers (take j ms)) h l before (set nows i now)
  next_end takers i j h k l before nows s now next e all one =
      all_same (λ ms. flat_map takers (take i ms) ++ at_one takers (slice_get ms i)) (λ ms. flat_map takers (take j ms)) h l before (set nows i now)
      (λ ms same. flat_more takers i ms ∙ ap (λ (n : ℕ). flat_map takers (take n ms)) (sym next))
      (all_then (λ ms. flat_map takers (take i ms)) (λ ms. at_one takers (slice_get ms i)) h k l before nows (set nows i now) all (one_of_all takers k l i nows s now e one))

  -- all of the order, and all actors
  pub whole_order : (order : List ℕ) (i : ℕ) (h k : List Entry) (before nows : List Seen) → length order ≤ i
      → AllTakeTurns word shape capacity (λ ms. of_order ms (take i order)) h k before nows → AllTakeTurns word shape capacity (λ ms. of_order ms order) h k before nows
  whole_order order i h k before nows past all =
      all_same (λ ms. of_order ms (take i order)) (λ ms. of_order ms order) h k before nows (λ ms same. ap (of_order ms) (take_all i order past)) all

  pub all_ends : (takers : Actor → List Actor) (i : ℕ) (h k : List Entry) (before nows : List Seen) → length nows ≤ i
      → AllTakeTurns word shape capacity (λ ms. flat_map takers (take i ms)) h k before nows → AllTakeTurns word shape capacity (λ ms. flat_map takers ms) h k before nows
  all_ends takers i h k before nows past all =
      all_same (λ ms. flat_map takers (take i ms)) (λ ms. flat_map takers ms) h k before nows (λ ms same. ap (flat_map takers) (take_all i ms (omega (arith, same, past)))) all

-- the same for a core whose settings are as they were
pub acted_at : (word : List ℕ → ℕ → ℕ → ℕ → ℕ) (first now : Journal) (k : ℕ) (nows : List Seen) (s : Seen) → now ≡ record first { entries = now.entries } → slice_get nows k ≡ Some s
    → AllHaveActed word first.shape first.capacity now.entries nows → HasActed word now.capacity now.entries s × (s.session.connection.node < length now.shape.places)
acted_at word first now k nows s same e all =
    one_acted word now.shape now.capacity now.entries k nows s e
    (subst (λ (j : Journal). AllHaveActed word j.shape j.capacity now.entries nows) (sym same) all)
