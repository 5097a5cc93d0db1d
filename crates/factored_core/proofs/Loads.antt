-- A node that fits a state: its load, the operands and the least ids of its applications, and its queues are the state's.
-- `same_load`, `same_operand`, `same_least_id` and `same_queue` are the main results.
use Prim.Native.Nat.{suc}
use Rattle.std.proofs.Common.{◌≡◌, ℕ, ◌+◌, ◌≤◌, ◌==◌, Bool, true, false, cond, ◌&&◌, ◌||◌, List, [], ◌∷◌, length, map, filter, find, count_by, position, Option, None, Some, is_some, is_none, option_map, refl, sym, ap, subst, ◌∙◌, arith}
use Rattle.std.proofs.lemmas.List.{length-map}
use Rattle.std.proofs.lemmas.List.Sums.{length-filter}
use Rattle.state_model.specs.Row.{is_listed}
use Rattle.state_model.proofs.Booleans.{eq_true, eq_of, both_true}
use Rattle.network_model.specs.Network.{Network, Shape, Held, Waiting, held_number, line_eq, is_in_queue, queue, load, IsSound}
use Rattle.network_model.specs.Step.{without_first, operand, least_free, least_id}
use Rattle.network_model.specs.Factored.{FitsNode}
use Rattle.network_model.specs.declared.Call.{Call}
use Rattle.network_model.specs.declared.Line.{Line}
use Rattle.network_model.proofs.Counting.{count-cons, count-without_first, filter_head}
use Rattle.network_model.proofs.Least.{least_free_new}
use Rattle.network_model.proofs.Added.{least_free_low}
use Rattle.qubit_handles.specs.Handle.{is_named, number_of, ids_of, AreDistinct}
use Rattle.qubit_handles.specs.declared.handles.Handle.{Handle}
use Rattle.qubit_handles.proofs.HandleLemmas.{listed_held}
use Rattle.qubit_handles.proofs.Firsts.{found_none, found_at}
use Rattle.virtual_node.specs.Node.{Node, load_of, is_waiting, held_map, arrived_map, told_of}
use Rattle.virtual_node.specs.declared.arrival.Arrival.{Arrival}
use Rattle.virtual_node.proofs.NodeLemmas.{line_of_eq, line_eq_of}

-- ---- lists
-- a test that some element passes finds a first one
some_passes : {B : Type 0} (test : B → Bool) (ys : List B) → 1 ≤ count_by test ys → (e : B) × (es : List B) × (filter test ys ≡ e ∷ es)
some_passes test [] h = absurd (omega arith)
some_passes test (y ∷ ys) h = by (test y) refl (some_passes test ys)
  where
    rest : (n : ℕ) → 1 ≤ 0 + n → 1 ≤ n
    rest n g = omega arith

    by : (t : Bool) → test y ≡ t → (1 ≤ count_by test ys → (e : _) × (es : _) × (filter test ys ≡ e ∷ es)) → (e : _) × (es : _) × (cond (test y) (y ∷ filter test ys) (filter test ys) ≡ e ∷ es)
    by true t again = (y, filter test ys, ap (λ b. cond b (y ∷ filter test ys) (filter test ys)) t)
    by false t again =
        let found = again (rest (count_by test ys) (subst (λ b. 1 ≤ cond b 1 0 + count_by test ys) t (subst (λ n. 1 ≤ n) (count-cons test y ys) h))) in
        (found.0, found.1, ap (λ b. cond b (y ∷ filter test ys) (filter test ys)) t ∙ found.2)

count_all : {B : Type 0} (ys : List B) → count_by (λ y. true) ys ≡ length ys
count_all [] = refl
count_all (y ∷ ys) = count-cons (λ z. true) y ys ∙ (let h = count_all ys in omega arith)

-- lists whose elements have each key equally often are equally long
module _ {A B K : Type 0} (p : K → A → Bool) (q : K → B → Bool) (key : A → K) (key' : B → K)
    (own : (x : A) → p (key x) x ≡ true) (own' : (y : B) → q (key' y) y ≡ true)
    (alike : (k : K) (x : A) (y : B) → q (key x) y ≡ true → q k y ≡ p k x) where
  pub same_length : (xs : List A) (ys : List B) → ((k : K) → count_by (p k) xs ≡ count_by (q k) ys) → length xs ≡ length ys
  same_length [] [] h = refl
  same_length [] (y ∷ ys) h = absurd (never (count_by (q (key' y)) ys) (h (key' y) ∙ count-cons (q (key' y)) y ys ∙ ap (λ b. cond b 1 0 + count_by (q (key' y)) ys) (own' y)))
    where
      never : (n : ℕ) → 0 ≡ 1 + n → ⊥
      never n e = omega arith
  same_length (x ∷ xs) ys h = joined (length xs) (length rest) (length ys) (same_length xs rest fewer) shorter
    where
      some : (n m : ℕ) → 1 + n ≡ m → 1 ≤ m
      some n m e = omega arith

      first : (e : B) × (es : List B) × (filter (q (key x)) ys ≡ e ∷ es)
      first = some_passes (q (key x)) ys (some (count_by (p (key x)) xs) _ (sym (ap (λ b. cond b 1 0 + count_by (p (key x)) xs) (own x)) ∙ sym (count-cons (p (key x)) x xs) ∙ h (key x)))

      rest : List B
      rest = without_first (q (key x)) ys

      passes : q (key x) (first.0) ≡ true
      passes = filter_head (q (key x)) ys (first.0) (first.1) (first.2)

      one_less : (a b c d e : ℕ) → b + a ≡ c → c ≡ d → d ≡ a + e → e ≡ b
      one_less a b c d e f g i = omega arith

      fewer : (k : K) → count_by (p k) xs ≡ count_by (q k) rest
      fewer k = one_less (cond (p k x) 1 0) (count_by (q k) rest) (count_by (q k) ys) (count_by (p k) (x ∷ xs)) (count_by (p k) xs)
          (ap (λ b. count_by (q k) rest + cond b 1 0) (sym (alike k x (first.0) passes)) ∙ count-without_first (q k) (q (key x)) ys (first.0) (first.1) (first.2))
          (sym (h k)) (count-cons (p k) x xs)

      shorter : length rest + 1 ≡ length ys
      shorter = ap (λ n. n + 1) (sym (count_all rest)) ∙ count-without_first (λ y. true) (q (key x)) ys (first.0) (first.1) (first.2) ∙ count_all ys

      joined : (a b c : ℕ) → a ≡ b → b + 1 ≡ c → suc a ≡ c
      joined a b c e f = omega arith

-- an element that at most one passes is counted as it is found
pub counted_once : {A : Type 0} (f : A → ℕ) (test : A → Bool) (xs : List A) → count_by test xs ≤ 1 → count_by test xs ≡ cond (is_some (option_map f (find test xs))) 1 0
counted_once f test [] h = refl
counted_once f test (x ∷ xs) h = count-cons test x xs ∙ by (test x) refl (counted_once f test xs)
  where
    few : (t : Bool) → test x ≡ t → cond t 1 0 + count_by test xs ≤ 1
    few t e = subst (λ b. cond b 1 0 + count_by test xs ≤ 1) e (subst (λ n. n ≤ 1) (count-cons test x xs) h)

    one : (n : ℕ) → 1 + n ≤ 1 → 1 + n ≡ 1
    one n g = omega arith

    same : (n : ℕ) → 0 + n ≤ 1 → n ≤ 1
    same n g = omega arith

    none : (n m : ℕ) → n ≡ m → 0 + n ≡ m
    none n m e = omega arith

    by : (t : Bool) → test x ≡ t → (count_by test xs ≤ 1 → count_by test xs ≡ cond (is_some (option_map f (find test xs))) 1 0)
        → cond (test x) 1 0 + count_by test xs ≡ cond (is_some (option_map f (cond (test x) (Some x) (find test xs)))) 1 0
    by true t again =
        ap (λ b. cond b 1 0 + count_by test xs) t ∙ one (count_by test xs) (few true t)
        ∙ sym (ap (λ b. cond (is_some (option_map f (cond b (Some x) (find test xs)))) 1 0) t)
    by false t again =
        ap (λ b. cond b 1 0 + count_by test xs) t ∙ none _ _ (again (same (count_by test xs) (few false t)))
        ∙ sym (ap (λ b. cond (is_some (option_map f (cond b (Some x) (find test xs)))) 1 0) t)

-- a count of what a filter leaves
pub count_filtered : {A : Type 0} (p q test : A → Bool) (xs : List A) → count_by (λ x. p x && q x) (filter test xs) ≡ count_by (λ x. test x && p x && q x) xs
count_filtered p q test [] = refl
count_filtered p q test (x ∷ xs) = by (test x) (count_filtered p q test xs) ∙ sym (count-cons (λ y. test y && p y && q y) x xs)
  where
    zero_more : (n m : ℕ) → n ≡ m → n ≡ 0 + m
    zero_more n m e = omega arith

    by : (t : Bool) → count_by (λ y. p y && q y) (filter test xs) ≡ count_by (λ y. test y && p y && q y) xs
        → count_by (λ y. p y && q y) (cond t (x ∷ filter test xs) (filter test xs)) ≡ cond (t && p x && q x) 1 0 + count_by (λ y. test y && p y && q y) xs
    by true h = count-cons (λ y. p y && q y) x (filter test xs) ∙ ap (λ n. cond (p x && q x) 1 0 + n) h
    by false h = zero_more _ _ h

-- the least free number depends on what is listed alone
pub least_free_same : (xs ys : List ℕ) → ((n : ℕ) → is_listed xs n ≡ is_listed ys n) → least_free xs ≡ least_free ys
least_free_same xs ys h = both (least_free xs) (least_free ys)
    (least_free_low xs (least_free ys) (h (least_free ys) ∙ least_free_new ys))
    (least_free_low ys (least_free xs) (sym (h (least_free xs)) ∙ least_free_new xs))
  where
    both : (m n : ℕ) → m ≤ n → n ≤ m → m ≡ n
    both m n a b = omega arith

-- an id is listed exactly where a number is held under it
pub listed_operand : (es : List Held) (node app id : ℕ)
    → is_listed (map (λ e. Held.id e) (filter (λ e. (Held.node e == node) && (Held.app e == app)) es)) id
    ≡ is_some (option_map (λ e. Held.number e) (find (λ e. (Held.node e == node) && (Held.app e == app) && (Held.id e == id)) es))
unfolding is_listed
listed_operand [] node app id = refl
listed_operand (e ∷ es) node app id = by (e.node == node) (e.app == app) (e.id == id) refl (listed_operand es node app id)
  where
    rest : List Held
    rest = filter (λ g. (Held.node g == node) && (Held.app g == app)) es

    beyond : Option Held
    beyond = find (λ g. (Held.node g == node) && (Held.app g == app) && (Held.id g == id)) es

    by : (r t u : Bool) → (e.id == id) ≡ u → is_listed (map (λ g. Held.id g) rest) id ≡ is_some (option_map (λ g. Held.number g) beyond)
        → is_listed (map (λ g. Held.id g) (cond (r && t) (e ∷ rest) rest)) id ≡ is_some (option_map (λ g. Held.number g) (cond (r && t && u) (Some e) beyond))
    by true true true i again = ap (λ b. b || is_listed (map (λ g. Held.id g) rest) id) i
    by true true false i again = ap (λ b. b || is_listed (map (λ g. Held.id g) rest) id) i ∙ again
    by true false u i again = again
    by false t u i again = again

-- nothing passes exactly where there is no first place
none_pass : {A : Type 0} (test : A → Bool) (xs : List A) → (length (filter test xs) == 0) ≡ is_none (find test xs)
none_pass test [] = refl
none_pass test (x ∷ xs) = by (test x) (none_pass test xs)
  where
    some : (n : ℕ) → (suc n == 0) ≡ false
    some n = grind arith

    by : (t : Bool) → (length (filter test xs) == 0) ≡ is_none (find test xs) → (length (cond t (x ∷ filter test xs) (filter test xs)) == 0) ≡ is_none (cond t (Some x) (find test xs))
    by true h = some (length (filter test xs))
    by false h = h

pub first_found : {A : Type 0} (test : A → Bool) (xs : List A) → is_none (find test xs) ≡ is_none (position test xs)
first_found test xs = by (position test xs) refl
  where
    at : (xs : List _) (i : ℕ) → position test xs ≡ Some i → is_none (find test xs) ≡ false
    at [] i e = absurd (none_some e)
      where
        none_some : None ≡ Some i → ⊥
        none_some f = cc
    at (x ∷ xs) i e = ap is_none (found_at test (x ∷ xs) i x e)

    by : (o : Option ℕ) → position test xs ≡ o → is_none (find test xs) ≡ is_none (position test xs)
    by None e = ap is_none (found_none test xs e) ∙ sym (ap is_none e)
    by (Some i) e = at xs i e ∙ sym (ap is_none e)

-- ---- the node
module _ (s : Network) (m : ℕ) (n : Node) (fits : FitsNode s m (held_map n) (arrived_map n)) where
  -- what an application holds under an id
  pub same_operand : (c : Call) (id : ℕ) → c.node ≡ m → operand s c id ≡ number_of n.handles c.app id
  unfolding operand
  same_operand c id at = ap (λ k. held_number s k c.app id) at ∙ sym (fits.handles c.app id)

  -- the least id that an application has free
  pub same_least_id : (app : ℕ) → least_id s m app ≡ least_free (ids_of n.handles app)
  unfolding least_id held_number
  same_least_id app = least_free_same _ (ids_of n.handles app) (λ id. listed_operand s.held m app id ∙ ap is_some (sym (fits.handles app id)) ∙ sym (listed_held n.handles app id))

  -- a queue's length
  pub same_length_queue : (app : ℕ) (line : Line) → length (queue s m app line) ≡ length (filter (is_waiting app line) n.arrivals)
  same_length_queue app line =
      sym (length-map (queue s m app line) (λ e. (Waiting.number e, Waiting.info e)))
      ∙ ap length (sym (fits.queues app line))
      ∙ length-map (filter (is_waiting app line) n.arrivals) told_of

  -- a queue is empty exactly where nothing waits
  pub same_queue : (app : ℕ) (line : Line) → (length (queue s m app line) == 0) ≡ is_none (position (is_waiting app line) n.arrivals)
  same_queue app line = ap (λ k. k == 0) (same_length_queue app line) ∙ none_pass (is_waiting app line) n.arrivals ∙ first_found (is_waiting app line) n.arrivals

  handles_load : (shape : Shape) → IsSound shape s → AreDistinct n.handles → count_by (λ e. Held.node e == m) s.held ≡ length n.handles
  unfolding held_number
  handles_load shape sound distinct =
      sym (length-filter (λ e. Held.node e == m) s.held)
      ∙ same_length {A = Held} {B = Handle} {K = ℕ × ℕ} (λ k e. (Held.app e == k.0) && (Held.id e == k.1)) (λ k h. is_named (k.0) (k.1) h) (λ e. (Held.app e, Held.id e)) (λ h. (Handle.app h, Handle.id h))
      (λ e. named_self (Held.app e) (Held.id e)) (λ h. named_self (Handle.app h) (Handle.id h)) alike (filter (λ e. Held.node e == m) s.held) n.handles counts
    where
      named_self : (a i : ℕ) → ((a == a) && (i == i)) ≡ true
      named_self a i = ap (λ b. b && (i == i)) (eq_true a a refl) ∙ eq_true i i refl

      alike : (k : ℕ × ℕ) (e : Held) (h : Handle) → is_named (Held.app e) (Held.id e) h ≡ true → is_named (k.0) (k.1) h ≡ ((Held.app e == k.0) && (Held.id e == k.1))
      alike k e h t =
          let both = both_true (h.app == e.app) (h.id == e.id) t in
          ap (λ a. (a == k.0) && (h.id == k.1)) (eq_of h.app e.app (both.0)) ∙ ap (λ i. (e.app == k.0) && (i == k.1)) (eq_of h.id e.id (both.1))

      counts : (k : ℕ × ℕ) → count_by (λ e. (Held.app e == k.0) && (Held.id e == k.1)) (filter (λ e. Held.node e == m) s.held) ≡ count_by (is_named (k.0) (k.1)) n.handles
      counts k =
          count_filtered (λ e. Held.app e == k.0) (λ e. Held.id e == k.1) (λ e. Held.node e == m) s.held
          ∙ counted_once (λ e. Held.number e) (λ e. (Held.node e == m) && (Held.app e == k.0) && (Held.id e == k.1)) s.held (sound.one_handle m (k.0) (k.1))
          ∙ ap (λ o. cond (is_some o) 1 0) (sym (fits.handles (k.0) (k.1)))
          ∙ sym (counted_once (λ h. Handle.number h) (is_named (k.0) (k.1)) n.handles (distinct (k.0) (k.1)))

  arrivals_load : count_by (λ e. Waiting.node e == m) s.waiting ≡ length n.arrivals
  unfolding queue is_in_queue
  arrivals_load =
      sym (length-filter (λ e. Waiting.node e == m) s.waiting)
      ∙ same_length {A = Waiting} {B = Arrival} {K = ℕ × Line} (λ k e. (Waiting.app e == k.0) && line_eq (Waiting.line e) (k.1)) (λ k a. is_waiting (k.0) (k.1) a) (λ e. (Waiting.app e, Waiting.line e)) (λ a. (Arrival.app a, Arrival.line a))
      (λ e. in_self (Waiting.app e) (Waiting.line e)) (λ a. in_self (Arrival.app a) (Arrival.line a)) alike (filter (λ e. Waiting.node e == m) s.waiting) n.arrivals counts
    where
      in_self : (a : ℕ) (l : Line) → ((a == a) && line_eq l l) ≡ true
      in_self a l = ap (λ b. b && line_eq l l) (eq_true a a refl) ∙ line_eq_of l l refl

      alike : (k : ℕ × Line) (e : Waiting) (a : Arrival) → is_waiting (Waiting.app e) (Waiting.line e) a ≡ true → is_waiting (k.0) (k.1) a ≡ ((Waiting.app e == k.0) && line_eq (Waiting.line e) (k.1))
      alike k e a t =
          let both = both_true (a.app == e.app) (line_eq a.line e.line) t in
          ap (λ b. (b == k.0) && line_eq a.line (k.1)) (eq_of a.app e.app (both.0)) ∙ ap (λ l. (e.app == k.0) && line_eq l (k.1)) (line_of_eq a.line e.line (both.1))

      counts : (k : ℕ × Line) → count_by (λ e. (Waiting.app e == k.0) && line_eq (Waiting.line e) (k.1)) (filter (λ e. Waiting.node e == m) s.waiting) ≡ count_by (is_waiting (k.0) (k.1)) n.arrivals
      counts k =
          count_filtered (λ e. Waiting.app e == k.0) (λ e. line_eq (Waiting.line e) (k.1)) (λ e. Waiting.node e == m) s.waiting
          ∙ sym (length-filter (λ e. (Waiting.node e == m) && (Waiting.app e == k.0) && line_eq (Waiting.line e) (k.1)) s.waiting)
          ∙ same_length_queue (k.0) (k.1)
          ∙ length-filter (is_waiting (k.0) (k.1)) n.arrivals

  -- how many qubits the node holds and has waiting
  pub same_load : (shape : Shape) → IsSound shape s → AreDistinct n.handles → load s m ≡ load_of n
  unfolding load
  same_load shape sound distinct = ap (λ k. k + count_by (λ e. Waiting.node e == m) s.waiting) (handles_load shape sound distinct) ∙ ap (λ k. length n.handles + k) arrivals_load
