-- What the changes of a node do to its maps of held numbers and of queues.
use Rattle.std.proofs.Common.{◌≡◌, ℕ, ◌≤◌, ◌==◌, Bool, true, false, not, cond, ◌&&◌, List, [], ◌∷◌, ◌++◌, length, length-append, length-drop, map, Option, None, Some, is_some, find, filter, option_map, remove, take, drop, refl, sym, ap, subst, ◌∙◌, arith}
use Prim.Native.Nat.{suc}
use Rattle.std.proofs.lemmas.List.{map-append, length-take}
use Rattle.std.proofs.lemmas.List.Sums.{length-filter, count_by-le-length}
use Rattle.std.proofs.lemmas.List.Elements.{All-append, All-take, All-drop, filter-append}
use Rattle.network_model.specs.Network.{line_eq}
use Rattle.network_model.specs.declared.Line.{Line}
use Rattle.network_model.specs.declared.Line.TheVariants.{Sent, Pair}
use Rattle.state_model.proofs.Booleans.{clash, both_true, eq_of, eq_true}
use Rattle.qubit_handles.specs.Handle.{is_named, number_of, without_handle}
use Rattle.qubit_handles.specs.declared.handles.Handle.{Handle}
use Rattle.virtual_node.specs.Node.{Node, AreInformed, is_waiting, held_map, arrived_map, told_of, look_of, with_handle, without_held, with_arrival}
use Rattle.virtual_node.specs.declared.arrival.Arrival.{Arrival}
use Rattle.virtual_node.specs.declared.arrival.Look.TheVariants.{Here, Empty}

-- ---- what the cell keeps
pub fewer_handles : (hs : List Handle) (app id : ℕ) → length (without_handle hs app id) ≤ length hs
fewer_handles hs app id =
    let all = length-filter (λ h. not (is_named app id h)) hs in
    let few = count_by-le-length (λ h. not (is_named app id h)) hs in
    omega arith

pub still_informed : (xs : List Arrival) (place : ℕ) → AreInformed xs → AreInformed (remove xs place)
still_informed xs place h = All-append (λ a. is_some (Arrival.info a) ≡ line_eq (Arrival.line a) Pair) (take place xs) (drop (suc place) xs)
    (All-take (λ a. is_some (Arrival.info a) ≡ line_eq (Arrival.line a) Pair) place xs h) (All-drop (λ a. is_some (Arrival.info a) ≡ line_eq (Arrival.line a) Pair) (suc place) xs h)

pub fewer_arrivals : (xs ys : List Arrival) (place : ℕ) → ys ≡ remove xs place → length ys ≤ length xs
fewer_arrivals xs ys place e =
    let left = ap length e in
    let parts = length-append (take place xs) (drop (suc place) xs) in
    let before = length-take place xs in
    let behind = length-drop (suc place) xs in
    omega arith

-- ---- lists
find_snoc : {A : Type 0} (test : A → Bool) (xs : List A) (x : A) → find test xs ≡ None → find test (xs ++ x ∷ []) ≡ cond (test x) (Some x) None
find_snoc test [] x e = refl
find_snoc test (y ∷ xs) x e = by (test y) (find_snoc test xs x) e
  where
    by : (t : Bool) → (find test xs ≡ None → find test (xs ++ x ∷ []) ≡ cond (test x) (Some x) None) → cond t (Some y) (find test xs) ≡ None → cond t (Some y) (find test (xs ++ x ∷ [])) ≡ cond (test x) (Some x) None
    by true again f = cc
    by false again f = again f

find_snoc_old : {A : Type 0} (test : A → Bool) (xs : List A) (x : A) → test x ≡ false → find test (xs ++ x ∷ []) ≡ find test xs
find_snoc_old test [] x e = ap (λ t. cond t (Some x) None) e
find_snoc_old test (y ∷ xs) x e = ap (λ l. cond (test y) (Some y) l) (find_snoc_old test xs x e)

none_mapped : {A B : Type 0} (f : A → B) (o : Option A) → option_map f o ≡ None → o ≡ None
none_mapped f None e = refl
none_mapped f (Some a) e = cc

same_name : (h : Handle) (app id : ℕ) → is_named app id h ≡ true → (h.app ≡ app) × (h.id ≡ id)
same_name h app id t = let both = both_true (h.app == app) (h.id == id) t in (eq_of h.app app (both.0), eq_of h.id id (both.1))

-- ---- handles
-- an added handle is held under its own name, and the others are as before
pub held_map-with_handle : (n : Node) (h : Handle) (app id : ℕ) → number_of n.handles h.app h.id ≡ None → held_map (with_handle n h) app id ≡ cond (is_named app id h) (Some h.number) (held_map n app id)
held_map-with_handle n h app id free = by (is_named app id h) refl
  where
    by : (t : Bool) → is_named app id h ≡ t → number_of (n.handles ++ h ∷ []) app id ≡ cond (is_named app id h) (Some h.number) (number_of n.handles app id)
    by true t =
        let same = same_name h app id t in
        let none : number_of n.handles app id ≡ None = subst (λ i. number_of n.handles app i ≡ None) (same.1) (subst (λ a. number_of n.handles a h.id ≡ None) (same.0) free) in
        ap (option_map (λ g. Handle.number g)) (find_snoc (is_named app id) n.handles h (none_mapped (λ g. Handle.number g) (find (is_named app id) n.handles) none) ∙ ap (λ b. cond b (Some h) None) t)
        ∙ sym (ap (λ b. cond b (Some h.number) (number_of n.handles app id)) t)
    by false t = ap (option_map (λ g. Handle.number g)) (find_snoc_old (is_named app id) n.handles h t) ∙ sym (ap (λ b. cond b (Some h.number) (number_of n.handles app id)) t)

-- a dropped handle is held no more
pub held_map-without_held : (n : Node) (app id : ℕ) → held_map (without_held n app id) app id ≡ None
held_map-without_held n app id = ap (option_map (λ g. Handle.number g)) (gone n.handles)
  where
    gone : (hs : List Handle) → find (is_named app id) (without_handle hs app id) ≡ None
    gone [] = refl
    gone (h ∷ hs) = by (is_named app id h) refl (gone hs)
      where
        by : (t : Bool) → is_named app id h ≡ t → find (is_named app id) (without_handle hs app id) ≡ None → find (is_named app id) (cond (not (is_named app id h)) (h ∷ without_handle hs app id) (without_handle hs app id)) ≡ None
        by true t again = ap (λ b. find (is_named app id) (cond (not b) (h ∷ without_handle hs app id) (without_handle hs app id))) t ∙ again
        by false t again = ap (λ b. find (is_named app id) (cond (not b) (h ∷ without_handle hs app id) (without_handle hs app id))) t ∙ ap (λ b. cond b (Some h) (find (is_named app id) (without_handle hs app id))) t ∙ again

-- the handles of other names are as before
pub held_map-others : (n : Node) (app id other_app other_id : ℕ) → ((other_app == app) && (other_id == id)) ≡ false → held_map (without_held n app id) other_app other_id ≡ held_map n other_app other_id
held_map-others n app id other_app other_id apart = ap (option_map (λ g. Handle.number g)) (kept n.handles)
  where
    -- one name is not another
    passed : (h : Handle) (s : Bool) → is_named other_app other_id h ≡ s → is_named app id h ≡ true → s ≡ false
    passed h false e f = refl
    passed h true e f =
        let same = same_name h app id f in
        let also = same_name h other_app other_id e in
        let one : (other_app == app) ≡ true = eq_true other_app app (sym (also.0) ∙ same.0) in
        let two : (other_id == id) ≡ true = eq_true other_id id (sym (also.1) ∙ same.1) in
        absurd (clash (sym (ap (λ b. b && (other_id == id)) one ∙ two) ∙ apart))

    kept : (hs : List Handle) → find (is_named other_app other_id) (without_handle hs app id) ≡ find (is_named other_app other_id) hs
    kept [] = refl
    kept (h ∷ hs) = by (is_named app id h) refl (kept hs)
      where
        by : (t : Bool) → is_named app id h ≡ t → find (is_named other_app other_id) (without_handle hs app id) ≡ find (is_named other_app other_id) hs
            → find (is_named other_app other_id) (cond (not (is_named app id h)) (h ∷ without_handle hs app id) (without_handle hs app id)) ≡ cond (is_named other_app other_id h) (Some h) (find (is_named other_app other_id) hs)
        by true t again = ap (λ b. find (is_named other_app other_id) (cond (not b) (h ∷ without_handle hs app id) (without_handle hs app id))) t ∙ again
            ∙ sym (ap (λ b. cond b (Some h) (find (is_named other_app other_id) hs)) (passed h (is_named other_app other_id h) refl t))
        by false t again = ap (λ b. find (is_named other_app other_id) (cond (not b) (h ∷ without_handle hs app id) (without_handle hs app id))) t ∙ ap (λ l. cond (is_named other_app other_id h) (Some h) l) again

-- ---- arrivals
-- an arrival is the last of its queue, and the other queues are as before
pub arrived_map-with_arrival : (n : Node) (a : Arrival) (app : ℕ) (line : Line) → arrived_map (with_arrival n a) app line ≡ arrived_map n app line ++ cond (is_waiting app line a) (told_of a ∷ []) []
arrived_map-with_arrival n a app line =
    ap (map told_of) (filter-append (is_waiting app line) n.arrivals (a ∷ []))
    ∙ map-append told_of (filter (is_waiting app line) n.arrivals) (filter (is_waiting app line) (a ∷ []))
    ∙ ap (λ l. arrived_map n app line ++ l) (one (is_waiting app line a))
  where
    one : (t : Bool) → map told_of (cond t (a ∷ []) []) ≡ cond t (told_of a ∷ []) []
    one true = refl
    one false = refl

-- the lines are told apart
pub line_of_eq : (one two : Line) → line_eq one two ≡ true → one ≡ two
unfolding line_eq
line_of_eq Sent Sent e = refl
line_of_eq Sent Pair e = cc
line_of_eq Pair Sent e = cc
line_of_eq Pair Pair e = refl

pub line_eq_of : (one two : Line) → one ≡ two → line_eq one two ≡ true
unfolding line_eq
line_eq_of Sent Sent e = refl
line_eq_of Sent Pair e = cc
line_eq_of Pair Sent e = cc
line_eq_of Pair Pair e = refl

-- one queue is not another
pub apart_queues : (app : ℕ) (line : Line) (other : ℕ) (beside : Line) → ((other == app) && line_eq beside line) ≡ false → (a : Arrival) → is_waiting app line a ≡ true → is_waiting other beside a ≡ false
apart_queues app line other beside apart a here = by (is_waiting other beside a) refl
  where
    by : (t : Bool) → is_waiting other beside a ≡ t → is_waiting other beside a ≡ false
    by false t = t
    by true t =
        let this = both_true (a.app == app) (line_eq a.line line) here in
        let that = both_true (a.app == other) (line_eq a.line beside) t in
        let one : (other == app) ≡ true = eq_true other app (sym (eq_of a.app other (that.0)) ∙ eq_of a.app app (this.0)) in
        let two : line_eq beside line ≡ true = line_eq_of beside line (sym (line_of_eq a.line beside (that.1)) ∙ line_of_eq a.line line (this.1)) in
        absurd (clash (sym (ap (λ b. b && line_eq beside line) one ∙ two) ∙ apart))

-- ---- looks
-- a look that finds an arrival gives its place
pub look_here : (o : Option ℕ) (place : ℕ) → look_of o ≡ Here place → o ≡ Some place
look_here None place e = cc
look_here (Some p) place e = cc

-- a look that finds nothing has no place
pub look_empty : (o : Option ℕ) → look_of o ≡ Empty → o ≡ None
look_empty None e = refl
look_empty (Some p) e = cc
