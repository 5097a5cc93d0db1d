-- One entry more in a journal.
use Rattle.std.proofs.Common.{◌≡◌, ◌⊎◌, ℕ, zero, suc, ◌+◌, ◌-◌, ◌<◌, ◌≤◌, ◌==◌, List, [], ◌∷◌, ◌++◌, Bool, true, false, cond, filter, length, take, Some, slice_get, slice_set, get_or, None, refl, ap, sym, ◌∙◌, subst, arith, length-append, length-set, get_or-set_same, get_or-set_other, replicate, inl, inr, ⊎_elim}
use Rattle.std.specs.Prelude.{slice_index, Option}
use Rattle.std.proofs.lemmas.Option.{slice_get_within}
use Rattle.std.proofs.lemmas.List.{take-append-le, length-replicate, get_or-replicate}
use Rattle.std.proofs.lemmas.List.Elements.{filter-append}
use mathlib.Core.Logic.{dite}
use native.Mathlib.Decide.{ℕ_discrete}
use mathlib.Core.List.{IsPrefix}
use Rattle.state_model.proofs.Booleans.{clash, eq_true, eq_false}
use Rattle.network_model.specs.Network.{Shape}
use Rattle.network_model.specs.History.{IsLegal, seat_entries}
use Rattle.network_model.specs.declared.Entry.{Entry}
use Rattle.register_locks.specs.declared.slot.Slot.{Slot}
use Rattle.commit_journal.specs.Touching.{touches}
use Rattle.commit_journal.specs.Keeping.{LastTouch, own_count, Keeps}
use Rattle.commit_journal.specs.Views.{Stamp, Worker, HasSeen, HasAdded}
use Rattle.commit_journal.specs.Holding.{IsHeld, IsEntered, AreMarked, AreNext, is_marked, is_ready}
use Rattle.commit_journal.proofs.Histories.{get_first, take_first}
use Rattle.commit_journal.proofs.Slots.{marked_held, held_marked}

-- ---- what stands in the longer list
get_snoc : {E : Type 0} (xs : List E) (e u : E) (i : ℕ) → slice_get (xs ++ e ∷ []) i ≡ Some u → ((i < length xs) × (slice_get xs i ≡ Some u)) ⊎ ((i ≡ length xs) × (e ≡ u))
get_snoc [] e u zero at = inr (refl, cc (at))
get_snoc [] e u (suc i) at = absurd (cc (at))
get_snoc (x ∷ xs) e u zero at = inl (omega arith, at)
get_snoc (x ∷ xs) e u (suc i) at = ⊎_elim (λ t. inl ((let lt = t.0 in omega arith), t.1)) (λ t. let here = t.0 in inr (omega arith, t.1)) (get_snoc xs e u i at)

get_front : {E : Type 0} (xs ys : List E) (i : ℕ) (u : E) → slice_get xs i ≡ Some u → slice_get (xs ++ ys) i ≡ Some u
get_front [] ys i u at = absurd (cc (at))
get_front (x ∷ xs) ys zero u at = at
get_front (x ∷ xs) ys (suc i) u at = get_front xs ys i u at

-- ---- the last entry that touches a cell
module _ (shape : Shape) (n : ℕ) (h : List Entry) (e : Entry) where
  pub last_here : touches shape h e n ≡ true → LastTouch shape n (h ++ e ∷ []) (length h + 1)
  last_here is = record {
    within = omega (arith, length-append h (e ∷ []));
    behind = λ i u le at. let lt = slice_get_within (h ++ e ∷ []) i u at in absurd (omega (arith, length-append h (e ∷ [])));
    at = λ some. (
      e,
      (let same : length h + 1 - 1 ≡ length h = omega arith in ap (slice_get (h ++ e ∷ [])) same ∙ get_first h [] e),
      (let same : length h + 1 - 1 ≡ length h = omega arith in ap (λ k. touches shape (take k (h ++ e ∷ [])) e n) same ∙ ap (λ l. touches shape l e n) (take_first h (e ∷ [])) ∙ is),
    );
  }

  pub last_other : (k : ℕ) → touches shape h e n ≡ false → LastTouch shape n h k → LastTouch shape n (h ++ e ∷ []) k
  last_other k is last = record {
    within = (let below = last.within in omega (arith, length-append h (e ∷ [])));
    behind = λ i u le at. ⊎_elim
        (λ t. let lt = t.0 in ap (λ l. touches shape l u n) (take-append-le i h (e ∷ []) (omega arith)) ∙ last.behind i u le t.1)
        (λ t. ap (λ m. touches shape (take m (h ++ e ∷ [])) u n) t.0 ∙ ap (λ l. touches shape l u n) (take_first h (e ∷ [])) ∙ ap (λ (w : Entry). touches shape h w n) (sym t.1) ∙ is)
        (get_snoc h e u i at);
    at = λ some. let t = last.at some in let below = last.within in (
      t.0,
      get_front h (e ∷ []) (k - 1) t.0 t.1,
      ap (λ l. touches shape l (t.0) n) (take-append-le (k - 1) h (e ∷ []) (omega arith)) ∙ t.2,
    );
  }

-- ---- entries of a seat
pub own_count-append : (s : ℕ) (xs ys : List Entry) → own_count s (xs ++ ys) ≡ own_count s xs + own_count s ys
unfolding seat_entries
own_count-append s xs ys = ap length (filter-append (λ e. (Entry.call e).seat == s) xs ys) ∙ length-append (filter (λ e. (Entry.call e).seat == s) xs) (filter (λ e. (Entry.call e).seat == s) ys)

own_one : (s : ℕ) (e : Entry) → e.call.seat ≡ s → own_count s (e ∷ []) ≡ 1
unfolding seat_entries
own_one s e is = ap (λ b. length (cond b (e ∷ []) [])) (eq_true e.call.seat s is)

own_none : (s : ℕ) (e : Entry) → (e.call.seat ≡ s → ⊥) → own_count s (e ∷ []) ≡ 0
unfolding seat_entries
own_none s e not = ap (λ b. length (cond b (e ∷ []) [])) (eq_false e.call.seat s not)

own_within : (s : ℕ) (h : List Entry) → own_count s h ≤ length h
unfolding seat_entries
own_within s [] = omega arith
own_within s (e ∷ h) = by (e.call.seat == s) (filter (λ u. (Entry.call u).seat == s) h) (own_within s h)
  where
    by : (b : Bool) (r : List Entry) → length r ≤ length h → length (cond b (e ∷ r) r) ≤ suc (length h)
    by true r le = omega arith
    by false r le = omega arith

-- ---- the kept numbers
pub ready_next : {C : Type 0} (has_next : C → Bool) (o : Option C) → is_ready has_next o ≡ true → (x : C) × (o ≡ Some x) × (has_next x ≡ true)
ready_next has_next None r = absurd (clash (sym r))
ready_next has_next (Some x) r = (x, refl, r)

module _ {C : Type 0} (fits : Shape → ℕ → C → List Entry → Type 0) (has_next : C → Bool) (settled : C → C) (shape : Shape) (cells : ℕ) (slots : List (Slot (Stamp C))) (h : List Entry) (e : Entry)
    (entered : IsEntered fits has_next settled shape cells slots h e) where
  -- the cells with next values are those that the entry touches
  pub next_touched : (c : Stamp C) (x : C) → IsHeld slots c → c.cell ≡ Some x → has_next x ≡ true → touches shape h e c.number ≡ true
  next_touched c x held is next = by (touches shape h e c.number) refl
    where
      by : (b : Bool) → touches shape h e c.number ≡ b → b ≡ true
      by true t = refl
      by false t = absurd (clash (sym next ∙ entered.others c x held t is))

  -- their next values fit the history with the entry
  pub are_next : AreNext fits has_next settled shape slots (h ++ e ∷ [])
  are_next c x held is next =
      let r = entered.next c held (next_touched c x held is next) in
      let same : r.0 ≡ x = cc (r.1, is) in
      subst (λ (y : C). fits shape c.number (settled y) (h ++ e ∷ [])) same r.3

  marked_touched : (n : ℕ) → is_marked has_next (length slots) slots n ≡ true → touches shape h e n ≡ true
  marked_touched n m =
      let r = held_marked has_next slots n m in
      let x = ready_next has_next (r.0.cell) r.2 in
      ap (touches shape h e) (sym r.3) ∙ next_touched r.0 x.0 r.1 x.1 x.2

  touched_marked : (n : ℕ) → n < cells → touches shape h e n ≡ true → is_marked has_next (length slots) slots n ≡ true
  touched_marked n lt t =
      let c = entered.held n lt t in
      let x = entered.next c.0 c.1 (ap (touches shape h e) c.2 ∙ t) in
      marked_held has_next slots n c.0 c.1 (ap (is_ready has_next) x.1 ∙ x.2) c.2

  pub keeps_more : (seats : ℕ) (kept kept' made : List ℕ) → Keeps shape cells seats h kept made → e.call.seat < seats → AreMarked has_next (length slots) slots (length h + 1) kept kept'
      → Keeps shape cells seats (h ++ e ∷ []) kept' (slice_set made e.call.seat (slice_index made e.call.seat + 1))
  keeps_more seats kept kept' made k seat marks = record {
    limit = k.limit;
    legal = entered.legal;
    cells_kept = marks.length_stays ∙ k.cells_kept;
    touched = λ n lt. let is = marks.marks n (omega (arith, k.cells_kept)) in by n lt is (is_marked has_next (length slots) slots n) refl;
    seats_kept = length-set made e.call.seat (slice_index made e.call.seat + 1) ∙ k.seats_kept;
    own = own;
    seated = λ i u at. ⊎_elim (λ t. k.seated i u t.1) (λ t. subst (λ (w : Entry). w.call.seat < seats) t.1 seat) (get_snoc h e u i at);
  }
    where
      by : (n : ℕ) → n < cells → slice_index kept' n ≡ cond (is_marked has_next (length slots) slots n) (length h + 1) (slice_index kept n)
          → (b : Bool) → is_marked has_next (length slots) slots n ≡ b → LastTouch shape n (h ++ e ∷ []) (slice_index kept' n)
      by n lt is true m = subst (λ (i : ℕ). LastTouch shape n (h ++ e ∷ []) i) (sym (is ∙ ap (λ b. cond b (length h + 1) (slice_index kept n)) m)) (last_here shape n h e (marked_touched n m))
      by n lt is false m = subst (λ (i : ℕ). LastTouch shape n (h ++ e ∷ []) i) (sym (is ∙ ap (λ b. cond b (length h + 1) (slice_index kept n)) m))
          (last_other shape n h e (slice_index kept n) (missed (touches shape h e n) refl) (k.touched n lt))
        where
          missed : (b : Bool) → touches shape h e n ≡ b → touches shape h e n ≡ false
          missed true t = absurd (clash (sym (touched_marked n lt t) ∙ m))
          missed false t = t

      own : (s : ℕ) → s < seats → slice_index (slice_set made e.call.seat (slice_index made e.call.seat + 1)) s ≡ own_count s (h ++ e ∷ [])
      own s lt = dite (ℕ_discrete s e.call.seat)
          (λ is.
          let here : slice_index (slice_set made e.call.seat (slice_index made e.call.seat + 1)) s ≡ slice_index made s + 1 =
          ap (λ (m : ℕ). get_or (slice_set made e.call.seat (slice_index made e.call.seat + 1)) m 0) is ∙ get_or-set_same made e.call.seat (slice_index made e.call.seat + 1) 0 (omega (arith, k.seats_kept)) ∙ ap (λ (m : ℕ). get_or made m 0 + 1) (sym is) in
          here ∙ omega (arith, own_count-append s h (e ∷ []), own_one s e (sym is), k.own s lt))
          (λ apart.
          get_or-set_other made e.call.seat s (slice_index made e.call.seat + 1) 0 apart ∙ omega (arith, own_count-append s h (e ∷ []), own_none s e (λ is. apart (sym is)), k.own s lt))

-- ---- passes
pub own_more : (seat made : ℕ) (h : List Entry) (e : Entry) → own_count seat h ≡ made → e.call.seat ≡ seat → own_count seat (h ++ e ∷ []) ≡ made + 1
own_more seat made h e is same = omega (arith, own_count-append seat h (e ∷ []), own_one seat e same, is)

others_none : (old : Worker) (h : List Entry) (prefix : IsPrefix old.seen h) → own_count old.seat h ≡ old.made → old.made ≡ own_count old.seat old.seen → own_count old.seat prefix.0 ≡ 0
others_none old h prefix all own = let whole = ap (λ (l : List Entry). own_count old.seat l) prefix.1 in omega (arith, whole, own_count-append old.seat old.seen prefix.0, all, own)

pub seen_all : (old new : Worker) (h : List Entry) → IsPrefix old.seen h → own_count old.seat h ≡ old.made → old.made ≡ own_count old.seat old.seen
    → new ≡ record { seat = old.seat; made = old.made; seen = h } → HasSeen old new h
seen_all old new h prefix all own is =
    subst (λ (w : Worker). HasSeen old w h) (sym is) (record { between = prefix.0; history = sym prefix.1; others = others_none old h prefix all own; seen = refl; made = refl; seat = refl })

pub added_one : (shape : Shape) (old new : Worker) (h : List Entry) (e : Entry) → IsPrefix old.seen h → own_count old.seat h ≡ old.made → old.made ≡ own_count old.seat old.seen
    → IsLegal shape (h ++ e ∷ []) → new ≡ record { seat = old.seat; made = old.made + 1; seen = h ++ e ∷ [] } → HasAdded shape old new h e
added_one shape old new h e prefix all own legal is =
    subst (λ (w : Worker). HasAdded shape old w h e) (sym is)
    (record { between = prefix.0; history = sym prefix.1; others = others_none old h prefix all own; seen = refl; made = refl; seat = refl; legal = legal })

pub own_few : (s : ℕ) (h : List Entry) → own_count s h ≤ length h
own_few s h = own_within s h

-- ---- the empty history
pub own_empty : (s : ℕ) → own_count s [] ≡ 0
unfolding seat_entries
own_empty s = refl

none_touch : (shape : Shape) (n : ℕ) → LastTouch shape n [] 0
none_touch shape n = record { within = omega arith; behind = λ i e le at. absurd (cc (at)); at = λ some. absurd (omega arith) }

pub keeps_none : (shape : Shape) (cells seats : ℕ) (h : List Entry) (kept made : List ℕ) → 1 ≤ shape.limit → h ≡ [] → kept ≡ replicate cells 0 → made ≡ replicate seats 0 → Keeps shape cells seats h kept made
keeps_none shape cells seats h kept made limit none is_kept is_made = record {
  limit = limit;
  legal = subst (IsLegal shape) (sym none) tt;
  cells_kept = ap length is_kept ∙ length-replicate cells 0;
  touched = λ n lt. subst (λ (l : List Entry). LastTouch shape n l (slice_index kept n)) (sym none)
      (subst (λ (k : ℕ). LastTouch shape n [] k) (sym (ap (λ (l : List ℕ). slice_index l n) is_kept ∙ get_or-replicate cells n 0 0 lt)) (none_touch shape n));
  seats_kept = ap length is_made ∙ length-replicate seats 0;
  own = λ s lt. ap (λ (l : List ℕ). slice_index l s) is_made ∙ get_or-replicate seats s 0 0 lt ∙ sym (ap (own_count s) none ∙ own_empty s);
  seated = λ i e at. absurd (never i e (ap (λ (l : List Entry). slice_get l i) (sym none) ∙ at));
}
  where
    never : (i : ℕ) (e : Entry) → slice_get [] i ≡ Some e → ⊥
    never i e at = cc (at)
