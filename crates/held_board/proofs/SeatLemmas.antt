-- Seats by their numbers: the place that a search finds, and what is there; a slot whose register lists a number; and two
-- seats that are set at once.
use Rattle.std.proofs.Common.{◌≡◌, ◌≢◌, ℕ, zero, suc, ◌<◌, ◌≤◌, Bool, true, false, cond, List, [], ◌∷◌, length, Option, None, Some, IsSome, is_some, get_or, slice_get, slice_set, refl, sym, ap, subst, ◌∙◌, arith}
use mathlib.Core.Bool.{false≢true}
use Rattle.std.proofs.lemmas.Option.{slice_get_past, slice_get_within, slice_get_read}
use Rattle.std.specs.Prelude.{IsTrue, IfSome}
use Rattle.std.specs.List.{refill}
use Rattle.state_model.proofs.Booleans.{eq_true, eq_false}
use Rattle.state_model.specs.Row.{is_listed}
use Rattle.core_cells.specs.Nodes.{NodeValues}
use Rattle.core_cells.specs.declared.cells.PoolPair.{PoolPair}
use Rattle.core_cells.specs.declared.cells.SlotCell.{SlotCell}
use Rattle.core_cells.proofs.OwnedLemmas.{filled_twice}
use Rattle.held_board.specs.declared.seat.Seat.{Seat}
use Rattle.held_board.specs.SeatLends.{seat_with}
use Rattle.held_board.specs.Seats.{place, cell_in, cell_of, with_cell, lists, AreVacant, IsHomeIn}
use Rattle.held_board.specs.Held.{Held, HasNone, IsVacant, held_cells}
use Rattle.held_board.specs.HeldLaws.{number_at, place_set, seat_of}

-- a write past the end changes nothing
pub set_past : {A : Type 0} (xs : List A) (k : ℕ) (x : A) → length xs ≤ k → slice_set xs k x ≡ xs
set_past [] k x past = refl
set_past (y ∷ xs) zero x past = absurd (omega arith)
set_past (y ∷ xs) (suc k) x past = ap (λ l. y ∷ l) (set_past xs k x (omega arith))

-- what is lent of a list, read from the list with another name
pub if_read : {R A : Type 0} (now : R → A) (xs ys : List A) (k : ℕ) (o : Option R) → xs ≡ ys → (IsSome o → k < length ys) → IfSome o (λ x. now x ≡ get_or xs k (now x)) → IfSome o (λ x. slice_get ys k ≡ Some (now x))
if_read now xs ys k None same less is = is
if_read now xs ys k (Some x) same less is = slice_get_read ys (length ys) k (now x) refl (less refl) (is ∙ ap (λ l. get_or l k (now x)) same)

module _ {T : Type 0} where
  -- no seat before a place has the number
  abbrev pub IsBefore : List (Seat T) → ℕ → ℕ → Type 0
  IsBefore ss n k = (j : ℕ) (u : Seat T) → j < k → slice_get ss j ≡ Some u → u.number ≢ n

  pub before_more : (ss : List (Seat T)) (n k : ℕ) (s : Seat T) → IsBefore ss n k → slice_get ss k ≡ Some s → s.number ≢ n → IsBefore ss n (suc k)
  before_more [] n k s before at other j u less there = absurd (cc (at))
  before_more (x ∷ ss) n zero s before at other zero u less there = let same : s ≡ u = cc (at, there) in subst (λ (v : Seat T). v.number ≢ n) same other
  before_more (x ∷ ss) n zero s before at other (suc j) u less there = absurd (omega arith)
  before_more (x ∷ ss) n (suc k) s before at other zero u less there = before zero u (omega arith) there
  before_more (x ∷ ss) n (suc k) s before at other (suc j) u less there = before_more ss n k s (λ i v l t. before (suc i) v (omega arith) t) at other j u (omega arith) there

  -- the place that a search finds
  pub found_at : (ss : List (Seat T)) (n k : ℕ) (s : Seat T) → IsBefore ss n k → slice_get ss k ≡ Some s → s.number ≡ n → k ≡ place ss n
  found_at [] n k s before at is = absurd (cc (at))
  found_at (x ∷ ss) n zero s before at is =
      let same : x ≡ s = cc (at) in sym (ap (λ b. cond b 0 (suc (place ss n))) (eq_true n x.number (sym (ap (λ (u : Seat T). u.number) same ∙ is))))
  found_at (x ∷ ss) n (suc k) s before at is =
      ap suc (found_at ss n k s (λ j u less there. before (suc j) u (omega arith) there) at is)
      ∙ sym (ap (λ b. cond b 0 (suc (place ss n))) (eq_false n x.number (λ e. before zero x (omega arith) refl (sym e))))

  pub nowhere : (ss : List (Seat T)) (n : ℕ) → IsBefore ss n (length ss) → length ss ≡ place ss n
  nowhere [] n before = refl
  nowhere (x ∷ ss) n before =
      ap suc (nowhere ss n (λ j u less there. before (suc j) u (omega arith) there))
      ∙ sym (ap (λ b. cond b 0 (suc (place ss n))) (eq_false n x.number (λ e. before zero x (omega arith) refl (sym e))))

  -- what is at a number's place
  pub place_within : (ss : List (Seat T)) (n : ℕ) → IsSome (cell_of ss n) → place ss n < length ss
  place_within ss n has = let s = seat_of ss n has in slice_get_within ss (place ss n) (s.0) (s.1)

  pub cell_at : (ss : List (Seat T)) (n : ℕ) (s : Seat T) → slice_get ss (place ss n) ≡ Some s → cell_of ss n ≡ s.cell
  cell_at ss n s at = ap cell_in at

  pub none_past : (ss : List (Seat T)) (n : ℕ) → length ss ≤ place ss n → cell_of ss n ≡ None
  none_past ss n past = ap cell_in (slice_get_past ss (place ss n) past)

  -- the seat there with another cell
  pub set_at : (ss : List (Seat T)) (n : ℕ) (s : Seat T) (o : Option T) → slice_get ss (place ss n) ≡ Some s → slice_set ss (place ss n) (record s { cell = o }) ≡ slice_set ss (place ss n) (record { number = n; cell = o })
  set_at ss n s o at = ap (λ m. slice_set ss (place ss n) (record { number = m; cell = o })) (number_at ss n s at)

  -- two seats
  pub places_apart : (ss : List (Seat T)) (one two : ℕ) → one ≢ two → IsSome (cell_of ss one) → place ss two ≢ place ss one
  places_apart ss one two apart has same =
      let s = seat_of ss one has in
      apart (sym (number_at ss one (s.0) (s.1)) ∙ number_at ss two (s.0) (ap (slice_get ss) same ∙ s.1))

  pub two_set_at : (ss : List (Seat T)) (one two : ℕ) (a b : Seat T) (x y : T) → slice_get ss (place ss one) ≡ Some a → slice_get ss (place ss two) ≡ Some b
      → slice_set (slice_set ss (place ss one) (seat_with a x)) (place ss two) (seat_with b y) ≡ with_cell (with_cell ss one x) two y
  two_set_at ss one two a b x y at_a at_b =
      let mid : List (Seat T) = with_cell ss one x in
      let stays : place mid two ≡ place ss two = place_set ss (place ss one) two a (record { number = one; cell = Some x }) at_a (sym (number_at ss one a at_a)) in
      ap (λ l. slice_set l (place ss two) (seat_with b y)) (set_at ss one a (Some x) at_a)
      ∙ ap (λ m. slice_set mid (place ss two) (record { number = m; cell = Some y })) (number_at ss two b at_b)
      ∙ ap (λ k. slice_set mid k (record { number = two; cell = Some y })) (sym stays)

  pub filled_cells : (ss : List (Seat T)) (one two : ℕ) (x y : T) → refill (length ss) ss (with_cell (with_cell ss one x) two y) ≡ with_cell (with_cell ss one x) two y
  filled_cells ss one two x y = filled_twice ss (place ss one) (place (with_cell ss one x) two) (record { number = one; cell = Some x }) (record { number = two; cell = Some y })

  pub seat_has : (ss : List (Seat T)) (n : ℕ) (s : Seat T) → IsSome (cell_of ss n) → slice_get ss (place ss n) ≡ Some s → IsSome s.cell
  seat_has ss n s has at = subst (λ o. IsSome o) (cell_at ss n s at) has

-- ---- slots whose registers list a qubit number
pub none_lists : (ss : List (Seat SlotCell)) (q : ℕ) → ((j : ℕ) (u : Seat SlotCell) → j < length ss → slice_get ss j ≡ Some u → lists (cell_of ss u.number) q ≡ false) → (t : ℕ) → lists (cell_of ss t) q ≡ false
none_lists ss q none t = by (slice_get ss (place ss t)) refl
  where
    by : (o : Option (Seat SlotCell)) → slice_get ss (place ss t) ≡ o → lists (cell_of ss t) q ≡ false
    by None e = ap (λ o. lists (cell_in o) q) e
    by (Some s) e = ap (λ n. lists (cell_of ss n) q) (sym (number_at ss t s e)) ∙ none (place ss t) s (slice_get_within ss (place ss t) s e) e

pub listed_in : (o : Option SlotCell) (q : ℕ) → lists o q ≡ true → (w : SlotCell) × (o ≡ Some w) × (is_listed w.register.value.qubits q ≡ true)
listed_in None q e = absurd (false≢true e)
listed_in (Some w) q e = (w, refl, e)

pub no_home : (ss : List (Seat SlotCell)) (q : ℕ) (o : Option ℕ) → IsHomeIn ss q o → o ≡ None → (t : ℕ) (w : SlotCell) → cell_of ss t ≡ Some w → is_listed w.register.value.qubits q ≡ true → ⊥
no_home ss q None h is t w at listed = false≢true (sym (h t) ∙ ap (λ o. lists o q) at ∙ listed)
no_home ss q (Some u) h is t w at listed = cc

pub some_home : (ss : List (Seat SlotCell)) (q : ℕ) (o : Option ℕ) (t : ℕ) → IsHomeIn ss q o → o ≡ Some t → (w : SlotCell) × (cell_of ss t ≡ Some w) × (is_listed w.register.value.qubits q ≡ true)
some_home ss q None t h is = absurd (cc (is))
some_home ss q (Some u) t h is = let same : u ≡ t = cc (is) in listed_in (cell_of ss t) q (ap (λ n. lists (cell_of ss n) q) (sym same) ∙ h)

pub home_is : (ss : List (Seat SlotCell)) (q : ℕ) (o : Option ℕ) (b : Bool) → IsHomeIn ss q o → b ≡ is_some o
    → (IsTrue b → (t : ℕ) × (w : SlotCell) × (cell_of ss t ≡ Some w) × (is_listed w.register.value.qubits q ≡ true)) × (((t : ℕ) × (w : SlotCell) × (cell_of ss t ≡ Some w) × (is_listed w.register.value.qubits q ≡ true)) → IsTrue b)
home_is ss q None b h e = ((λ yes. absurd (false≢true (sym e ∙ yes))), λ has. absurd (no_home ss q None h refl has.0 has.1 has.2 has.3))
home_is ss q (Some t) b h e = ((λ yes. let w = some_home ss q (Some t) t h refl in (t, w.0, w.1, w.2)), λ has. e)

-- ---- seats without cells
none_is : {A : Type 0} (o : Option A) → is_some o ≡ false → o ≡ None
none_is None e = refl
none_is (Some w) e = absurd (false≢true (sym e))

pub none_of : {T : Type 0} (ss : List (Seat T)) → AreVacant ss → (n : ℕ) → cell_of ss n ≡ None
none_of {T} ss none n = by (slice_get ss (place ss n)) refl
  where
    by : (o : Option (Seat T)) → slice_get ss (place ss n) ≡ o → cell_of ss n ≡ None
    by None e = ap cell_in e
    by (Some s) e = ap cell_in e ∙ none_is s.cell (none (place ss n) s e)

pub vacant_none : (h : Held) → IsVacant h → HasNone (held_cells h)
vacant_none h v = record { node = none_of h.nodes v.nodes; pool = none_is h.pool v.pool; slot = none_of h.slots v.slots }

pub vacant_by : (h : Held) (nodes : List (Seat NodeValues)) (pool : Option PoolPair) (slots : List (Seat SlotCell)) → record { nodes = nodes; pool = pool; slots = slots } ≡ h → AreVacant nodes → is_some pool ≡ false → AreVacant slots → IsVacant h
vacant_by h nodes pool slots is no_nodes no_pool no_slots = subst IsVacant is (record { nodes = no_nodes; pool = no_pool; slots = no_slots })

pub occupied : false ≡ true → ⊥
occupied e = false≢true e
