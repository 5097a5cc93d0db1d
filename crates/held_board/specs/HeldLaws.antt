-- What is found of seats behind a write to one of them.
use Rattle.std.proofs.Common.{◌≡◌, ℕ, zero, suc, ◌==◌, Bool, true, false, cond, List, [], ◌∷◌, Option, None, Some, IsSome, slice_get, slice_set, refl, sym, ap, subst, ◌∙◌}
use mathlib.Core.Bool.{false≢true}
use Rattle.state_model.proofs.Booleans.{eq_of, ne_of}
use Rattle.core_cells.specs.Writing.{get_set, get_beside}
use Rattle.held_board.specs.declared.seat.Seat.{Seat}
use Rattle.held_board.specs.Seats.{place, cell_in, cell_of, with_cell}

module _ {T : Type 0} where
  -- the seat at a number's place has that number
  pub number_at : (ss : List (Seat T)) (n : ℕ) (s : Seat T) → slice_get ss (place ss n) ≡ Some s → s.number ≡ n
  number_at [] n s at = cc
  number_at (x ∷ ss) n s at = by (n == x.number) refl (number_at ss n s)
    where
      by : (b : Bool) → (n == x.number) ≡ b → (slice_get ss (place ss n) ≡ Some s → s.number ≡ n) → s.number ≡ n
      by true e rest = let same : x ≡ s = cc (e, at, ap (λ b. slice_get (x ∷ ss) (cond b 0 (suc (place ss n)))) e) in sym (ap (λ (u : Seat T). u.number) same) ∙ sym (eq_of n x.number e)
      by false e rest = rest (sym (ap (λ b. slice_get (x ∷ ss) (cond b 0 (suc (place ss n)))) e) ∙ at)

  -- places stay where a seat is set whose number is that of the one before
  pub place_set : (ss : List (Seat T)) (k m : ℕ) (s u : Seat T) → slice_get ss k ≡ Some s → u.number ≡ s.number → place (slice_set ss k u) m ≡ place ss m
  place_set [] k m s u at is = refl
  place_set (x ∷ ss) zero m s u at is = let same : x ≡ s = cc (at) in ap (λ n. cond (m == n) 0 (suc (place ss m))) (is ∙ sym (ap (λ (v : Seat T). v.number) same))
  place_set (x ∷ ss) (suc k) m s u at is = ap (λ p. cond (m == x.number) 0 (suc p)) (place_set ss k m s u at is)

  -- a cell that is there is in a seat
  pub seat_of : (ss : List (Seat T)) (n : ℕ) → IsSome (cell_of ss n) → (s : Seat T) × (slice_get ss (place ss n) ≡ Some s)
  seat_of ss n has = by (slice_get ss (place ss n)) has refl
    where
      by : (o : Option (Seat T)) → IsSome (cell_in o) → slice_get ss (place ss n) ≡ o → (s : Seat T) × (slice_get ss (place ss n) ≡ Some s)
      by None h e = absurd (false≢true h)
      by (Some s) h e = (s, e)

  -- numbers of one place are one number
  same_number : (ss : List (Seat T)) (k m : ℕ) (s : Seat T) → slice_get ss (place ss k) ≡ Some s → place ss m ≡ place ss k → m ≡ k
  same_number ss k m s at same = sym (number_at ss m s (ap (slice_get ss) same ∙ at)) ∙ number_at ss k s at

  pub cell_set : (ss : List (Seat T)) (k m : ℕ) (w : T) → IsSome (cell_of ss k) → cell_of (with_cell ss k w) m ≡ cond (m == k) (Some w) (cell_of ss m)
  cell_set ss k m w has = by (m == k) refl
    where
      new : Seat T
      new = record { number = k; cell = Some w }

      at : (s : Seat T) × (slice_get ss (place ss k) ≡ Some s)
      at = seat_of ss k has

      stays : place (with_cell ss k w) m ≡ place ss m
      stays = place_set ss (place ss k) m (at.0) new (at.1) (sym (number_at ss k (at.0) (at.1)))

      by : (b : Bool) → (m == k) ≡ b → cell_of (with_cell ss k w) m ≡ cond (m == k) (Some w) (cell_of ss m)
      by true e =
          ap (λ p. cell_in (slice_get (with_cell ss k w) p)) (stays ∙ ap (place ss) (eq_of m k e)) ∙ ap cell_in (get_set ss (place ss k) new (subst (λ (o : Option (Seat T)). IsSome o) (sym at.1) refl))
          ∙ sym (ap (λ b. cond b (Some w) (cell_of ss m)) e)
      by false e =
          ap (λ p. cell_in (slice_get (with_cell ss k w) p)) stays
          ∙ ap cell_in (get_beside ss (place ss k) (place ss m) new (λ same. ne_of m k e (same_number ss k m (at.0) (at.1) same)))
          ∙ sym (ap (λ b. cond b (Some w) (cell_of ss m)) e)
