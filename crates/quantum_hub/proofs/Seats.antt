-- Cells in seats, with one more and without one. The main results are `cell_more`, `cell_gone` and `cell_apart`.
use Rattle.std.proofs.Common.{◌≡◌, ◌≢◌, ◌⊎◌, inl, inr, ⊎_elim, ℕ, suc, ◌==◌, Bool, true, false, cond, List, [], ◌∷◌, ◌++◌, None, Some, slice_get, slice_set, refl, sym, ap, ◌∙◌}
use Rattle.state_model.proofs.Booleans.{eq_of, eq_true, eq_false}
use Rattle.held_board.specs.declared.seat.Seat.{Seat}
use Rattle.held_board.specs.Seats.{place, cell_in, cell_of, without_cell}

module _ {T : Type 0} where
  -- a seat with a cell, and without one
  abbrev with_one : ℕ → T → Seat T
  with_one n w = record { number = n; cell = Some w }

  abbrev with_none : ℕ → Seat T
  with_none n = record { number = n; cell = None }

  -- the cell of a number, by whether the first seat has it
  first_or : (s : Seat T) (ss : List (Seat T)) (n : ℕ) (b : Bool) → (n == s.number) ≡ b → cell_of (s ∷ ss) n ≡ cond b s.cell (cell_of ss n)
  first_or s ss n true e = ap (λ b. cell_in (slice_get (s ∷ ss) (cond b 0 (suc (place ss n))))) e
  first_or s ss n false e = ap (λ b. cell_in (slice_get (s ∷ ss) (cond b 0 (suc (place ss n))))) e

  -- the seats without a cell, by whether the first seat has it
  without_first : (s : Seat T) (ss : List (Seat T)) (n : ℕ) (b : Bool) → (n == s.number) ≡ b → without_cell (s ∷ ss) n ≡ cond b (with_none n ∷ ss) (s ∷ without_cell ss n)
  without_first s ss n true e = ap (λ b. slice_set (s ∷ ss) (cond b 0 (suc (place ss n))) (with_none n)) e
  without_first s ss n false e = ap (λ b. slice_set (s ∷ ss) (cond b 0 (suc (place ss n))) (with_none n)) e

  -- one cell more is found under its number alone
  pub cell_more : (ss : List (Seat T)) (n m : ℕ) (w x : T) → cell_of (ss ++ with_one n w ∷ []) m ≡ Some x → (cell_of ss m ≡ Some x) ⊎ ((m ≡ n) × (x ≡ w))
  cell_more [] n m w x at = by (m == n) refl
    where
      by : (b : Bool) → (m == n) ≡ b → (cell_of {T = T} [] m ≡ Some x) ⊎ ((m ≡ n) × (x ≡ w))
      by true e = inr (eq_of m n e, cc (at, first_or (with_one n w) [] m true e))
      by false e = absurd (cc (at, first_or (with_one n w) [] m false e))
  cell_more (s ∷ ss) n m w x at = by (m == s.number) refl (cell_more ss n m w x)
    where
      by : (b : Bool) → (m == s.number) ≡ b → (cell_of (ss ++ with_one n w ∷ []) m ≡ Some x → (cell_of ss m ≡ Some x) ⊎ ((m ≡ n) × (x ≡ w)))
          → (cell_of (s ∷ ss) m ≡ Some x) ⊎ ((m ≡ n) × (x ≡ w))
      by true e rest = inl (first_or s ss m true e ∙ sym (first_or s (ss ++ with_one n w ∷ []) m true e) ∙ at)
      by false e rest = ⊎_elim (λ old. inl (first_or s ss m false e ∙ old)) inr (rest (sym (first_or s (ss ++ with_one n w ∷ []) m false e) ∙ at))

  -- a cell that was taken out is gone
  pub cell_gone : (ss : List (Seat T)) (n : ℕ) → cell_of (without_cell ss n) n ≡ None
  cell_gone [] n = refl
  cell_gone (s ∷ ss) n = by (n == s.number) refl (cell_gone ss n)
    where
      by : (b : Bool) → (n == s.number) ≡ b → cell_of (without_cell ss n) n ≡ None → cell_of (without_cell (s ∷ ss) n) n ≡ None
      by true e rest = ap (λ us. cell_of us n) (without_first s ss n true e) ∙ first_or (with_none n) ss n true (eq_true n n refl)
      by false e rest = ap (λ us. cell_of us n) (without_first s ss n false e) ∙ first_or s (without_cell ss n) n false e ∙ rest

  -- and the others stay
  pub cell_apart : (ss : List (Seat T)) (n m : ℕ) → m ≢ n → cell_of (without_cell ss n) m ≡ cell_of ss m
  cell_apart [] n m apart = refl
  cell_apart (s ∷ ss) n m apart = by (n == s.number) refl (m == s.number) refl (cell_apart ss n m apart)
    where
      by : (b : Bool) → (n == s.number) ≡ b → (c : Bool) → (m == s.number) ≡ c → cell_of (without_cell ss n) m ≡ cell_of ss m → cell_of (without_cell (s ∷ ss) n) m ≡ cell_of (s ∷ ss) m
      by true e c f rest =
          ap (λ us. cell_of us m) (without_first s ss n true e) ∙ first_or (with_none n) ss m false (eq_false m n apart)
          ∙ sym (first_or s ss m false (eq_false m s.number (λ is. apart (is ∙ sym (eq_of n s.number e)))))
      by false e true f rest = ap (λ us. cell_of us m) (without_first s ss n false e) ∙ first_or s (without_cell ss n) m true f ∙ sym (first_or s ss m true f)
      by false e false f rest = ap (λ us. cell_of us m) (without_first s ss n false e) ∙ first_or s (without_cell ss n) m false f ∙ rest ∙ sym (first_or s ss m false f)
