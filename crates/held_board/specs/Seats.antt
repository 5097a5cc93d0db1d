-- Cells in seats, found by their numbers.
use Rattle.std.specs.Prelude.{ℕ, suc, ◌≡◌, ◌==◌, Bool, true, false, MatchOption, cond, List, [], ◌∷◌, Option, Some, None, is_some, slice_get, slice_set}
use Rattle.state_model.specs.Row.{is_listed}
use Rattle.core_cells.specs.declared.cells.SlotCell.{SlotCell}
use Rattle.held_board.specs.declared.seat.Seat.{Seat}

module _ {T : Type 0} where
  -- the place of the first seat of a number, or their count where there is none
  abbrev pub place : List (Seat T) → ℕ → ℕ
  place [] n = 0
  place (s ∷ ss) n = cond (n == s.number) 0 (suc (place ss n))

  -- the cell of a seat, if there is one
  abbrev pub cell_in : Option (Seat T) → Option T
  cell_in None = None
  cell_in (Some s) = s.cell

  -- the cell in the first seat of a number
  abbrev pub cell_of : List (Seat T) → ℕ → Option T
  cell_of ss n = cell_in (slice_get ss (place ss n))

  -- the seats with another cell in the first seat of a number
  abbrev pub with_cell : List (Seat T) → ℕ → T → List (Seat T)
  with_cell ss n w = slice_set ss (place ss n) (record { number = n; cell = Some w })

  -- the seats with nothing in the first seat of a number
  abbrev pub without_cell : List (Seat T) → ℕ → List (Seat T)
  without_cell ss n = slice_set ss (place ss n) (record { number = n; cell = None })

  -- no seat has a cell
  abbrev pub AreVacant : List (Seat T) → Type 0
  AreVacant ss = (k : ℕ) (s : Seat T) → slice_get ss k ≡ Some s → is_some s.cell ≡ false

-- whether the register of a slot that is there lists a qubit number
abbrev pub lists : Option SlotCell → ℕ → Bool
lists None q = false
lists (Some w) q = is_listed w.register.value.qubits q

-- the number of a slot whose register lists a qubit number; none exactly where no register does
abbrev pub IsHomeIn : List (Seat SlotCell) → ℕ → Option ℕ → Type 0
IsHomeIn ss q o = MatchOption o ((t : ℕ) → lists (cell_of ss t) q ≡ false) (λ t. lists (cell_of ss t) q ≡ true)
