-- State vectors as coefficients of rows, equality up to scale and phase, parts and sizes.
use Rattle.std.specs.Prelude.{ℕ, ◌≡◌, ◌≢◌, ◌≤◌, ◌↔◌, List, sum_by}
use Rattle.state_model.specs.Coefficient.{Coefficient, zero_coefficient, ◌⊗◌, squares}
use Rattle.state_model.specs.Row.{within, AgreeOutside, rows_of}

-- a vector: the coefficient of each row, `zero_coefficient` at all but finitely many
abbrev pub Vector : Type 0
Vector = ℕ → Coefficient

-- the row has a coefficient other than zero
abbrev pub HasRow : Vector → ℕ → Type 0
HasRow v x = v x ≢ zero_coefficient

-- the vector's rows have bits of the listed qubits alone
abbrev pub IsOver : List ℕ → Vector → Type 0
IsOver g v = (x : ℕ) → HasRow v x → within g x ≡ x

-- two vectors are the same up to scale and phase
pub record IsSameState (v u : Vector) : Type 0 where
  pub rows : (x : ℕ) → (v x ≡ zero_coefficient) ↔ (u x ≡ zero_coefficient)
  pub ratios : (x y : ℕ) → v x ⊗ u y ≡ v y ⊗ u x

-- u is a part of v on the qubits g: it has a row, bits of g alone, and v's ratios between rows that agree outside g
pub record IsPart (v : Vector) (g : List ℕ) (u : Vector) : Type 0 where
  pub some_row : ¬ ((x : ℕ) → u x ≡ zero_coefficient)
  pub over : IsOver g u
  pub ratios : (x y : ℕ) → AgreeOutside g x y → v x ⊗ u (within g y) ≡ v y ⊗ u (within g x)

-- the sum of the squares of all coordinates of a vector over g
unfoldable pub squares_over : List ℕ → Vector → ℕ
squares_over g u = sum_by (λ x. squares (u x)) (rows_of g)

-- the size of the group g is at least n: every part on g has squares that sum up to n or more
abbrev pub HasSizeAtLeast : Vector → List ℕ → ℕ → Type 0
HasSizeAtLeast v g n = (u : Vector) → IsPart v g u → n ≤ squares_over g u

-- the size of the group g is n: the least sum of squares of all parts on g
pub record IsSize (v : Vector) (g : List ℕ) (n : ℕ) : Type 0 where
  pub least : HasSizeAtLeast v g n
  pub vector : Vector
  pub part : IsPart v g vector
  pub reached : squares_over g vector ≡ n
