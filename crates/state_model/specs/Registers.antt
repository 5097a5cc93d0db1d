-- Registers, which write a vector over listed qubits as a list; and products of vectors over groups.
use Rattle.std.specs.Prelude.{ℕ, ◌≡◌, ◌+◌, ◌*◌, ◌==◌, true, false, cond, List, [], ◌∷◌, ◌++◌, slice_index_or, ⊤}
use Rattle.state_model.specs.Coefficient.{Coefficient, zero_coefficient, one_coefficient, ◌⊗◌}
use Rattle.state_model.specs.Row.{is_set, is_listed, within}
use Rattle.state_model.specs.StateVector.{Vector, IsPart}

-- the register's row of a row of the network: bit j is the bit of the j-th qubit
unfoldable pub register_row : List ℕ → ℕ → ℕ
register_row [] x = 0
register_row (q ∷ qs) x = cond (is_set q x) 1 0 + 2 * register_row qs x

-- the vector of a register's qubits and list
unfoldable pub register_vector : List ℕ → List Coefficient → Vector
register_vector qs list x = cond (within qs x == x) (slice_index_or list (register_row qs x) zero_coefficient) zero_coefficient

-- what contracts see of a register's value
pub record Register : Type 0 where
  pub limit : ℕ
  pub qubits : List ℕ
  pub list : List Coefficient

-- all numbers of the groups
unfoldable pub union_of : List (List ℕ × Vector) → List ℕ
union_of [] = []
union_of (u ∷ us) = u.0 ++ union_of us

-- the product of vectors over groups: at a row, the product of their coefficients within their groups
unfoldable pub product_of : List (List ℕ × Vector) → Vector
product_of [] x = one_coefficient
product_of (u ∷ us) x = u.1 (within (u.0) x) ⊗ product_of us x

-- the product over the rows of the groups' numbers
unfoldable pub product_over : List (List ℕ × Vector) → Vector
product_over us x = cond (within (union_of us) x == x) (product_of us x) zero_coefficient

-- each vector of the list is a part of v on its group
abbrev pub AreParts : Vector → List (List ℕ × Vector) → Type 0
AreParts v [] = ⊤
AreParts v (u ∷ us) = IsPart v (u.0) (u.1) × AreParts v us

-- no number stands in two of the groups
abbrev pub AreDisjoint : List (List ℕ × Vector) → Type 0
AreDisjoint [] = ⊤
AreDisjoint (u ∷ us) = ((p : ℕ) → is_listed (u.0) p ≡ true → is_listed (union_of us) p ≡ false) × AreDisjoint us
