-- Whether two registers can be merged, and what a merge makes of them.
use Rattle.std.specs.Prelude.{◌≡◌, ℕ, ℤ, pos, nat_abs, ◌+◌, ◌*◌, ◌<◌, ◌≤◌, ◌^◌, ◌≤ℤ◌, true, false, List, [], ◌∷◌, ◌++◌, length, map}
use Rattle.state_model.specs.Coefficient.{Coefficient, ◌⊗◌}
use Rattle.state_model.specs.CoefficientList.{at}
use Rattle.state_model.specs.Row.{is_listed}
use Rattle.state_model.specs.StateVector.{Vector, IsSameState, IsSize}
use Rattle.state_model.specs.Registers.{product_over}
use Rattle.state_model.specs.Amplitudes.{Amplitudes, vector_of}
use Rattle.amplitude_register.specs.States.{RegisterState, draft, prepared, next_value, IsKept}
use Rattle.register_merge.specs.declared.verdicts.Merge.{Merge}
use Rattle.register_merge.specs.declared.verdicts.Merge.TheVariants.{Fits, TooMany, TooLarge}

-- no qubit is listed by both
abbrev pub AreApart : Amplitudes → Amplitudes → Type 0
AreApart a b = (q : ℕ) → is_listed a.qubits q ≡ true → is_listed b.qubits q ≡ false

-- the product of two values: at a row, the product of their coefficients within their qubits
abbrev pub merged : Amplitudes → Amplitudes → Vector
merged a b = product_over ((a.qubits, vector_of a) ∷ (b.qubits, vector_of b) ∷ [])

-- the product has room and a size below 2^60
pub record CanMerge (one two : RegisterState) : Type 0 where
  pub room : length one.value.qubits + length two.value.qubits ≤ one.limit
  pub size : ℕ
  pub least : IsSize (merged one.value two.value) (one.value.qubits ++ two.value.qubits) size
  pub small : size < 2 ^ 60

-- so many qubits are more than there is room for
pub record IsTooMany (one two : RegisterState) (qubits : ℕ) : Type 0 where
  pub sum : qubits ≡ length one.value.qubits + length two.value.qubits
  pub above : one.limit < qubits

-- there is room, and the product's size is 2^60 or more
pub record IsTooLarge (one two : RegisterState) (size : ℤ) : Type 0 where
  pub room : length one.value.qubits + length two.value.qubits ≤ one.limit
  pub least : IsSize (merged one.value two.value) (one.value.qubits ++ two.value.qubits) (nat_abs size)
  pub large : pos (2 ^ 60) ≤ℤ size

-- what a verdict says of two registers
abbrev pub IsVerdict : Merge → RegisterState → RegisterState → Type 0
IsVerdict Fits one two = CanMerge one two
IsVerdict (TooMany qubits) one two = IsTooMany one two qubits
IsVerdict (TooLarge size) one two = IsTooLarge one two size

-- the prepared value has the first's qubits, then the second's, and stands for the product; all else stays
pub record IsMerged (one two new : RegisterState) : Type 0 where
  pub after : new ≡ record one { next = prepared record { qubits = one.value.qubits ++ two.value.qubits; list = (next_value new.next).list } }
  pub same : IsSameState (vector_of (next_value new.next)) (merged one.value two.value)
  pub kept : IsKept (next_value new.next)

-- the products of the entries of two lists, the first's rows in the low bits
abbrev pub products : List Coefficient → List Coefficient → List Coefficient
products vs [] = []
products vs (u ∷ us) = map (λ v. v ⊗ u) vs ++ products vs us

-- the first n rows of the draft are those of the product of the value's list and another; all else stays
pub record IsWritten (n : ℕ) (us : List Coefficient) (old mid : RegisterState) : Type 0 where
  pub after : mid ≡ record old { next = draft record { qubits = (next_value old.next).qubits; list = (next_value mid.next).list } }
  pub rows : length (next_value mid.next).list ≡ length old.value.list * length us
  pub done : (i : ℕ) → i < n → at (next_value mid.next).list i ≡ at (products old.value.list us) i
