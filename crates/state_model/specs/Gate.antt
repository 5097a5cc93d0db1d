-- The gates: matrices over the coefficients, up to scale and phase, and what they make of a vector.
use Rattle.std.specs.Prelude.{ℕ, Bool, true, false, cond}
use Rattle.state_model.specs.Coefficient.{Coefficient, zero_coefficient, one_coefficient, ◌⊕◌, ◌⊗◌, negated, root}
use Rattle.state_model.specs.Row.{is_set, with_bit, turned}
use Rattle.state_model.specs.StateVector.{Vector}
use Rattle.state_model.specs.declared.Gate.{Gate}
use Rattle.state_model.specs.declared.Gate.TheVariants.{I, X, Y, Z, T, H, K, RotX, RotY, RotZ}
use Rattle.state_model.specs.declared.Two.{Two}
use Rattle.state_model.specs.declared.Two.TheVariants.{Cnot, Cphase}

-- the two new coefficients of bit 0, then those of bit 1
pub record Matrix : Type 0 where
  pub zero_zero : Coefficient
  pub zero_one : Coefficient
  pub one_zero : Coefficient
  pub one_one : Coefficient

abbrev rows : Coefficient → Coefficient → Coefficient → Coefficient → Matrix
rows a b c d = record { zero_zero = a; zero_one = b; one_zero = c; one_one = d }

-- the imaginary unit, w²
unfoldable pub imaginary : Coefficient
imaginary = root 2

-- the matrix of each gate; the rotations turn by eighths
unfoldable pub matrix : Gate → Matrix
matrix I = rows one_coefficient zero_coefficient zero_coefficient one_coefficient
matrix X = rows zero_coefficient one_coefficient one_coefficient zero_coefficient
matrix Y = rows zero_coefficient (negated imaginary) imaginary zero_coefficient
matrix Z = rows one_coefficient zero_coefficient zero_coefficient (negated one_coefficient)
matrix T = rows one_coefficient zero_coefficient zero_coefficient (root 1)
matrix H = rows one_coefficient one_coefficient one_coefficient (negated one_coefficient)
matrix K = rows one_coefficient (negated imaginary) imaginary (negated one_coefficient)
matrix (RotX k) = rows (one_coefficient ⊕ root k) (one_coefficient ⊕ negated (root k)) (one_coefficient ⊕ negated (root k)) (one_coefficient ⊕ root k)
matrix (RotY k) = rows (one_coefficient ⊕ root k) (negated imaginary ⊗ (one_coefficient ⊕ negated (root k))) (imaginary ⊗ (one_coefficient ⊕ negated (root k))) (one_coefficient ⊕ root k)
matrix (RotZ k) = rows one_coefficient zero_coefficient zero_coefficient (root k)

-- the coefficient that the matrix gives to a bit, from those of bit 0 and bit 1
unfoldable pub entry : Matrix → Bool → Coefficient → Coefficient → Coefficient
entry m false at_zero at_one = m.zero_zero ⊗ at_zero ⊕ m.zero_one ⊗ at_one
entry m true at_zero at_one = m.one_zero ⊗ at_zero ⊕ m.one_one ⊗ at_one

-- the vector after a gate on qubit q
unfoldable pub gate : Matrix → ℕ → Vector → Vector
gate m q v x = entry m (is_set q x) (v (with_bit q false x)) (v (with_bit q true x))

-- exchanges the target's bit in the rows whose control bit is 1
unfoldable pub controlled_not : ℕ → ℕ → Vector → Vector
controlled_not control target v x = v (cond (is_set control x) (turned target x) x)

-- negates the rows in which both bits are 1
unfoldable pub controlled_phase : ℕ → ℕ → Vector → Vector
controlled_phase p q v x = cond (is_set p x) (cond (is_set q x) (negated (v x)) (v x)) (v x)

-- the vector after a gate of two qubits
unfoldable pub two_gate : Two → ℕ → ℕ → Vector → Vector
two_gate Cnot p q v = controlled_not p q v
two_gate Cphase p q v = controlled_phase p q v
