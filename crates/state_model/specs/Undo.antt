-- Undoing a gate: its adjoint, and how many times the identity both make.
use Rattle.std.specs.Prelude.{ℕ, pos}
use Rattle.state_model.specs.Coefficient.{Coefficient, coefficient, zero_coefficient, ◌⊕◌, ◌⊗◌, conjugate}
use Rattle.state_model.specs.Gate.{Matrix}
use Rattle.state_model.specs.declared.Gate.{Gate}
use Rattle.state_model.specs.declared.Gate.TheVariants.{I, X, Y, Z, T, H, K, RotX, RotY, RotZ}

-- the product of two matrices, of which the second acts first
unfoldable pub product : Matrix → Matrix → Matrix
product m n = record {
  zero_zero = m.zero_zero ⊗ n.zero_zero ⊕ m.zero_one ⊗ n.one_zero;
  zero_one = m.zero_zero ⊗ n.zero_one ⊕ m.zero_one ⊗ n.one_one;
  one_zero = m.one_zero ⊗ n.zero_zero ⊕ m.one_one ⊗ n.one_zero;
  one_one = m.one_zero ⊗ n.zero_one ⊕ m.one_one ⊗ n.one_one;
}

-- the conjugate transpose
unfoldable pub adjoint : Matrix → Matrix
adjoint m = record { zero_zero = conjugate m.zero_zero; zero_one = conjugate m.one_zero; one_zero = conjugate m.zero_one; one_one = conjugate m.one_one }

-- a natural number as a coefficient
unfoldable pub times_one : ℕ → Coefficient
times_one n = coefficient (pos n) (pos 0) (pos 0) (pos 0)

-- n times the identity
unfoldable pub identity_times : ℕ → Matrix
identity_times n = record { zero_zero = times_one n; zero_one = zero_coefficient; one_zero = zero_coefficient; one_one = times_one n }

-- how many times the identity a gate and its adjoint make
unfoldable pub scale_of : Gate → ℕ
scale_of I = 1
scale_of X = 1
scale_of Y = 1
scale_of Z = 1
scale_of T = 1
scale_of H = 2
scale_of K = 2
scale_of (RotX k) = 4
scale_of (RotY k) = 4
scale_of (RotZ k) = 1
