-- Sizes of prepared values.
use Rattle.std.proofs.Common.{◌≡◌, ℕ, ◌<◌, ◌≤◌, ◌^◌, ℤ, pos, ◌≤ℤ◌, ◌<ℤ◌, nat_abs, List, refl, arith}
use Rattle.std.proofs.lemmas.Int.{ints}
use Rattle.state_model.specs.CoefficientList.{total_weight}
use Rattle.state_model.specs.StateVector.{Vector, IsSameState, IsSize, squares_over}
use Rattle.state_model.specs.Amplitudes.{Amplitudes, vector_of, HasRows}
use Rattle.state_model.proofs.RegisterSums.{squares_over-register}
use Rattle.state_model.proofs.Parts.{same_size, same_part}
use Rattle.amplitude_register.specs.States.{IsKept}
use Rattle.amplitude_register.proofs.Fields.{kept_size}

small : (m : ℕ) (n : ℤ) → n ≡ pos m → n <ℤ pos (2 ^ 60) → nat_abs n < 2 ^ 60
small m n e h = omega (arith, ints)

-- a value that a register keeps has a size below 2^60
pub kept_bound : (a : Amplitudes) → HasRows a → IsKept a → (n : ℕ) × IsSize (vector_of a) a.qubits n × (n < 2 ^ 60)
kept_bound a rows kept =
    let n = (total_weight a.list).x in
    (nat_abs n, kept_size a n rows kept refl, small (squares_over a.qubits (vector_of a)) n (squares_over-register a rows) kept.small)

-- vectors that are the same have the same size
pub size_along : (u v : Vector) (g : List ℕ) (n : ℕ) → IsSameState u v → IsSize u g n → IsSize v g n
size_along u v g n same size = record {
  least = same_size u v g n same size.least;
  vector = size.vector;
  part = same_part u v g size.vector same size.part;
  reached = size.reached;
}

pub large_bound : (n : ℤ) → pos (2 ^ 60) ≤ℤ n → 2 ^ 60 ≤ nat_abs n
large_bound n h = omega (arith, ints)
