-- Measurement: the exact Born rule against a random word, and the vector that stays.
use Rattle.std.specs.Prelude.{ℕ, ◌^◌, Bool, false, cond, List, [], ◌∷◌, filter}
use Rattle.state_model.specs.Coefficient.{zero_coefficient, Weight, weight, no_weight, weight_sum, scaled, is_less}
use Rattle.state_model.specs.Row.{is_set, with_bit, rows_of}
use Rattle.state_model.specs.StateVector.{Vector}

-- the sum of the weights of the listed rows
unfoldable pub weight_of : Vector → List ℕ → Weight
weight_of v [] = no_weight
weight_of v (x ∷ xs) = weight_sum (weight (v x)) (weight_of v xs)

-- the weight of all rows of a vector over the live qubits
unfoldable pub whole_weight : List ℕ → Vector → Weight
whole_weight live v = weight_of v (rows_of live)

-- the weight of the rows in which the bit of qubit q is 1
unfoldable pub one_weight : List ℕ → Vector → ℕ → Weight
one_weight live v q = weight_of v (filter (is_set q) (rows_of live))

-- the outcome of a random word: 1 where word / 2^64 is less than the probability of 1
unfoldable pub draw : List ℕ → Vector → ℕ → ℕ → Bool
draw live v q word = is_less (scaled word (whole_weight live v)) (scaled (2 ^ 64) (one_weight live v q))

-- the rows of v whose bit q has the value, with that bit cleared
unfoldable pub keep : ℕ → Bool → Vector → Vector
keep q b v x = cond (is_set q x) zero_coefficient (v (with_bit q b x))

-- the rows of v with bit q set again
unfoldable pub raised : ℕ → Vector → Vector
raised q v x = cond (is_set q x) (v (with_bit q false x)) zero_coefficient

-- the rows of v, and to each the row in which both new bits are set
unfoldable pub paired : ℕ → ℕ → Vector → Vector
paired p q v x = cond (is_set p x)
    (cond (is_set q x) (v (with_bit p false (with_bit q false x))) zero_coefficient)
    (cond (is_set q x) zero_coefficient (v x))
