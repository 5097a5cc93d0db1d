-- The weight of the rows with one bit.
use Prim.Native.Nat.{zero, suc}
use Rattle.std.specs.Prelude.{ℕ, Bool, true, false, cond, List, length}
use Rattle.state_model.specs.Coefficient.{Coefficient, Weight, weight, no_weight, weight_sum}
use Rattle.state_model.specs.CoefficientList.{at}
use Rattle.state_model.specs.Row.{is_set}

-- the weight of a row whose bit at the place has the value, and none at the others
abbrev pub row_weight : ℕ → Bool → List Coefficient → ℕ → Weight
row_weight place true list row = cond (is_set place row) (weight (at list row)) no_weight
row_weight place false list row = cond (is_set place row) no_weight (weight (at list row))

-- the sum of the weights of the first n rows whose bit at the place has the value
abbrev pub bit_weight_to : ℕ → Bool → List Coefficient → ℕ → Weight
bit_weight_to place bit list zero = no_weight
bit_weight_to place bit list (suc n) = weight_sum (bit_weight_to place bit list n) (row_weight place bit list n)

-- the sum of the weights of the rows whose bit at the place has the value
abbrev pub bit_weight : ℕ → Bool → List Coefficient → Weight
bit_weight place bit list = bit_weight_to place bit list (length list)
