-- The laws of vectors, gates, measurements and parts as statements.
use Rattle.std.specs.Prelude.{ℕ, ◌≡◌, ◌<◌, ◌^◌, Bool, true, false, not, cond, ◌≢◌, ◌≤ℤ◌, List, [], ◌∷◌, length}
use Rattle.state_model.specs.Coefficient.{Coefficient, zero_coefficient, one_coefficient, ◌⊗◌}
use Rattle.state_model.specs.Divisors.{Divides, IsBalanced}
use Rattle.state_model.specs.CoefficientList.{at, IsReduced, IsProportional, total_weight}
use Rattle.state_model.specs.Row.{is_set, is_listed, without}
use Rattle.state_model.specs.StateVector.{Vector, IsSameState, IsPart, IsOver}
use Rattle.state_model.specs.Gate.{Matrix, matrix, gate, two_gate}
use Rattle.state_model.specs.Undo.{product, adjoint, times_one, identity_times, scale_of}
use Rattle.state_model.specs.Measurement.{draw, keep, paired}
use Rattle.state_model.specs.Registers.{register_vector, union_of, product_over, AreParts, AreDisjoint}
use Rattle.state_model.specs.declared.Gate.{Gate}
use Rattle.state_model.specs.declared.Two.{Two}

-- vectors that are the same give the same outcome of each word
abbrev pub OutcomeRespectsSameStates : Type 0
OutcomeRespectsSameStates = (live : List ℕ) (v u : Vector) (q word : ℕ) → ¬ ((x : ℕ) → v x ≡ zero_coefficient) → IsSameState v u → draw live v q word ≡ draw live u q word

-- a part on a group stays one under gates on other qubits
abbrev pub GatesElsewhereKeepParts : Type 0
GatesElsewhereKeepParts = (g : List ℕ) (m : Matrix) (q : ℕ) → is_listed g q ≡ false → (v u : Vector) → IsPart v g u → IsPart (gate m q v) g u

-- a part on a group stays one under measurements of other qubits
abbrev pub MeasurementsElsewhereKeepParts : Type 0
MeasurementsElsewhereKeepParts = (g : List ℕ) (q : ℕ) (b : Bool) → is_listed g q ≡ false → (v u : Vector) → IsPart v g u → IsPart (keep q b v) g u

-- two parts on one group are the same up to scale and phase
abbrev pub PartsAreUnique : Type 0
PartsAreUnique = (g : List ℕ) (v u w : Vector) → ¬ ((x : ℕ) → v x ≡ zero_coefficient) → IsPart v g u → IsPart v g w → IsSameState u w

-- a vector over disjoint groups is the product of its parts on them
abbrev pub VectorsAreProducts : Type 0
VectorsAreProducts = (v : Vector) (us : List (List ℕ × Vector)) → ¬ ((x : ℕ) → v x ≡ zero_coefficient) → IsOver (union_of us) v → AreParts v us → AreDisjoint us → IsSameState v (product_over us)

-- the outcome that a word draws has a row
abbrev pub DrawnOutcomesHaveRows : Type 0
DrawnOutcomesHaveRows = (live : List ℕ) (v : Vector) (q word : ℕ) → word < 2 ^ 64 → IsOver live v → ¬ ((x : ℕ) → v x ≡ zero_coefficient) → ¬ ((x : ℕ) → keep q (draw live v q word) v x ≡ zero_coefficient)

-- a vector over a group is a part of itself on it
abbrev pub VectorsArePartsOfThemselves : Type 0
VectorsArePartsOfThemselves = (g : List ℕ) (v : Vector) → ¬ ((x : ℕ) → v x ≡ zero_coefficient) → IsOver g v → IsPart v g v

-- a gate and its adjoint, in either order, make 1, 2 or 4 times the identity
abbrev pub GatesCanBeUndone : Type 0
GatesCanBeUndone = (g : Gate) → (product (adjoint (matrix g)) (matrix g) ≡ identity_times (scale_of g)) × (product (matrix g) (adjoint (matrix g)) ≡ identity_times (scale_of g))

-- the adjoint after a gate takes each coefficient 1, 2 or 4 times
abbrev pub AdjointsUndoGates : Type 0
AdjointsUndoGates = (g : Gate) (q : ℕ) (v : Vector) (x : ℕ) → gate (adjoint (matrix g)) q (gate (matrix g) q v) x ≡ times_one (scale_of g) ⊗ v x

-- a gate leaves a row where there is one
abbrev pub GatesKeepRows : Type 0
GatesKeepRows = (g : Gate) (q : ℕ) (v : Vector) → ¬ ((x : ℕ) → v x ≡ zero_coefficient) → ¬ ((x : ℕ) → gate (matrix g) q v x ≡ zero_coefficient)

-- a gate on a qubit of a group makes of a part a part
abbrev pub GatesInsideMakeParts : Type 0
GatesInsideMakeParts = (g : Gate) (q : ℕ) (group : List ℕ) → is_listed group q ≡ true → (v u : Vector) → IsPart v group u → IsPart (gate (matrix g) q v) group (gate (matrix g) q u)

-- a gate on two qubits of a group makes of a part a part
abbrev pub TwoGatesInsideMakeParts : Type 0
TwoGatesInsideMakeParts = (k : Two) (p q : ℕ) (group : List ℕ) → p ≢ q → is_listed group p ≡ true → is_listed group q ≡ true → (v u : Vector) → IsPart v group u → IsPart (two_gate k p q v) group (two_gate k p q u)

-- what a measurement keeps of a part is a part of what it keeps, on the group without the qubit
abbrev pub MeasurementsInsideMakeParts : Type 0
MeasurementsInsideMakeParts = (q : ℕ) (b : Bool) (group : List ℕ) → is_listed group q ≡ true → (v u : Vector) → ¬ ((x : ℕ) → keep q b v x ≡ zero_coefficient) → IsPart v group u → IsPart (keep q b v) (without group q) (keep q b u)

-- the product of parts on groups that share no number is a part on all of them
abbrev pub PartsMakeOne : Type 0
PartsMakeOne = (v : Vector) (us : List (List ℕ × Vector)) → AreParts v us → AreDisjoint us → IsPart v (union_of us) (product_over us)

-- a qubit whose bit is certain has a register of one row
abbrev pub CertainQubitsHaveRegisters : Type 0
CertainQubitsHaveRegisters = (q : ℕ) (b : Bool) (v : Vector) → ((x : ℕ) → is_set q x ≡ not b → v x ≡ zero_coefficient) → IsPart v (q ∷ []) (register_vector (q ∷ []) (cond b zero_coefficient one_coefficient ∷ cond b one_coefficient zero_coefficient ∷ []))

-- a new pair has a register of two rows
abbrev pub NewPairsHaveRegisters : Type 0
NewPairsHaveRegisters = (p q : ℕ) (v : Vector) → IsPart (paired p q v) (p ∷ q ∷ []) (register_vector (p ∷ q ∷ []) (one_coefficient ∷ zero_coefficient ∷ zero_coefficient ∷ one_coefficient ∷ []))

-- every whole vector proportional to a reduced one is a whole multiple of it
abbrev pub MultiplesAreWhole : Type 0
MultiplesAreWhole = (vs us : List Coefficient) → IsReduced vs → length us ≡ length vs → IsProportional vs us → (m : Coefficient) × ((j : ℕ) → at us j ≡ m ⊗ at vs j)

-- a reduced vector with a balanced weight has the least sum of squares of all that are proportional to it
abbrev pub BalancedIsLeast : Type 0
BalancedIsLeast = (vs us : List Coefficient) → IsReduced vs → IsBalanced (total_weight vs) → length us ≡ length vs → IsProportional vs us → (j : ℕ) → at us j ≢ zero_coefficient → (total_weight vs).x ≤ℤ (total_weight us).x

-- the products of the entries of two reduced vectors have no common divisor but units
abbrev pub ProductIsReduced : Type 0
ProductIsReduced = (vs us : List Coefficient) → IsReduced vs → IsReduced us → (u : Coefficient) → ((i j : ℕ) → Divides u (at vs i ⊗ at us j)) → Divides u one_coefficient
