-- What contracts see of a register.
use Rattle.std.specs.Prelude.{◌≡◌, ℕ, ℤ, pos, nat_abs, ◌^◌, ◌<ℤ◌, ◌≤ℤ◌, List, [], ◌∷◌, length, Bool, cond, slice_set, replicate, Option, Some, None}
use Rattle.state_model.specs.Coefficient.{Coefficient, zero_coefficient, one_coefficient, scaled}
use Rattle.state_model.specs.CoefficientList.{IsScaled, IsNormal, IsLeastSize, HasDeltaDivisors, total_weight}
use Rattle.state_model.specs.StateVector.{IsSameState, IsSize}
use Rattle.state_model.specs.Gate.{Matrix}
use Rattle.state_model.specs.Amplitudes.{Amplitudes, vector_of, HasRows, IsGateList, IsTwoGateList}
use Rattle.state_model.specs.declared.Two.{Two}
use Rattle.amplitude_register.specs.declared.register.Reduce.{Reduce}
use Rattle.amplitude_register.specs.declared.register.Reduce.TheVariants.{Delta, Full}

-- the next value: none, a draft that is being written, or a prepared value
pub data Next : Type 0 where
  empty : Next
  draft : Amplitudes → Next
  prepared : Amplitudes → Next

-- the most qubits that it may have, its value, and the next one
pub record RegisterState : Type 0 where
  pub limit : ℕ
  pub value : Amplitudes
  pub next : Next

-- no qubit, and the one coefficient 1
abbrev pub no_qubit : Amplitudes
no_qubit = record { qubits = []; list = one_coefficient ∷ [] }

-- one qubit in a basis state
abbrev pub basis_state : ℕ → Bool → Amplitudes
basis_state q bit = record { qubits = q ∷ []; list = cond bit zero_coefficient one_coefficient ∷ cond bit one_coefficient zero_coefficient ∷ [] }

-- the sum of the rows in which both bits agree
abbrev pub pair_state : ℕ → ℕ → Amplitudes
pair_state p q = record { qubits = p ∷ q ∷ []; list = one_coefficient ∷ zero_coefficient ∷ zero_coefficient ∷ one_coefficient ∷ [] }

-- zero at each row of the qubits
abbrev pub zeros : List ℕ → Amplitudes
zeros qs = record { qubits = qs; list = replicate (2 ^ length qs) zero_coefficient }

-- a draft is open
abbrev pub IsDraft : Next → Type 0
IsDraft (draft a) = Unit {0}
IsDraft _ = ⊥

-- a value is prepared
abbrev pub IsPrepared : Next → Type 0
IsPrepared (prepared a) = Unit {0}
IsPrepared _ = ⊥

-- a draft is open or a value is prepared
abbrev pub IsPresent : Next → Type 0
IsPresent empty = ⊥
IsPresent _ = Unit {0}

-- the draft or the prepared value
abbrev pub next_value : Next → Amplitudes
next_value empty = no_qubit
next_value (draft a) = a
next_value (prepared a) = a

-- the draft or the prepared value with another list
abbrev pub with_list : Next → List Coefficient → Next
with_list empty list = empty
with_list (draft a) list = draft record { qubits = a.qubits; list = list }
with_list (prepared a) list = prepared record { qubits = a.qubits; list = list }

-- the number of qubits of the prepared value
abbrev pub prepared_qubits : Next → Option ℕ
prepared_qubits (prepared a) = Some (length a.qubits)
prepared_qubits _ = None

-- the value with another coefficient in a row
abbrev pub with_row : Amplitudes → ℕ → Coefficient → Amplitudes
with_row a row z = record { qubits = a.qubits; list = slice_set a.list row z }

-- reduced, balanced and small
pub record IsKept (a : Amplitudes) : Type 0 where
  pub normal : IsNormal a.list
  pub small : (total_weight a.list).x <ℤ pos (2 ^ 60)

-- what holds of each register's next value
abbrev pub IsNextKept : Next → Type 0
IsNextKept empty = Unit {0}
IsNextKept (draft a) = HasRows a
IsNextKept (prepared a) = HasRows a × IsKept a

-- what a gate's matrix makes of the next value, row by row, which has s times the weight of before
pub record IsGateStep (m : Matrix) (place s : ℕ) (old new : RegisterState) : Type 0 where
  pub after : new ≡ record old { next = with_list old.next (next_value new.next).list }
  pub rows : length (next_value new.next).list ≡ length (next_value old.next).list
  pub list : IsGateList m place (next_value old.next).list (next_value new.next).list
  pub weight : total_weight (next_value new.next).list ≡ scaled s (total_weight (next_value old.next).list)

-- what a gate of two qubits makes of the prepared value, row by row, which has the weight of before
pub record IsTwoGateStep (k : Two) (one two : ℕ) (old new : RegisterState) : Type 0 where
  pub after : new ≡ record old { next = prepared record { qubits = (next_value old.next).qubits; list = (next_value new.next).list } }
  pub list : IsTwoGateList k one two (next_value old.next).list (next_value new.next).list
  pub weight : total_weight (next_value new.next).list ≡ total_weight (next_value old.next).list

-- a list that can be reduced by powers of 1 - w has no other common divisors, and one that can be reduced fully is small
abbrev pub CanReduce : Reduce → List Coefficient → Type 0
CanReduce Delta list = HasDeltaDivisors list
CanReduce Full list = (total_weight list).x <ℤ pos (2 ^ 60)

-- the draft, reduced and balanced, is prepared, and stands for the same state
pub record IsSealed (old new : RegisterState) : Type 0 where
  pub after : new ≡ record old { next = prepared record { qubits = (next_value old.next).qubits; list = (next_value new.next).list } }
  pub scaled : IsScaled (next_value new.next).list (next_value old.next).list
  pub same : IsSameState (vector_of (next_value new.next)) (vector_of (next_value old.next))
  pub kept : IsKept (next_value new.next)

-- the draft's least size is 2^60 or more, and draft and prepared value are gone
pub record IsRefused (old new : RegisterState) (size : ℤ) : Type 0 where
  pub after : new ≡ record old { next = empty }
  pub least : IsLeastSize (next_value old.next).list size
  pub size_is : IsSize (vector_of (next_value old.next)) (next_value old.next).qubits (nat_abs size)
  pub large : pos (2 ^ 60) ≤ℤ size

-- a draft of what a gate's matrix makes of the register's value, row by row, with s times its weight, and how it ended
pub record IsGateSealed (m : Matrix) (place s : ℕ) (old : RegisterState) (end : RegisterState → Type 0) : Type 0 where
  pub middle : RegisterState
  pub step : IsGateStep m place s record old { next = draft old.value } middle
  pub ended : end middle
