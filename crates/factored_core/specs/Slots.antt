-- Where qubits are on a board, and what is prepared in slots.
use Rattle.std.specs.Prelude.{ℕ, ℤ, ◌≡◌, ◌<◌, ◌≤◌, ◌∷◌, length, Some}
use Rattle.state_model.specs.Amplitudes.{Amplitudes, vector_of, qubit_at, HasRows}
use Rattle.state_model.specs.Measurement.{one_weight, whole_weight}
use Rattle.omega_ring.specs.Views.{weight_value}
use Rattle.register_split.specs.declared.sums.Split.{Split}
use Rattle.amplitude_register.specs.States.{RegisterState, prepared, next_value}
use Rattle.gate_kernels.specs.Gates.{IsApplied, IsTooLarge}
use Rattle.state_model.specs.declared.Gate.{Gate}
use Rattle.core_cells.specs.Cells.{Cells}
use Rattle.core_cells.specs.declared.cells.SlotCell.{SlotCell}
use Rattle.factored_core.specs.Changes.{Changes, changed, change_at, with_next_slot}
use Rattle.factored_core.specs.declared.slots.Spot.{Spot}

-- a qubit number is in a slot's register at a place
pub record IsSpot (cs : Cells) (q : ℕ) (spot : Spot) : Type 0 where
  pub cell : SlotCell
  pub there : cs.slot spot.slot ≡ Some cell
  pub within : spot.place < length cell.register.value.qubits
  pub number : qubit_at cell.register.value spot.place ≡ q
  pub rows : HasRows cell.register.value
  pub few : length cell.register.value.qubits ≤ 12

-- whatever was prepared before, a slot's next value is prepared besides, and it is in this relation to what was there
abbrev pub HasPrepared : Cells → Cells → ℕ → (RegisterState → RegisterState → Type 0) → Type 0
HasPrepared old new t R = (cs : Cells) (ch : Changes) → old ≡ changed cs ch → (w : SlotCell) → cs.slot t ≡ Some w
    → (a : Amplitudes) × ((new ≡ changed cs (record ch { slots = (t, a) ∷ ch.slots })) × R (with_next_slot (change_at ch.slots t) w).register (with_next_slot (Some a) w).register)

-- the next value is the value
abbrev pub IsSame : RegisterState → RegisterState → Type 0
IsSame old new = new ≡ record old { next = prepared old.value }

-- the next value is this one
abbrev pub IsPreparedAs : Amplitudes → RegisterState → RegisterState → Type 0
IsPreparedAs a old new = new ≡ record old { next = prepared a }

-- the gate's result is prepared
pub record IsGated (g : Gate) (place : ℕ) (old new : RegisterState) : Type 0 where
  pub applied : IsApplied g place old new
  pub rows : HasRows (next_value new.next)

-- the next value is the value, since the gate's result would be too large
pub record IsKeptFrom (g : Gate) (place : ℕ) (old new : RegisterState) : Type 0 where
  pub same : IsSame old new
  pub refused : RegisterState
  pub size : ℤ
  pub large : IsTooLarge g place old refused size

-- the weights of the rows in which the qubit at a place is 1, and of all rows
pub record IsSplit (place : ℕ) (a : Amplitudes) (split : Split) : Type 0 where
  pub one : weight_value split.one ≡ one_weight a.qubits (vector_of a) (qubit_at a place)
  pub whole : weight_value split.whole ≡ whole_weight a.qubits (vector_of a)
