-- Measurements of a held qubit: what is known of it, what is answered, and what becomes of the pool.
use Rattle.std.specs.Prelude.{ℕ, ◌≡◌, ◌^◌, ◌<◌, ◌==◌, Bool, false, ◌&&◌, ◌||◌, [], ◌∷◌, length, Option, None, Some, option_map}
use Rattle.state_model.specs.Row.{is_listed}
use Rattle.state_model.specs.Amplitudes.{vector_of}
use Rattle.state_model.specs.Measurement.{draw}
use Rattle.network_model.specs.Network.{Shape}
use Rattle.network_model.specs.Kinds.{kind_of}
use Rattle.network_model.specs.Step.{measured_reply}
use Rattle.network_model.specs.declared.After.{After}
use Rattle.network_model.specs.declared.After.TheVariants.{TakenOut, Left, Cleared}
use Rattle.network_model.specs.declared.Call.{Call}
use Rattle.network_model.specs.declared.Kind.TheVariants.{Measure}
use Rattle.network_model.specs.declared.Entry.{Entry}
use Rattle.qubit_handles.specs.Handle.{number_of}
use Rattle.virtual_node.specs.Node.{Node}
use Rattle.core_cells.specs.Pool.{Pool}
use Rattle.core_cells.specs.Cells.{Cells}
use Rattle.core_cells.specs.declared.names.CellName.TheVariants as cell
use Rattle.factored_core.specs.Ready.{IsReady}
use Rattle.factored_core.specs.Slots.{IsSpot}
use Rattle.factored_core.specs.declared.prepared.Prepared.{Prepared}
use Rattle.factored_core.specs.declared.measurements.Measured.{Measured}

-- the value that a measured qubit is left with, if it stays
unfoldable pub left_value : After → Bool → Option Bool
left_value TakenOut outcome = None
left_value Left outcome = Some outcome
left_value Cleared outcome = Some false

-- a call takes its measured qubit out
abbrev pub IsTakenBy : Call → Measured → Type 0
IsTakenBy c m = kind_of c.command.instr ≡ Measure TakenOut m.told

-- a call leaves its measured qubit with a value
pub record IsLeftAs (c : Call) (m : Measured) (value : Bool) : Type 0 where
  pub after : After
  pub kind : kind_of c.command.instr ≡ Measure after m.told
  pub left : left_value after m.outcome ≡ Some value

-- the entry of a measurement
abbrev pub measured_entry : Call → Measured → Entry
measured_entry c m = record { call = c; word = Some m.word; reply = measured_reply m.told m.outcome }

-- the step of a measurement, which touches the own node, the qubit's slot, the pool, and another slot or none
abbrev pub measured_step : Call → Measured → Option ℕ → Prepared
measured_step c m other = record { entry = measured_entry c m; touched = Some (cell.Node c.node) ∷ Some (cell.Slot m.spot.slot) ∷ Some cell.Pool ∷ option_map cell.Slot other ∷ [] }

-- a qubit number is at a spot, alone there or not, and a word draws an outcome
pub record IsMeasured (cs : Cells) (m : Measured) : Type 0 where
  pub spot : IsSpot cs m.number m.spot
  pub small : m.word < 2 ^ 64
  pub alone : m.alone ≡ (length (spot.cell).register.value.qubits == 1)
  pub drawn : m.outcome ≡ draw (spot.cell).register.value.qubits (vector_of (spot.cell).register.value) m.number m.word

-- a ready call has a measured qubit under its own id
pub record HasMeasured (shape : Shape) (c : Call) (cs : Cells) (own : Node) (m : Measured) : Type 0 where
  pub ready : IsReady shape c cs own
  pub held : number_of own.handles c.app c.command.qubit ≡ Some m.number
  pub measured : IsMeasured cs m

-- a pool has a measured qubit's number again, and its slot where the qubit was alone
pub record IsGivenBack (m : Measured) (old new : Pool) : Type 0 where
  pub numbers : (q : ℕ) → is_listed new.numbers q ≡ (is_listed old.numbers q || (q == m.number))
  pub slots : (t : ℕ) → is_listed new.slots t ≡ (is_listed old.slots t || m.alone && (t == m.spot.slot))
  pub pairs : new.pairs ≡ old.pairs
