-- Gates of two qubits: the operands, and the registers of two slots.
use Rattle.std.specs.Prelude.{ℕ, ◌≡◌, ◌≢◌, Some}
use Rattle.state_model.specs.Amplitudes.{HasRows}
use Rattle.state_model.specs.declared.Two.{Two}
use Rattle.amplitude_register.specs.States.{RegisterState, next_value}
use Rattle.gate_kernels.specs.Twos.{IsTwoApplied}
use Rattle.network_model.specs.Kinds.{kind_of}
use Rattle.network_model.specs.declared.Call.{Call}
use Rattle.network_model.specs.declared.Kind.TheVariants.{Two as TwoGate}
use Rattle.qubit_handles.specs.Handle.{number_of}
use Rattle.register_merge.specs.Merging.{AreApart, CanMerge, IsMerged, IsVerdict}
use Rattle.register_merge.specs.declared.verdicts.Merge.{Merge}
use Rattle.register_merge.specs.declared.verdicts.Merge.TheVariants.{Fits}
use Rattle.virtual_node.specs.Node.{Node}
use Rattle.core_cells.specs.Cells.{Cells}
use Rattle.factored_core.specs.Slots.{IsSpot}
use Rattle.factored_core.specs.declared.slots.Spot.{Spot}

-- the call is this gate on two qubits, which its application holds under two ids
pub record IsTwoCall (c : Call) (own : Node) (gate : Two) (first second : ℕ) : Type 0 where
  pub id : ℕ
  pub kind : kind_of c.command.instr ≡ TwoGate gate id
  pub first_held : number_of own.handles c.app c.command.qubit ≡ Some first
  pub second_held : number_of own.handles c.app id ≡ Some second
  pub other : id ≢ c.command.qubit

-- where the two qubits of the call are
pub record AreSpots (c : Call) (cs : Cells) (own : Node) (gate : Two) (one two : Spot) : Type 0 where
  pub first : ℕ
  pub second : ℕ
  pub call : IsTwoCall c own gate first second
  pub first_spot : IsSpot cs first one
  pub second_spot : IsSpot cs second two

-- the registers have no qubit in common, and equal limits
pub record ArePair (x y : RegisterState) : Type 0 where
  pub apart : AreApart x.value y.value
  pub limits : x.limit ≡ y.limit

-- they can be merged
pub record AreMergeable (x y : RegisterState) : Type 0 where
  pub pair : ArePair x y
  pub fits : CanMerge x y

-- they are too many qubits, or their product is too large
pub record IsTooBig (x y : RegisterState) : Type 0 where
  pub pair : ArePair x y
  pub verdict : Merge
  pub is : IsVerdict verdict x y
  pub refuses : verdict ≢ Fits

-- the product with another register is prepared
pub record IsJoined (other old new : RegisterState) : Type 0 where
  pub merged : IsMerged old other new
  pub rows : HasRows (next_value new.next)

-- a gate's result on two qubits is prepared
pub record IsTwoGated (gate : Two) (p q : ℕ) (old new : RegisterState) : Type 0 where
  pub applied : IsTwoApplied gate p q old new
  pub rows : HasRows (next_value new.next)
