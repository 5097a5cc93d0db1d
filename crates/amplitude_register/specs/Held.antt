-- How a register's fields stand for what contracts see of it.
use Rattle.std.specs.Prelude.{◌≡◌, ℕ, ◌≤◌, ◌^◌, take, length}
use Rattle.state_model.specs.CoefficientList.{total_weight}
use Rattle.state_model.specs.Amplitudes.{Amplitudes, AreDistinct}
use Rattle.omega_ring.specs.Views.{omega_values, weight_value}
use Rattle.amplitude_register.specs.States.{Next, empty, draft, prepared, RegisterState, IsKept}
use Rattle.amplitude_register.specs.declared.block.Block.{Block}
use Rattle.amplitude_register.specs.declared.block.Stage.{Stage}
use Rattle.amplitude_register.specs.declared.block.Stage.TheVariants.{Empty, Open, Weighed, Prepared}
use Rattle.amplitude_register.specs.declared.register.Register.TheInside.{Inside}

-- the numbers and rows in use
abbrev pub amplitudes_of : Block → Amplitudes
amplitudes_of b = record { qubits = take b.count b.qubits; list = omega_values (take b.rows b.entries.items) }

abbrev pub next_of : Stage → Amplitudes → Next
next_of Empty a = empty
next_of Open a = draft a
next_of Weighed a = draft a
next_of Prepared a = prepared a

abbrev pub state_of : Inside → RegisterState
state_of r = record { limit = r.limit; value = amplitudes_of r.value; next = next_of r.stage (amplitudes_of r.next) }

-- the numbers are distinct, and there is room for the rows of the limit
pub record IsBlock (limit : ℕ) (b : Block) : Type 0 where
  pub rows : b.rows ≡ 2 ^ b.count
  pub count : b.count ≤ limit
  pub room : length b.entries.items ≡ 2 ^ limit
  pub numbers : length b.qubits ≡ 12
  pub distinct : AreDistinct (take b.count b.qubits)

-- the weight that is kept is the list's
abbrev pub IsWeighed : Block → Type 0
IsWeighed b = weight_value b.weight ≡ total_weight (omega_values (take b.rows b.entries.items))

-- a weighed draft and a prepared value keep their weight, and a prepared value is reduced, balanced and small
abbrev pub IsStage : Stage → Block → Type 0
IsStage Empty b = Unit {0}
IsStage Open b = Unit {0}
IsStage Weighed b = IsWeighed b
IsStage Prepared b = IsWeighed b × IsKept (amplitudes_of b)

pub record IsRegister (r : Inside) : Type 0 where
  pub some : 1 ≤ r.limit
  pub most : r.limit ≤ 12
  pub value : IsBlock r.limit r.value
  pub next : IsBlock r.limit r.next
  pub weighed : IsWeighed r.value
  pub kept : IsKept (amplitudes_of r.value)
  pub stage : IsStage r.stage r.next
