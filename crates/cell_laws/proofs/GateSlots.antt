-- A gate on a qubit, at the slot of its home.
--     gate_fits    the register with the gate's list fits after it
--     gate_size    whether the group is too large after it, by the register's size
use Rattle.std.proofs.Common.{◌≡◌, ℕ, ◌^◌, ◌<◌, ◌≤◌, true, List, refl}
use Rattle.state_model.specs.Coefficient.{Coefficient}
use Rattle.state_model.specs.Row.{is_listed}
use Rattle.state_model.specs.StateVector.{IsPart, IsSameState, IsSize, HasSizeAtLeast}
use Rattle.state_model.specs.Registers.{Register, register_vector}
use Rattle.state_model.specs.Amplitudes.{AreDistinct}
use Rattle.state_model.specs.Gate.{matrix, gate}
use Rattle.state_model.specs.declared.Gate.{Gate}
use Rattle.network_model.specs.Network.{Network, Shape, group_of}
use Rattle.network_model.specs.Factored.{FitsSlot}
use Rattle.cell_laws.specs.Standing.{IsStanding}
use Rattle.state_model.proofs.UndoLaws.{gates_inside_make_parts, gates_keep_rows}
use Rattle.cell_laws.proofs.Members.{listed_home, group_members, group_distinct, size_by, part_list, refits}

module _ (shape : Shape) (s : Network) (home : ℕ → ℕ) (q : ℕ) (r : Register) (standing : IsStanding shape s home) (live : is_listed s.live q ≡ true) (fits : FitsSlot shape s home (home q) r) (g : Gate) where
  -- the gate of the register's vector is a part of the gate of the network's
  gate_part : IsPart (gate (matrix g) q s.vector) r.qubits (gate (matrix g) q (register_vector r.qubits r.list))
  gate_part =
      let own = listed_home shape s home q r live fits in
      gates_inside_make_parts g q r.qubits own s.vector (register_vector r.qubits r.list) (fits.part q own)

  pub gate_fits : (list : List Coefficient) → IsSameState (register_vector r.qubits list) (gate (matrix g) q (register_vector r.qubits r.list))
      → FitsSlot shape (record s { vector = gate (matrix g) q s.vector }) home (home q) (record r { list = list })
  gate_fits list same =
      refits shape s home (home q) r (record s { vector = gate (matrix g) q s.vector }) list fits refl refl
      (λ p h. part_list (gate (matrix g) q s.vector) (gate (matrix g) q (register_vector r.qubits r.list)) r.qubits list gate_part same)

  pub gate_size : AreDistinct r.qubits → (n : ℕ) → IsSize (gate (matrix g) q (register_vector r.qubits r.list)) r.qubits n
      → (2 ^ 60 ≤ n → HasSizeAtLeast (gate (matrix g) q s.vector) (group_of s q) (2 ^ 60)) × (n < 2 ^ 60 → ¬ HasSizeAtLeast (gate (matrix g) q s.vector) (group_of s q) (2 ^ 60))
  gate_size apart n size =
      size_by (gate (matrix g) q s.vector) (gate (matrix g) q (register_vector r.qubits r.list)) r.qubits (group_of s q) n (2 ^ 60)
      (gates_keep_rows g q s.vector standing.sound.some_row) gate_part apart (group_distinct shape s standing.sound q) (group_members shape s home q r live fits) size
