-- What a ready call's operands are in a state that the cells fit: live numbers, each in the register at its home.
use Rattle.std.proofs.Common.{ℕ, zero, suc, ◌≡◌, ◌<◌, ◌==◌, nat_lt, cond, true, ◌||◌, List, [], ◌∷◌, length, Some, None, unwrap_or, slice_index_or, refl, sym, ap, subst, ◌∙◌, arith}
use Rattle.state_model.specs.Row.{is_listed}
use Rattle.state_model.proofs.Booleans.{eq_true, or_true}
use Rattle.network_model.specs.Network.{Network, Shape}
use Rattle.network_model.specs.Kinds.{kind_of, second_of}
use Rattle.network_model.specs.Step.{holds_of, united_group, refusal, operand, own_number, other_number}
use Rattle.cqc_model.specs.declared.Fault.TheVariants.{General}
use Rattle.network_model.specs.Factored.{FitsNode, FitsSlot}
use Rattle.network_model.specs.declared.Call.{Call}
use Rattle.network_model.proofs.Held.{held_live}
use Rattle.qubit_handles.specs.Handle.{number_of}
use Rattle.virtual_node.specs.Node.{Node, held_map, arrived_map}
use Rattle.cell_laws.specs.Standing.{IsStanding}
use Rattle.cell_laws.proofs.Members.{at_home}
use Rattle.core_cells.specs.Cells.{Cells, CellsFit, register_of}
use Rattle.factored_core.specs.Ready.{IsReady}
use Rattle.factored_core.specs.Slots.{IsSpot}
use Rattle.factored_core.specs.declared.slots.Spot.{Spot}

-- what stands at a place is listed
pub listed_at : (xs : List ℕ) (k : ℕ) → k < length xs → is_listed xs (slice_index_or xs k 0) ≡ true
unfolding is_listed
listed_at [] k h = absurd (omega arith)
listed_at (x ∷ xs) zero h = ap (λ b. b || is_listed xs x) (eq_true x x refl)
listed_at (x ∷ xs) (suc k) h = ap (λ b. (x == slice_index_or xs k 0) || b) (listed_at xs k (omega arith)) ∙ or_true (x == slice_index_or xs k 0)

module _ (shape : Shape) (c : Call) (cs : Cells) (own : Node) (ready : IsReady shape c cs own) (s : Network) (home : ℕ → ℕ) (standing : IsStanding shape s home) (fit : CellsFit shape s home cs) where
  -- a call without a second qubit isn't refused
  pub none_refuses : second_of (kind_of c.command.instr) ≡ None → refusal shape s c ≡ None
  none_refuses e = ready.passed s home standing fit ∙ ap (λ o. cond (holds_of o (λ id. nat_lt shape.limit (length (united_group s (own_number s c) (other_number s c id))))) (Some General) None) e

  -- the own node
  pub own_fits : FitsNode s c.node (held_map own) (arrived_map own)
  own_fits =
      let h = ready.opened.has in
      subst (λ (n : Node). FitsNode s c.node (held_map n) (arrived_map n)) (sym ready.opened.own_is) (fit.nodes c.node h.own h.own_there)

  pub operand_is : (id q : ℕ) → number_of own.handles c.app id ≡ Some q → operand s c id ≡ Some q
  unfolding operand
  operand_is id q e = sym (own_fits.handles c.app id) ∙ e

  pub operand_lives : (id q : ℕ) → number_of own.handles c.app id ≡ Some q → is_listed s.live q ≡ true
  unfolding operand
  operand_lives id q e = held_live shape s standing.sound c.node c.app id q (operand_is id q e)

  pub own_number_is : (q : ℕ) → number_of own.handles c.app c.command.qubit ≡ Some q → own_number s c ≡ q
  unfolding own_number
  own_number_is q e = ap (λ o. unwrap_or o 0) (operand_is c.command.qubit q e)

  pub other_number_is : (id q : ℕ) → number_of own.handles c.app id ≡ Some q → other_number s c id ≡ q
  unfolding other_number
  other_number_is id q e = ap (λ o. unwrap_or o 0) (operand_is id q e)

  -- a spot is at the qubit's home, and the register there fits
  pub spot_listed : (q : ℕ) (spot : Spot) (at : IsSpot cs q spot) → is_listed (register_of (at.cell).register).qubits q ≡ true
  spot_listed q spot at = subst (λ (n : ℕ). is_listed (register_of (at.cell).register).qubits n ≡ true) at.number (listed_at (register_of (at.cell).register).qubits spot.place at.within)

  pub spot_home : (q : ℕ) (spot : Spot) → IsSpot cs q spot → home q ≡ spot.slot
  spot_home q spot at = (at_home shape s home spot.slot q (register_of (at.cell).register) (fit.slots spot.slot at.cell at.there) (spot_listed q spot at)).1

  pub spot_fits : (q : ℕ) (spot : Spot) (at : IsSpot cs q spot) → FitsSlot shape s home (home q) (register_of (at.cell).register)
  spot_fits q spot at = subst (λ (t : ℕ). FitsSlot shape s home t (register_of (at.cell).register)) (sym (spot_home q spot at)) (fit.slots spot.slot at.cell at.there)
