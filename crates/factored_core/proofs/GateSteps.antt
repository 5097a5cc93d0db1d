-- A gate on one qubit, prepared in its slot, is the step of the call: it is made, or refused as too large.
use Rattle.std.proofs.Common.{ℕ, ◌≡◌, ◌<◌, ◌≤◌, ◌^◌, ◌==◌, true, false, ◌&&◌, List, [], ◌∷◌, Some, None, refl, sym, ap, subst, ◌∙◌}
use Rattle.state_model.specs.Row.{is_listed}
use Rattle.state_model.specs.Amplitudes.{Amplitudes}
use Rattle.state_model.specs.StateVector.{IsSameState, IsSize}
use Rattle.state_model.specs.Registers.{Register, register_vector}
use Rattle.state_model.specs.Gate.{gate, matrix}
use Rattle.state_model.specs.declared.Gate.{Gate}
use Rattle.cqc_model.specs.declared.Fault.TheVariants.{General}
use Rattle.network_model.specs.Network.{Network, Shape}
use Rattle.network_model.specs.Kinds.{kind_of, second_of, remote_of, is_gate, is_making, is_measurement}
use Rattle.network_model.specs.Step.{IsReply, IsTooLarge, own_number, refusal, effect, effect_of, after_gate, quiet, draws}
use Rattle.network_model.specs.History.{IsLegalEntry, advance, is_error, is_general}
use Rattle.network_model.specs.Factored.{FitsNode, FitsSlot, touches_slot, touches_pool, homes_step, homes_by, operand_in_slot, effect_touches_slot, effect_touches_pool}
use Rattle.network_model.specs.declared.Call.{Call}
use Rattle.network_model.specs.declared.Kind.TheVariants.{Gate as OneGate}
use Rattle.network_model.specs.declared.Entry.{Entry}
use Rattle.network_model.specs.declared.CoreReply.{CoreReply}
use Rattle.network_model.specs.declared.CoreReply.TheVariants as reply
use Rattle.qubit_handles.specs.Handle.{number_of}
use Rattle.virtual_node.specs.Node.{Node, held_map, arrived_map}
use Rattle.cell_laws.specs.Standing.{IsStanding}
use Rattle.cell_laws.proofs.StepSlots.{gate_step, gate_too_large}
use Rattle.core_cells.specs.Cells.{Cells, CellsFit, register_of}
use Rattle.factored_core.specs.Changes.{Changes, IsStepBy, ChangesFit, register_with}
use Rattle.factored_core.specs.Ready.{IsReady}
use Rattle.factored_core.specs.Slots.{IsSpot}
use Rattle.factored_core.specs.declared.slots.Spot.{Spot}
use Rattle.factored_core.proofs.ChangeLists.{change_one, number_one}
use Rattle.factored_core.proofs.Operands.{none_refuses, own_fits, own_number_is, operand_lives, spot_home, spot_fits}
use Rattle.factored_core.proofs.Legal.{reply_done, reply_too_large, legal_entry, other_draws_none}
use Rattle.factored_core.proofs.NodeSteps.{node_kept}
use Rattle.factored_core.proofs.Locals.{own_touched}

-- the own node's value and one slot's
abbrev pub in_slot : ℕ → Node → ℕ → Amplitudes → Changes
in_slot node own t a = record { nodes = (node, own) ∷ []; pool = None; slots = (t, a) ∷ [] }

-- a reply without a word
abbrev pub said : Call → CoreReply → Entry
said c r = record { call = c; word = None; reply = r }

module _ (shape : Shape) (c : Call) (cs : Cells) (own : Node) (ready : IsReady shape c cs own) (q : ℕ) (held : number_of own.handles c.app c.command.qubit ≡ Some q)
    (spot : Spot) (at : IsSpot cs q spot) (g : Gate) (is : kind_of c.command.instr ≡ OneGate g) where
  abbrev r : Register
  r = register_of (at.cell).register

  module _ (s : Network) (home : ℕ → ℕ) (standing : IsStanding shape s home) (fit : CellsFit shape s home cs) where
    number : own_number s c ≡ q
    number = own_number_is shape c cs own ready s home standing fit q held

    lives : is_listed s.live (own_number s c) ≡ true
    lives = subst (λ (n : ℕ). is_listed s.live n ≡ true) (sym number) (operand_lives shape c cs own ready s home standing fit c.command.qubit q held)

    at_slot : home (own_number s c) ≡ spot.slot
    at_slot = ap home number ∙ spot_home shape c cs own ready s home standing fit q spot at

    here : FitsSlot shape s home (home (own_number s c)) r
    here = subst (λ (n : ℕ). FitsSlot shape s home (home n) r) (sym number) (spot_fits shape c cs own ready s home standing fit q spot at)

    not_refused : refusal shape s c ≡ None
    unfolding second_of
    not_refused = none_refuses shape c cs own ready s home standing fit (ap second_of is)

    no_draw : draws s c ≡ false
    unfolding is_measurement
    no_draw = other_draws_none s c (ap is_measurement is)

    legal : (x : CoreReply) → IsReply shape s c 0 x → IsLegalEntry shape s (said c x)
    legal x is = legal_entry shape s c None x ready.opened.range (ready.opened.allowed).node (ready.opened.allowed).instr (λ n e. absurd (never n e)) (sym no_draw) is
      where
        never : (n : ℕ) → None ≡ Some n → ⊥
        never n e = cc

    -- the own node and the slot are touched, and nothing else
    local : remote_of (kind_of c.command.instr) ≡ None
    unfolding remote_of
    local = ap remote_of is

    -- ---- the gate is made
    made : (a : Amplitudes) → FitsSlot shape ((effect shape s c 0).state) (homes_by s home c (kind_of c.command.instr)) spot.slot (register_with shape.limit a) → ChangesFit shape s home (said c reply.Silent) (in_slot c.node own spot.slot a)
    unfolding advance is_error homes_step touches_slot touches_pool effect_touches_slot operand_in_slot effect_touches_pool is_making is_measurement
    made a fits = record {
      nodes_touched = own_touched shape c own None reply.Silent local;
      pool_touched = ap (effect_touches_pool s c) is;
      slots_touched = λ t. ap (effect_touches_slot s home c t) is ∙ ap (λ n. n == t) at_slot ∙ sym (number_one spot.slot a t);
      nodes = change_one (λ m n. FitsNode ((effect shape s c 0).state) m (held_map n) (arrived_map n)) c.node own
          (node_kept shape s c 0 c.node own (own_fits shape c cs own ready s home standing fit) (OneGate g) is refl);
      pool = λ p e. absurd (no_some p e);
      slots = change_one (λ t b. FitsSlot shape ((effect shape s c 0).state) (homes_step s home (said c reply.Silent)) t (register_with shape.limit b)) spot.slot a fits;
    }
      where
        no_some : {A : Type 0} (p : A) → None ≡ Some p → ⊥
        no_some p e = cc

    -- the slot's register after the gate, as it is prepared
    prepared_fits : (a : Amplitudes) → a.qubits ≡ r.qubits → IsSameState (register_vector r.qubits a.list) (gate (matrix g) q (register_vector r.qubits r.list))
        → FitsSlot shape ((effect shape s c 0).state) (homes_by s home c (kind_of c.command.instr)) spot.slot (register_with shape.limit a)
    prepared_fits a qubits same =
        let fits = gate_step shape s home c standing lives r here g is 0 a.list (subst (λ (n : ℕ). IsSameState (register_vector r.qubits a.list) (gate (matrix g) n (register_vector r.qubits r.list))) (sym number) same) in
        subst (λ (t : ℕ). FitsSlot shape ((effect shape s c 0).state) (homes_by s home c (kind_of c.command.instr)) t (register_with shape.limit a)) at_slot
        (subst (λ (qs : List ℕ). FitsSlot shape ((effect shape s c 0).state) (homes_by s home c (kind_of c.command.instr)) (home (own_number s c)) (record { limit = shape.limit; qubits = qs; list = a.list })) (sym qubits)
        (subst (λ (l : ℕ). FitsSlot shape ((effect shape s c 0).state) (homes_by s home c (kind_of c.command.instr)) (home (own_number s c)) (record { limit = l; qubits = r.qubits; list = a.list })) here.limit fits))

    large_by : (n : ℕ) → IsSize (gate (matrix g) q (register_vector r.qubits r.list)) r.qubits n → (2 ^ 60 ≤ n → IsTooLarge shape s c) × (n < 2 ^ 60 → ¬ IsTooLarge shape s c)
    large_by n size = gate_too_large shape s home c standing lives r here g is (at.rows).distinct n (subst (λ (k : ℕ). IsSize (gate (matrix g) k (register_vector r.qubits r.list)) r.qubits n) (sym number) size)

    reply_is : (effect shape s c 0).reply ≡ reply.Silent
    unfolding effect effect_of after_gate quiet
    reply_is = ap (λ k. (effect_of shape s c 0 k).reply) is

    -- ---- the gate's result is too large: nothing changes
    refused : (a : Amplitudes) → a ≡ ((at.cell).register).value → ChangesFit shape s home (said c (reply.Error General)) (in_slot c.node own spot.slot a)
    unfolding advance is_error homes_step touches_slot touches_pool is_general is_gate operand_in_slot
    refused a same = record {
      nodes_touched = own_touched shape c own None (reply.Error General) local;
      pool_touched = refl;
      slots_touched = λ t. ap (λ k. is_gate k && operand_in_slot s home c t k) is ∙ ap (λ n. n == t) at_slot ∙ sym (number_one spot.slot a t);
      nodes = change_one (λ m n. FitsNode s m (held_map n) (arrived_map n)) c.node own (own_fits shape c cs own ready s home standing fit);
      pool = λ p e. absurd (no_some p e);
      slots = change_one (λ t b. FitsSlot shape s home t (register_with shape.limit b)) spot.slot a
          (subst (λ (b : Amplitudes). FitsSlot shape s home spot.slot (register_with shape.limit b)) (sym same)
          (subst (λ (l : ℕ). FitsSlot shape s home spot.slot (register_with l ((at.cell).register).value)) here.limit (fit.slots spot.slot at.cell at.there)));
    }
      where
        no_some : {A : Type 0} (p : A) → None ≡ Some p → ⊥
        no_some p e = cc

  -- the gate is made
  pub gate_done : (a : Amplitudes) → a.qubits ≡ r.qubits → IsSameState (register_vector r.qubits a.list) (gate (matrix g) q (register_vector r.qubits r.list))
      → (n : ℕ) → IsSize (gate (matrix g) q (register_vector r.qubits r.list)) r.qubits n → n < 2 ^ 60 → IsStepBy shape cs (in_slot c.node own spot.slot a) (said c reply.Silent)
  gate_done a qubits same n size small s home standing fit = (
    legal s home standing fit reply.Silent (reply_done shape s c 0 reply.Silent (not_refused s home standing fit) ((large_by s home standing fit n size).1 small) (sym (reply_is s home standing fit))),
    made s home standing fit a (prepared_fits s home standing fit a qubits same),
  )

  -- it is refused, and the slot's value is prepared again
  pub gate_refused : (a : Amplitudes) → a ≡ ((at.cell).register).value → (n : ℕ) → IsSize (gate (matrix g) q (register_vector r.qubits r.list)) r.qubits n → 2 ^ 60 ≤ n
      → IsStepBy shape cs (in_slot c.node own spot.slot a) (said c (reply.Error General))
  gate_refused a same n size large s home standing fit = (
    legal s home standing fit (reply.Error General) (reply_too_large shape s c 0 (not_refused s home standing fit) ((large_by s home standing fit n size).0 large)),
    refused s home standing fit a same,
  )
