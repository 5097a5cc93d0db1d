-- A gate on two qubits, prepared in their slots, is the step of the call: in one register, over two that become one, or refused.
use Rattle.std.proofs.Common.{ℕ, ◌≡◌, ◌≢◌, ◌<◌, ◌≤◌, ◌^◌, ◌+◌, ◌==◌, nat_lt, Bool, true, false, cond, not, ◌&&◌, ◌||◌, List, [], ◌∷◌, ◌++◌, length, Option, Some, None, is_some, is_none, unwrap_or, refl, sym, ap, subst, ◌∙◌}
use Rattle.state_model.specs.Row.{is_listed}
use Rattle.state_model.specs.Amplitudes.{Amplitudes}
use Rattle.state_model.specs.StateVector.{IsSameState, IsSize}
use Rattle.state_model.specs.Registers.{Register, register_vector, product_over}
use Rattle.state_model.specs.Gate.{two_gate}
use Rattle.state_model.specs.declared.Two.{Two}
use Rattle.std.proofs.Math.Bool.{or_comm}
use Rattle.state_model.proofs.Booleans.{eq_true, eq_false, eq_flip}
use Rattle.amplitude_register.specs.States.{no_qubit}
use Rattle.cqc_model.specs.declared.Fault.TheVariants.{General}
use Rattle.network_model.specs.Network.{Network, Shape}
use Rattle.network_model.specs.Kinds.{kind_of, second_of, remote_of, is_gate, is_measurement}
use Rattle.network_model.specs.Step.{IsReply, IsTooLarge, holds_of, own_number, other_number, united_group, refusal, effect, effect_of, after_two, quiet}
use Rattle.network_model.specs.History.{IsLegalEntry, advance, is_error, is_general}
use Rattle.network_model.specs.Factored.{FitsNode, FitsSlot, FitsPool, touches_slot, touches_pool, homes_step, homes_by, operand_in_slot, effect_touches_slot, effect_touches_pool}
use Rattle.network_model.specs.declared.Call.{Call}
use Rattle.network_model.specs.declared.Kind.TheVariants.{Two as TwoGate}
use Rattle.network_model.specs.declared.CoreReply.{CoreReply}
use Rattle.network_model.specs.declared.CoreReply.TheVariants as reply
use Rattle.network_model.proofs.Accepted.{operands_apart}
use Rattle.virtual_node.specs.Node.{Node, held_map, arrived_map}
use Rattle.cell_laws.specs.Standing.{IsStanding}
use Rattle.cell_laws.proofs.TwoSlots.{two_few}
use Rattle.cell_laws.proofs.JoinedSlots.{united_length, both_parts, apart_in}
use Rattle.cell_laws.proofs.StepSlots.{two_step, two_is_small, joined_step, emptied_step, joined_too_large}
use Rattle.core_cells.specs.Pool.{Pool, IsSlotFreed}
use Rattle.core_cells.specs.Cells.{Cells, CellsFit, register_of}
use Rattle.core_cells.specs.declared.cells.PoolPair.{PoolPair}
use Rattle.core_cells.specs.declared.cells.SlotCell.{SlotCell}
use Rattle.factored_core.specs.Changes.{Changes, change_at, IsStepBy, ChangesFit, register_with}
use Rattle.factored_core.specs.Ready.{IsReady}
use Rattle.factored_core.specs.Pairs.{AreSpots}
use Rattle.factored_core.specs.declared.slots.Spot.{Spot}
use Rattle.factored_core.proofs.FreeLists.{less_true}
use Rattle.factored_core.proofs.ChangeLists.{change_one, change_cons, number_cons, number_one}
use Rattle.factored_core.proofs.Operands.{own_fits, operand_is, own_number_is, other_number_is, operand_lives, spot_home, spot_fits}
use Rattle.factored_core.proofs.Legal.{reply_done, reply_too_large, reply_refused, legal_entry, other_draws_none}
use Rattle.factored_core.proofs.Locals.{own_touched}
use Rattle.factored_core.proofs.NodeSteps.{node_kept}
use Rattle.factored_core.proofs.PoolSteps.{pool_united}
use Rattle.factored_core.proofs.GateSteps.{in_slot, said}
use Rattle.factored_core.proofs.RefusalLines.{not_less}

no_some : {A : Type 0} (p : A) → None ≡ Some p → ⊥
no_some p e = cc

-- the own node's value, and two slots'
abbrev pub in_slots : ℕ → Node → Option Pool → ℕ → Amplitudes → ℕ → Amplitudes → Changes
in_slots node own pool t a u b = record { nodes = (node, own) ∷ []; pool = pool; slots = (u, b) ∷ (t, a) ∷ [] }

-- the numbers of two slots
pub number_two : {A : Type 0} (t u : ℕ) (a b : A) (x : ℕ) → is_some (change_at ((u, b) ∷ (t, a) ∷ []) x) ≡ ((t == x) || (u == x))
number_two t u a b x = number_cons u b ((t, a) ∷ []) x ∙ ap (λ c. (x == u) || c) (number_one t a x) ∙ or_comm (x == u) (t == x) ∙ ap (λ c. (t == x) || c) (eq_flip x u)

module _ (shape : Shape) (c : Call) (cs : Cells) (own : Node) (ready : IsReady shape c cs own) (k : Two) (one two : Spot) (at : AreSpots c cs own k one two) where
  abbrev id : ℕ
  id = (at.call).id

  abbrev r1 : Register
  r1 = register_of ((at.first_spot).cell).register

  abbrev r2 : Register
  r2 = register_of ((at.second_spot).cell).register

  module _ (s : Network) (home : ℕ → ℕ) (standing : IsStanding shape s home) (fit : CellsFit shape s home cs) where
    number_p : own_number s c ≡ at.first
    number_p = own_number_is shape c cs own ready s home standing fit at.first (at.call).first_held

    number_q : other_number s c id ≡ at.second
    number_q = other_number_is shape c cs own ready s home standing fit id at.second (at.call).second_held

    lives_p : is_listed s.live (own_number s c) ≡ true
    lives_p = subst (λ (n : ℕ). is_listed s.live n ≡ true) (sym number_p) (operand_lives shape c cs own ready s home standing fit c.command.qubit at.first (at.call).first_held)

    lives_q : is_listed s.live (other_number s c id) ≡ true
    lives_q = subst (λ (n : ℕ). is_listed s.live n ≡ true) (sym number_q) (operand_lives shape c cs own ready s home standing fit id at.second (at.call).second_held)

    at_one : home (own_number s c) ≡ one.slot
    at_one = ap home number_p ∙ spot_home shape c cs own ready s home standing fit at.first one at.first_spot

    at_two : home (other_number s c id) ≡ two.slot
    at_two = ap home number_q ∙ spot_home shape c cs own ready s home standing fit at.second two at.second_spot

    here : FitsSlot shape s home (home (own_number s c)) r1
    here = subst (λ (n : ℕ). FitsSlot shape s home (home n) r1) (sym number_p) (spot_fits shape c cs own ready s home standing fit at.first one at.first_spot)

    there : FitsSlot shape s home (home (other_number s c id)) r2
    there = subst (λ (n : ℕ). FitsSlot shape s home (home n) r2) (sym number_q) (spot_fits shape c cs own ready s home standing fit at.second two at.second_spot)

    pub numbers_apart : at.first ≢ at.second
    numbers_apart e =
        operands_apart shape s c id standing.sound
        (ap is_none (operand_is shape c cs own ready s home standing fit c.command.qubit at.first (at.call).first_held))
        (ap is_none (operand_is shape c cs own ready s home standing fit id at.second (at.call).second_held))
        (eq_false id c.command.qubit (at.call).other)
        (number_p ∙ e ∙ sym number_q)

    operands_differ : own_number s c ≢ other_number s c id
    operands_differ e = numbers_apart (sym number_p ∙ e ∙ number_q)

    -- why the call is refused by a limit, if it is
    refused_by_limit : (b : Bool) → nat_lt shape.limit (length (united_group s (own_number s c) (other_number s c id))) ≡ b → refusal shape s c ≡ cond b (Some General) None
    unfolding second_of
    refused_by_limit b e =
        ready.passed s home standing fit
        ∙ ap (λ k. cond (holds_of (second_of k) (λ id. nat_lt shape.limit (length (united_group s (own_number s c) (other_number s c id))))) (Some General) None) (at.call).kind
        ∙ ap (λ (t : Bool). cond t (Some General) None) e

    legal : (x : CoreReply) → IsReply shape s c 0 x → IsLegalEntry shape s (said c x)
    unfolding is_measurement
    legal x is = legal_entry shape s c None x ready.opened.range (ready.opened.allowed).node (ready.opened.allowed).instr (λ n e. absurd (no_some n e)) (sym (other_draws_none s c (ap is_measurement (at.call).kind))) is

    local : remote_of (kind_of c.command.instr) ≡ None
    unfolding remote_of
    local = ap remote_of (at.call).kind

    own_kept : FitsNode ((effect shape s c 0).state) c.node (held_map own) (arrived_map own)
    own_kept = node_kept shape s c 0 c.node own (own_fits shape c cs own ready s home standing fit) (TwoGate k id) (at.call).kind refl

    reply_is : (effect shape s c 0).reply ≡ reply.Silent
    unfolding effect effect_of after_two quiet
    reply_is = ap (λ k. (effect_of shape s c 0 k).reply) (at.call).kind

    same_labels : (b : Bool) → (home (own_number s c) == home (other_number s c id)) ≡ b → (s.label (own_number s c) == s.label (other_number s c id)) ≡ b
    same_labels b e = sym (standing.housed (own_number s c) (other_number s c id) lives_p lives_q) ∙ e

    -- ---- both in one register
    module _ (same : one.slot ≡ two.slot) where
      same_home : home (own_number s c) ≡ home (other_number s c id)
      same_home = at_one ∙ same ∙ sym at_two

      not_refused : refusal shape s c ≡ None
      not_refused = refused_by_limit false (not_less shape.limit _ (two_few shape s home (own_number s c) (other_number s c id) standing lives_p lives_q operands_differ same_home))

      inside_fits : (a : Amplitudes) → a.qubits ≡ r1.qubits → IsSameState (register_vector r1.qubits a.list) (two_gate k at.first at.second (register_vector r1.qubits r1.list))
          → FitsSlot shape ((effect shape s c 0).state) (homes_by s home c (kind_of c.command.instr)) one.slot (register_with shape.limit a)
      inside_fits a qubits is =
          let fits = two_step shape s home c standing lives_p k id (at.call).kind lives_q operands_differ same_home r1 here 0 a.list
          (subst (λ (n : ℕ). IsSameState (register_vector r1.qubits a.list) (two_gate k n (other_number s c id) (register_vector r1.qubits r1.list))) (sym number_p)
          (subst (λ (n : ℕ). IsSameState (register_vector r1.qubits a.list) (two_gate k at.first n (register_vector r1.qubits r1.list))) (sym number_q) is)) in
          subst (λ (t : ℕ). FitsSlot shape ((effect shape s c 0).state) (homes_by s home c (kind_of c.command.instr)) t (register_with shape.limit a)) at_one
          (subst (λ (qs : List ℕ). FitsSlot shape ((effect shape s c 0).state) (homes_by s home c (kind_of c.command.instr)) (home (own_number s c)) (record { limit = shape.limit; qubits = qs; list = a.list })) (sym qubits)
          (subst (λ (l : ℕ). FitsSlot shape ((effect shape s c 0).state) (homes_by s home c (kind_of c.command.instr)) (home (own_number s c)) (record { limit = l; qubits = r1.qubits; list = a.list })) here.limit fits))

      one_slot : (t : ℕ) → effect_touches_slot s home c t (kind_of c.command.instr) ≡ (one.slot == t)
      unfolding effect_touches_slot operand_in_slot
      one_slot t = ap (effect_touches_slot s home c t) (at.call).kind ∙ ap (λ n. (n == t) || (home (other_number s c id) == t)) at_one ∙ ap (λ n. (one.slot == t) || (n == t)) (at_two ∙ sym same) ∙ twice (one.slot == t)
        where
          twice : (b : Bool) → (b || b) ≡ b
          twice true = refl
          twice false = refl

      inside_changes : (a : Amplitudes) → FitsSlot shape ((effect shape s c 0).state) (homes_by s home c (kind_of c.command.instr)) one.slot (register_with shape.limit a)
          → ChangesFit shape s home (said c reply.Silent) (in_slot c.node own one.slot a)
      unfolding advance is_error homes_step touches_slot touches_pool effect_touches_slot operand_in_slot effect_touches_pool
      inside_changes a fits = record {
        nodes_touched = own_touched shape c own None reply.Silent local;
        pool_touched = ap (effect_touches_pool s c) (at.call).kind ∙ ap not (same_labels true (eq_true _ _ same_home));
        slots_touched = λ t. one_slot t ∙ sym (number_one one.slot a t);
        nodes = change_one (λ m n. FitsNode ((effect shape s c 0).state) m (held_map n) (arrived_map n)) c.node own own_kept;
        pool = λ p e. absurd (no_some p e);
        slots = change_one (λ t b. FitsSlot shape ((effect shape s c 0).state) (homes_by s home c (kind_of c.command.instr)) t (register_with shape.limit b)) one.slot a fits;
      }

      inside_legal : IsLegalEntry shape s (said c reply.Silent)
      inside_legal = legal reply.Silent (reply_done shape s c 0 reply.Silent not_refused (two_is_small shape s home c standing lives_p k id (at.call).kind lives_q operands_differ same_home) (sym reply_is))

    -- ---- in two registers
    module _ (differ : one.slot ≢ two.slot) where
      homes_apart : home (own_number s c) ≢ home (other_number s c id)
      homes_apart e = differ (sym at_one ∙ e ∙ at_two)

      pub registers_apart : (x : ℕ) → is_listed r1.qubits x ≡ true → is_listed r2.qubits x ≡ false
      registers_apart = apart_in shape s home (own_number s c) (other_number s c id) r1 r2 standing lives_p lives_q homes_apart here there

      united : length (united_group s (own_number s c) (other_number s c id)) ≡ length r1.qubits + length r2.qubits
      united = united_length shape s home (own_number s c) (other_number s c id) r1 r2 standing lives_p lives_q homes_apart here there ((at.first_spot).rows).distinct ((at.second_spot).rows).distinct

      large_by : (n : ℕ) → IsSize (product_over (both_parts r1 r2)) (r1.qubits ++ r2.qubits) n → (2 ^ 60 ≤ n → IsTooLarge shape s c) × (n < 2 ^ 60 → ¬ IsTooLarge shape s c)
      large_by n size = joined_too_large shape s home c standing lives_p k id (at.call).kind lives_q r1 r2 homes_apart here there ((at.first_spot).rows).distinct ((at.second_spot).rows).distinct n size

      within_limit : length r1.qubits + length r2.qubits ≤ shape.limit → refusal shape s c ≡ None
      within_limit room = refused_by_limit false (not_less shape.limit _ (subst (λ n. n ≤ shape.limit) (sym united) room))

      beyond_limit : shape.limit < length r1.qubits + length r2.qubits → refusal shape s c ≡ Some General
      beyond_limit above = refused_by_limit true (less_true shape.limit _ (subst (λ n. shape.limit < n) (sym united) above))

      both_slots : (t : ℕ) → operand_in_slot s home c t (kind_of c.command.instr) ≡ ((one.slot == t) || (two.slot == t))
      unfolding operand_in_slot
      both_slots t = ap (operand_in_slot s home c t) (at.call).kind ∙ ap (λ n. (n == t) || (home (other_number s c id) == t)) at_one ∙ ap (λ n. (one.slot == t) || (n == t)) at_two

      -- the gate is refused: both values are prepared again
      refused_changes : (a b : Amplitudes) → a ≡ (((at.first_spot).cell).register).value → b ≡ (((at.second_spot).cell).register).value
          → ChangesFit shape s home (said c (reply.Error General)) (in_slots c.node own None one.slot a two.slot b)
      unfolding advance is_error is_general homes_step touches_slot touches_pool
      refused_changes a b same_a same_b = record {
        nodes_touched = own_touched shape c own None (reply.Error General) local;
        pool_touched = refl;
        slots_touched = λ t. ap (λ (b : Bool). b && operand_in_slot s home c t (kind_of c.command.instr)) gated ∙ both_slots t ∙ sym (number_two one.slot two.slot a b t);
        nodes = change_one (λ m n. FitsNode s m (held_map n) (arrived_map n)) c.node own (own_fits shape c cs own ready s home standing fit);
        pool = λ p e. absurd (no_some p e);
        slots = change_cons (λ t b. FitsSlot shape s home t (register_with shape.limit b)) two.slot b ((one.slot, a) ∷ [])
            (kept two ((at.second_spot).cell) (at.second_spot).there there.limit b same_b)
            (change_one (λ t b. FitsSlot shape s home t (register_with shape.limit b)) one.slot a
            (kept one ((at.first_spot).cell) (at.first_spot).there here.limit a same_a));
      }
        where
          gated : is_gate (kind_of c.command.instr) ≡ true
          gated = unfold is_gate in ap is_gate (at.call).kind

          kept : (spot : Spot) (cell : SlotCell) → cs.slot spot.slot ≡ Some cell → (cell.register).limit ≡ shape.limit → (v : Amplitudes) → v ≡ (cell.register).value → FitsSlot shape s home spot.slot (register_with shape.limit v)
          kept spot cell is l v e =
              subst (λ (b : Amplitudes). FitsSlot shape s home spot.slot (register_with shape.limit b)) (sym e)
              (subst (λ (l : ℕ). FitsSlot shape s home spot.slot (register_with l (cell.register).value)) l (fit.slots spot.slot cell is))

      too_many_legal : shape.limit < length r1.qubits + length r2.qubits → IsLegalEntry shape s (said c (reply.Error General))
      too_many_legal above = legal (reply.Error General) (reply_refused shape s c 0 General (beyond_limit above))

      too_large_legal : length r1.qubits + length r2.qubits ≤ shape.limit → (n : ℕ) → IsSize (product_over (both_parts r1 r2)) (r1.qubits ++ r2.qubits) n → 2 ^ 60 ≤ n → IsLegalEntry shape s (said c (reply.Error General))
      too_large_legal room n size large = legal (reply.Error General) (reply_too_large shape s c 0 (within_limit room) ((large_by n size).0 large))

      -- the gate is made: one register is the product's, and the other has no qubit
      joined_slot : (m a : Amplitudes) → m.qubits ≡ r1.qubits ++ r2.qubits → a.qubits ≡ r1.qubits ++ r2.qubits
          → IsSameState (register_vector (r1.qubits ++ r2.qubits) m.list) (product_over (both_parts r1 r2))
          → IsSameState (register_vector (r1.qubits ++ r2.qubits) a.list) (two_gate k at.first at.second (register_vector (r1.qubits ++ r2.qubits) m.list))
          → FitsSlot shape ((effect shape s c 0).state) (homes_by s home c (kind_of c.command.instr)) one.slot (register_with shape.limit a)
      joined_slot m a qubits_m qubits_a merged is =
          let fits = joined_step shape s home c standing lives_p k id (at.call).kind lives_q r1 r2 homes_apart here there 0 m.list a.list merged
          (subst (λ (n : ℕ). IsSameState (register_vector (r1.qubits ++ r2.qubits) a.list) (two_gate k n (other_number s c id) (register_vector (r1.qubits ++ r2.qubits) m.list))) (sym number_p)
          (subst (λ (n : ℕ). IsSameState (register_vector (r1.qubits ++ r2.qubits) a.list) (two_gate k at.first n (register_vector (r1.qubits ++ r2.qubits) m.list))) (sym number_q) is)) in
          subst (λ (t : ℕ). FitsSlot shape ((effect shape s c 0).state) (homes_by s home c (kind_of c.command.instr)) t (register_with shape.limit a)) at_one
          (subst (λ (qs : List ℕ). FitsSlot shape ((effect shape s c 0).state) (homes_by s home c (kind_of c.command.instr)) (home (own_number s c)) (record { limit = shape.limit; qubits = qs; list = a.list })) (sym qubits_a) fits)

      emptied_slot : FitsSlot shape ((effect shape s c 0).state) (homes_by s home c (kind_of c.command.instr)) two.slot (register_with shape.limit no_qubit)
      emptied_slot =
          subst (λ (t : ℕ). FitsSlot shape ((effect shape s c 0).state) (homes_by s home c (kind_of c.command.instr)) t (register_with shape.limit no_qubit)) at_two
          (emptied_step shape s home c standing lives_p k id (at.call).kind lives_q r1 r2 homes_apart here there 0 (no_qubit).list)

      freed_pool : (w : PoolPair) → cs.pool ≡ Some w → (p : Pool) → IsSlotFreed two.slot w.now p → FitsPool shape ((effect shape s c 0).state) (homes_by s home c (kind_of c.command.instr)) p.numbers p.slots p.pairs
      freed_pool w is p freed =
          let fits = fit.pool w is in
          let at_pool = pool_united shape s home c 0 w.now.numbers w.now.slots w.now.pairs standing.sound standing.housed fits k id (at.call).kind lives_p lives_q
          (same_labels false (eq_false _ _ homes_apart)) (standing.homed (other_number s c id) lives_q) p.slots (λ t. freed.slots t ∙ ap (λ n. is_listed w.now.slots t || (t == n)) (sym at_two)) in
          subst (λ (ns : List ℕ). FitsPool shape ((effect shape s c 0).state) (homes_by s home c (kind_of c.command.instr)) ns p.slots p.pairs) (sym freed.numbers)
          (subst (λ (n : ℕ). FitsPool shape ((effect shape s c 0).state) (homes_by s home c (kind_of c.command.instr)) w.now.numbers p.slots n) (sym freed.pairs) at_pool)

      joined_changes : (p : Pool) (a : Amplitudes) → FitsPool shape ((effect shape s c 0).state) (homes_by s home c (kind_of c.command.instr)) p.numbers p.slots p.pairs
          → FitsSlot shape ((effect shape s c 0).state) (homes_by s home c (kind_of c.command.instr)) one.slot (register_with shape.limit a)
          → ChangesFit shape s home (said c reply.Silent) (in_slots c.node own (Some p) one.slot a two.slot no_qubit)
      unfolding advance is_error homes_step touches_slot touches_pool effect_touches_slot operand_in_slot effect_touches_pool
      joined_changes p a fits_pool fits = record {
        nodes_touched = own_touched shape c own None reply.Silent local;
        pool_touched = ap (effect_touches_pool s c) (at.call).kind ∙ ap not (same_labels false (eq_false _ _ homes_apart));
        slots_touched = λ t. ap (effect_touches_slot s home c t) (at.call).kind ∙ ap (λ n. (n == t) || (home (other_number s c id) == t)) at_one ∙ ap (λ n. (one.slot == t) || (n == t)) at_two ∙ sym (number_two one.slot two.slot a no_qubit t);
        nodes = change_one (λ m n. FitsNode ((effect shape s c 0).state) m (held_map n) (arrived_map n)) c.node own own_kept;
        pool = λ q e. subst (λ (o : Pool). FitsPool shape ((effect shape s c 0).state) (homes_by s home c (kind_of c.command.instr)) o.numbers o.slots o.pairs) (same_pool p q e) fits_pool;
        slots = change_cons (λ t b. FitsSlot shape ((effect shape s c 0).state) (homes_by s home c (kind_of c.command.instr)) t (register_with shape.limit b)) two.slot no_qubit ((one.slot, a) ∷ []) emptied_slot
            (change_one (λ t b. FitsSlot shape ((effect shape s c 0).state) (homes_by s home c (kind_of c.command.instr)) t (register_with shape.limit b)) one.slot a fits);
      }
        where
          same_pool : (p q : Pool) → Some p ≡ Some q → p ≡ q
          same_pool p q e = ap (λ o. unwrap_or o q) e

      joined_legal : length r1.qubits + length r2.qubits ≤ shape.limit → (n : ℕ) → IsSize (product_over (both_parts r1 r2)) (r1.qubits ++ r2.qubits) n → n < 2 ^ 60 → IsLegalEntry shape s (said c reply.Silent)
      joined_legal room n size small = legal reply.Silent (reply_done shape s c 0 reply.Silent (within_limit room) ((large_by n size).1 small) (sym reply_is))

  -- ---- the steps
  pub inside_done : one.slot ≡ two.slot → (a : Amplitudes) → a.qubits ≡ r1.qubits → IsSameState (register_vector r1.qubits a.list) (two_gate k at.first at.second (register_vector r1.qubits r1.list))
      → IsStepBy shape cs (in_slot c.node own one.slot a) (said c reply.Silent)
  inside_done same a qubits is s home standing fit = (inside_legal s home standing fit same, inside_changes s home standing fit same a (inside_fits s home standing fit same a qubits is))

  pub too_many : one.slot ≢ two.slot → shape.limit < length r1.qubits + length r2.qubits → (a b : Amplitudes) → a ≡ (((at.first_spot).cell).register).value → b ≡ (((at.second_spot).cell).register).value
      → IsStepBy shape cs (in_slots c.node own None one.slot a two.slot b) (said c (reply.Error General))
  too_many differ above a b same_a same_b s home standing fit = (too_many_legal s home standing fit differ above, refused_changes s home standing fit differ a b same_a same_b)

  pub too_large : one.slot ≢ two.slot → length r1.qubits + length r2.qubits ≤ shape.limit → (n : ℕ) → IsSize (product_over (both_parts r1 r2)) (r1.qubits ++ r2.qubits) n → 2 ^ 60 ≤ n
      → (a b : Amplitudes) → a ≡ (((at.first_spot).cell).register).value → b ≡ (((at.second_spot).cell).register).value
      → IsStepBy shape cs (in_slots c.node own None one.slot a two.slot b) (said c (reply.Error General))
  too_large differ room n size large a b same_a same_b s home standing fit = (too_large_legal s home standing fit differ room n size large, refused_changes s home standing fit differ a b same_a same_b)

  pub joined_done : one.slot ≢ two.slot → length r1.qubits + length r2.qubits ≤ shape.limit → (n : ℕ) → IsSize (product_over (both_parts r1 r2)) (r1.qubits ++ r2.qubits) n → n < 2 ^ 60
      → (w : PoolPair) → cs.pool ≡ Some w → (p : Pool) → IsSlotFreed two.slot w.now p
      → (m a : Amplitudes) → m.qubits ≡ r1.qubits ++ r2.qubits → a.qubits ≡ r1.qubits ++ r2.qubits
      → IsSameState (register_vector (r1.qubits ++ r2.qubits) m.list) (product_over (both_parts r1 r2))
      → IsSameState (register_vector (r1.qubits ++ r2.qubits) a.list) (two_gate k at.first at.second (register_vector (r1.qubits ++ r2.qubits) m.list))
      → IsStepBy shape cs (in_slots c.node own (Some p) one.slot a two.slot no_qubit) (said c reply.Silent)
  joined_done differ room n size small w is p freed m a qubits_m qubits_a merged gated s home standing fit = (
    joined_legal s home standing fit differ room n size small,
    joined_changes s home standing fit differ p a (freed_pool s home standing fit differ w is p freed) (joined_slot s home standing fit differ m a qubits_m qubits_a merged gated),
  )
