-- A measurement of a held qubit, in each state that the cells fit: the entry is legal, and node, pool and slots fit afterwards.
--     stay_qubits, stay_same                         what stays of a register
--     outcome_has_row, slot_is_left                  there is a row to keep, and a slot to move to
--     step_by                                        the step, by what becomes of the cells
--     taken_changes, alone_changes, moved_changes    the steps by what becomes of the qubit
use Rattle.std.proofs.Common.{◌≡◌, ℕ, ◌^◌, ◌<◌, ◌*◌, ◌==◌, Bool, true, false, not, cond, ◌&&◌, ◌||◌, List, [], ◌∷◌, length, Option, Some, None, is_some, unwrap_or, refl, sym, ap, subst, ◌∙◌}
use Rattle.state_model.specs.Coefficient.{zero_coefficient}
use Rattle.state_model.specs.Row.{is_listed, without}
use Rattle.state_model.specs.Amplitudes.{Amplitudes, AreDistinct, vector_of, qubit_at}
use Rattle.state_model.specs.StateVector.{IsSameState}
use Rattle.state_model.specs.Measurement.{draw, keep}
use Rattle.state_model.specs.Registers.{Register, register_vector}
use Rattle.std.proofs.Math.Bool.{or_comm}
use Rattle.state_model.proofs.Booleans.{clash, eq_of, ne_of, eq_flip, or_false}
use Rattle.state_model.proofs.SameStates.{same_reflexive}
use Rattle.amplitude_register.specs.States.{RegisterState, prepared, empty, next_value, basis_state}
use Rattle.register_split.specs.Removal.{IsTakenOut, HasRowWith}
use Rattle.network_model.specs.Network.{Network, Shape, group_of}
use Rattle.network_model.specs.Kinds.{kind_of, second_of, remote_of, is_gate, is_making, is_measurement}
use Rattle.network_model.specs.Step.{effect, effect_of, measured_reply, operand, own_number, outcome_of, holds_of, least_free}
use Rattle.network_model.specs.History.{IsLegalEntry, is_error, advance}
use Rattle.network_model.specs.Factored.{FitsNode, FitsSlot, FitsPool, homes_by, homes_step, used_slots, touches_slot, touches_pool, operand_in_slot, parted_in_slot, effect_touches_slot, effect_touches_pool}
use Rattle.network_model.specs.declared.After.{After}
use Rattle.network_model.specs.declared.After.TheVariants.{TakenOut, Left, Cleared}
use Rattle.network_model.specs.declared.Call.{Call}
use Rattle.network_model.specs.declared.CoreReply.TheVariants.{Outcome, Silent}
use Rattle.network_model.specs.declared.Kind.TheVariants.{Measure}
use Rattle.virtual_node.specs.Node.{Node, held_map, arrived_map, without_held}
use Rattle.cell_laws.specs.Standing.{IsStanding}
use Rattle.cell_laws.proofs.Members.{group_length}
use Rattle.cell_laws.proofs.MeasuredSlots.{basis_list}
use Rattle.cell_laws.proofs.StepSlots.{Leaves, left_leaves, cleared_leaves, FitsAfter, outcome_is, kept_has_row, taken_step, left_step, moved_step, alone_step}
use Rattle.core_cells.specs.Marks.{IsLeastListed}
use Rattle.core_cells.specs.Pool.{Pool, IsSlotTaken}
use Rattle.core_cells.specs.Cells.{Cells, CellsFit, register_of}
use Rattle.core_cells.specs.declared.cells.PoolPair.{PoolPair}
use Rattle.factored_core.specs.Changes.{change_at, ChangesFit, register_with}
use Rattle.factored_core.specs.Measurements.{left_value, measured_entry, HasMeasured, IsGivenBack}
use Rattle.factored_core.specs.declared.measurements.Measured.{Measured}
use Rattle.factored_core.proofs.ChangeLists.{change_one, change_cons, number_cons, number_one}
use Rattle.factored_core.proofs.Legal.{no_gate_is_small, measurement_draws, reply_done, legal_entry, advance_done}
use Rattle.factored_core.proofs.Locals.{own_touched}
use Rattle.factored_core.proofs.NodeSteps.{keeps_nodes, node_removed, node_kept, FitsAfter as NodeFitsAfter}
use Rattle.factored_core.proofs.Operands.{none_refuses, own_fits, operand_is, operand_lives, own_number_is, spot_home, spot_fits}
use Rattle.factored_core.proofs.PoolSteps.{pool_removed_alone, pool_removed_beside, pool_refreshed_alone, pool_refreshed_beside, least_free_slot_is, slot_left_beside}

some_same : {A : Type 0} (a b : A) → Some a ≡ Some b → a ≡ b
some_same a b e = ap (λ o. unwrap_or o b) e

-- the numbers of one value, and of two
pub named_one : {A : Type 0} (k t : ℕ) (x : A) → ((k == t) || false) ≡ is_some (change_at ((k, x) ∷ []) t)
named_one k t x = or_false (k == t) ∙ sym (number_one k x t)

pub named_two : {A : Type 0} (k j t : ℕ) (x y : A) → ((k == t) || (j == t)) ≡ is_some (change_at ((j, y) ∷ (k, x) ∷ []) t)
named_two k j t x y = or_comm (k == t) (j == t) ∙ ap (λ b. b || (k == t)) (eq_flip j t) ∙ ap (λ b. (t == j) || b) (sym (number_one k x t)) ∙ sym (number_cons j y ((k, x) ∷ []) t)

-- ---- what stays of a register
module _ (place : ℕ) (b : Bool) (x : RegisterState) (a : Amplitudes) (q : ℕ) (out : IsTakenOut place b x (record x { next = prepared a })) (is : qubit_at x.value place ≡ q) where
  pub stay_qubits : a.qubits ≡ without x.value.qubits q
  stay_qubits = ap (λ (r : RegisterState). (next_value r.next).qubits) out.after ∙ ap (without x.value.qubits) is

  pub stay_same : IsSameState (register_vector (without x.value.qubits q) a.list) (keep q b (vector_of x.value))
  stay_same =
      subst (λ (n : ℕ). IsSameState (register_vector (without x.value.qubits q) a.list) (keep n b (vector_of x.value))) is
      (subst (λ (qs : List ℕ). IsSameState (register_vector qs a.list) (keep (qubit_at x.value place) b (vector_of x.value))) stay_qubits out.same)

-- ---- a measurement in a state that the cells fit
module _ (shape : Shape) (c : Call) (cs : Cells) (own : Node) (m : Measured) (has : HasMeasured shape c cs own m) (after : After) (is : kind_of c.command.instr ≡ Measure after m.told)
    (s : Network) (home : ℕ → ℕ) (standing : IsStanding shape s home) (fit : CellsFit shape s home cs) where
  abbrev r : Register
  r = register_of ((has.measured).spot.cell).register

  number_is : own_number s c ≡ m.number
  number_is = own_number_is shape c cs own has.ready s home standing fit m.number has.held

  pub live : is_listed s.live (own_number s c) ≡ true
  live = subst (λ (n : ℕ). is_listed s.live n ≡ true) (sym number_is) (operand_lives shape c cs own has.ready s home standing fit c.command.qubit m.number has.held)

  home_is : home (own_number s c) ≡ m.spot.slot
  home_is = ap home number_is ∙ spot_home shape c cs own has.ready s home standing fit m.number m.spot (has.measured).spot

  -- the slot is one of the network
  pub spot_within : m.spot.slot < length shape.places * shape.room
  spot_within = subst (λ (t : ℕ). t < length shape.places * shape.room) home_is (standing.homed (own_number s c) live)

  fits : FitsSlot shape s home (home (own_number s c)) r
  fits = subst (λ (n : ℕ). FitsSlot shape s home (home n) r) (sym number_is) (spot_fits shape c cs own has.ready s home standing fit m.number m.spot (has.measured).spot)

  apart : AreDistinct r.qubits
  apart = ((has.measured).spot.rows).distinct

  drawn : m.outcome ≡ draw r.qubits (register_vector r.qubits r.list) (own_number s c) m.word
  drawn = (has.measured).drawn ∙ ap (λ (n : ℕ). draw r.qubits (register_vector r.qubits r.list) n m.word) (sym number_is)

  outcome : outcome_of s c m.word ≡ m.outcome
  outcome = outcome_is shape s home c standing live r fits apart m.word (has.measured).small m.outcome drawn

  pub alone_is : (length (group_of s (own_number s c)) == 1) ≡ m.alone
  alone_is = ap (λ (n : ℕ). n == 1) (sym (group_length shape s home (own_number s c) r standing.sound live fits apart)) ∙ sym (has.measured).alone

  no_error : is_error (measured_reply m.told m.outcome) ≡ false
  unfolding is_error measured_reply
  no_error = by m.told
    where
      by : (told : Bool) → is_error (cond told (Outcome m.outcome) Silent) ≡ false
      by true = refl
      by false = refl

  operand_there : operand s c c.command.qubit ≡ Some m.number
  operand_there = operand_is shape c cs own has.ready s home standing fit c.command.qubit m.number has.held

  word_small : (n : ℕ) → Some m.word ≡ Some n → n < 2 ^ 64
  word_small n e = subst (λ (k : ℕ). k < 2 ^ 64) (some_same m.word n e) (has.measured).small

  answer_done : measured_reply m.told m.outcome ≡ (effect shape s c m.word).reply
  unfolding effect effect_of
  answer_done = ap (measured_reply m.told) (sym outcome) ∙ sym (ap (λ k. (effect_of shape s c m.word k).reply) is)

  legal : IsLegalEntry shape s (measured_entry c m)
  unfolding is_measurement second_of is_gate
  legal = legal_entry shape s c (Some m.word) (measured_reply m.told m.outcome) (has.ready.opened).range ((has.ready.opened).allowed.node) ((has.ready.opened).allowed.instr) word_small
      (sym (measurement_draws s c (ap is_measurement is) (ap is_some operand_there)))
      (reply_done shape s c m.word (measured_reply m.told m.outcome) (none_refuses shape c cs own has.ready s home standing fit (ap second_of is)) (no_gate_is_small shape s c (ap is_gate is)) answer_done)

  state_is : advance shape s (measured_entry c m) ≡ (effect shape s c m.word).state
  state_is = advance_done shape s c (Some m.word) (measured_reply m.told m.outcome) no_error

  homes_are : homes_step s home (measured_entry c m) ≡ homes_by s home c (kind_of c.command.instr)
  unfolding homes_step
  homes_are = ap (λ b. cond b home (homes_by s home c (kind_of c.command.instr))) no_error

  pool_is : touches_pool s (measured_entry c m) ≡ true
  unfolding touches_pool effect_touches_pool is_making is_measurement
  pool_is = ap (λ b. not b && effect_touches_pool s c (kind_of c.command.instr)) no_error ∙ ap (effect_touches_pool s c) is

  slot_is : (t : ℕ) → touches_slot s home (measured_entry c m) t ≡ effect_touches_slot s home c t (kind_of c.command.instr)
  unfolding touches_slot
  slot_is t = by _ _ (is_error (measured_reply m.told m.outcome)) no_error
    where
      by : {A : Type 0} (a b : A) (e : Bool) → e ≡ false → cond e a b ≡ b
      by a b true e = absurd (clash e)
      by a b false e = refl

  -- what a measurement makes of the cells
  pub step_by : (n : Node) (p : Pool) (slots : List (ℕ × Amplitudes)) (other : Option ℕ)
      → NodeFitsAfter shape s c m.word c.node n
      → FitsPool shape ((effect shape s c m.word).state) (homes_by s home c (kind_of c.command.instr)) p.numbers p.slots p.pairs
      → ((t : ℕ) → effect_touches_slot s home c t (kind_of c.command.instr) ≡ ((m.spot.slot == t) || holds_of other (λ u. u == t)))
      → ((t : ℕ) → ((m.spot.slot == t) || holds_of other (λ u. u == t)) ≡ is_some (change_at slots t))
      → ((t : ℕ) (a : Amplitudes) → change_at slots t ≡ Some a → FitsAfter shape s home c m.word t (register_with shape.limit a))
      → IsLegalEntry shape s (measured_entry c m) × ChangesFit shape s home (measured_entry c m) (record { nodes = (c.node, n) ∷ []; pool = Some p; slots = slots })
  step_by n p slots other node pool touched named slot = (
    legal,
    record {
      nodes_touched = own_touched shape c n (Some m.word) (measured_reply m.told m.outcome) (unfold remote_of in ap remote_of is);
      pool_touched = pool_is;
      slots_touched = λ t. slot_is t ∙ touched t ∙ named t;
      nodes = change_one (λ k v. FitsNode (advance shape s (measured_entry c m)) k (held_map v) (arrived_map v)) c.node n
          (subst (λ (t : Network). FitsNode t c.node (held_map n) (arrived_map n)) (sym state_is) node);
      pool = λ v e.
          subst (λ (u : Pool). FitsPool shape (advance shape s (measured_entry c m)) (homes_step s home (measured_entry c m)) u.numbers u.slots u.pairs) (some_same p v e)
          (subst (λ (t : Network). FitsPool shape t (homes_step s home (measured_entry c m)) p.numbers p.slots p.pairs) (sym state_is)
          (subst (λ (h : ℕ → ℕ). FitsPool shape ((effect shape s c m.word).state) h p.numbers p.slots p.pairs) (sym homes_are) pool));
      slots = λ t a e.
          subst (λ (v : Network). FitsSlot shape v (homes_step s home (measured_entry c m)) t (register_with shape.limit a)) (sym state_is)
          (subst (λ (h : ℕ → ℕ). FitsSlot shape ((effect shape s c m.word).state) h t (register_with shape.limit a)) (sym homes_are) (slot t a e));
    },
  )

  -- the call's kind where it takes its qubit out
  out_is : after ≡ TakenOut → kind_of c.command.instr ≡ Measure TakenOut m.told
  out_is out = is ∙ ap (λ a. Measure a m.told) out

  -- and what it does where it leaves it
  leaves : (v : Bool) → left_value after m.outcome ≡ Some v → Leaves s home c m.word (Measure after m.told) v
  unfolding left_value
  leaves v stays = by after stays
    where
      by : (a : After) → left_value a m.outcome ≡ Some v → Leaves s home c m.word (Measure a m.told) v
      by TakenOut e = absurd (never e)
        where
          never : None ≡ Some v → ⊥
          never f = cc
      by Left e = left_leaves s home c m.word m.told v (outcome ∙ some_same m.outcome v e)
      by Cleared e = subst (λ (b : Bool). Leaves s home c m.word (Measure Cleared m.told) b) (some_same false v e) (cleared_leaves s home c m.word m.told)

  -- ---- the own node
  node_out : after ≡ TakenOut → NodeFitsAfter shape s c m.word c.node (without_held own c.app c.command.qubit)
  node_out out = node_removed shape s c m.word own (own_fits shape c cs own has.ready s home standing fit) m.told (out_is out)

  node_same : (v : Bool) → left_value after m.outcome ≡ Some v → NodeFitsAfter shape s c m.word c.node own
  unfolding left_value
  node_same v stays = node_kept shape s c m.word c.node own (own_fits shape c cs own has.ready s home standing fit) (Measure after m.told) is (keeps after stays)
    where
      keeps : (a : After) → left_value a m.outcome ≡ Some v → keeps_nodes (Measure a m.told) ≡ true
      keeps TakenOut e = cc
      keeps Left e = refl
      keeps Cleared e = refl

  -- ---- the pool
  module _ (w : PoolPair) (there : cs.pool ≡ Some w) where
    -- the pool fits the state after the measurement
    abbrev PoolFits : Pool → Type 0
    PoolFits p = FitsPool shape ((effect shape s c m.word).state) (homes_by s home c (kind_of c.command.instr)) p.numbers p.slots p.pairs

    pool_with : (numbers slots : List ℕ) (p : Pool) → FitsPool shape ((effect shape s c m.word).state) (homes_by s home c (kind_of c.command.instr)) numbers slots (w.now).pairs
        → ((q : ℕ) → is_listed p.numbers q ≡ is_listed numbers q) → ((t : ℕ) → is_listed p.slots t ≡ is_listed slots t) → p.pairs ≡ (w.now).pairs → PoolFits p
    pool_with numbers slots p h same_numbers same_slots pairs = record {
      numbers_free = λ q. same_numbers q ∙ h.numbers_free q;
      slots_free = λ t. same_slots t ∙ h.slots_free t;
      made = pairs ∙ h.made;
    }

    back_numbers : (p : Pool) → IsGivenBack m w.now p → (q : ℕ) → is_listed p.numbers q ≡ (is_listed (w.now).numbers q || (q == own_number s c))
    back_numbers p back q = back.numbers q ∙ ap (λ (n : ℕ). is_listed (w.now).numbers q || (q == n)) (sym number_is)

    back_slots : (p : Pool) → IsGivenBack m w.now p → (b : Bool) → m.alone ≡ b → (t : ℕ) → is_listed p.slots t ≡ (is_listed (w.now).slots t || b && (t == home (own_number s c)))
    back_slots p back b e t = back.slots t ∙ ap (λ (d : Bool). is_listed (w.now).slots t || d && (t == m.spot.slot)) e ∙ ap (λ (n : ℕ). is_listed (w.now).slots t || b && (t == n)) (sym home_is)

    pool_back : after ≡ TakenOut → (p : Pool) → IsGivenBack m w.now p → PoolFits p
    pool_back out p back = by m.alone refl
      where
        by : (b : Bool) → m.alone ≡ b → PoolFits p
        by true e = pool_with p.numbers p.slots p
            (pool_removed_alone shape s home c m.word (w.now).numbers (w.now).slots (w.now).pairs standing.sound standing.housed (fit.pool w there) live m.told (out_is out)
            (alone_is ∙ e) (standing.homed (own_number s c) live) p.numbers p.slots (back_numbers p back) (back_slots p back true e))
            (λ q. refl) (λ t. refl) back.pairs
        by false e = pool_with p.numbers (w.now).slots p
            (pool_removed_beside shape s home c m.word (w.now).numbers (w.now).slots (w.now).pairs standing.sound standing.housed (fit.pool w there) live m.told (out_is out)
            (alone_is ∙ e) p.numbers (back_numbers p back))
            (λ q. refl) (λ t. back_slots p back false e t ∙ or_false (is_listed (w.now).slots t)) back.pairs

    pool_same : (v : Bool) → left_value after m.outcome ≡ Some v → m.alone ≡ true → PoolFits w.now
    pool_same v stays e = pool_refreshed_alone shape s home c m.word (w.now).numbers (w.now).slots (w.now).pairs standing.sound standing.housed (fit.pool w there) live (Measure after m.told) v is (leaves v stays) (alone_is ∙ e)

    slot_free : (slot : ℕ) → IsLeastListed (w.now).slots slot → slot ≡ least_free (used_slots s.live home)
    slot_free slot least = least_free_slot_is shape s home (w.now).numbers (w.now).slots (w.now).pairs standing.sound (fit.pool w there) slot least.listed least.least

    pool_less : (v : Bool) → left_value after m.outcome ≡ Some v → m.alone ≡ false → (slot : ℕ) → IsLeastListed (w.now).slots slot → (p : Pool) → IsSlotTaken slot w.now p → PoolFits p
    pool_less v stays e slot least p less = pool_with (w.now).numbers p.slots p
        (pool_refreshed_beside shape s home c m.word (w.now).numbers (w.now).slots (w.now).pairs standing.sound standing.housed (fit.pool w there) live (Measure after m.told) v is (leaves v stays) (alone_is ∙ e)
        p.slots (λ t. less.slots t ∙ ap (λ (n : ℕ). is_listed (w.now).slots t && not (t == n)) (slot_free slot least)))
        (λ q. ap (λ ns. is_listed ns q) less.numbers) (λ t. refl) less.pairs

    -- a slot is free where the qubit isn't alone
    pub slot_is_left : m.alone ≡ false → is_listed (w.now).slots (least_free (used_slots s.live home)) ≡ true
    slot_is_left e = slot_left_beside shape s home (w.now).numbers (w.now).slots (w.now).pairs standing.sound (fit.pool w there) standing.housed (own_number s c) live (alone_is ∙ e)

  -- ---- registers
  abbrev x : RegisterState
  x = record ((has.measured).spot.cell).register { next = empty }

  place_is : qubit_at x.value m.spot.place ≡ own_number s c
  place_is = (has.measured).spot.number ∙ sym number_is

  -- some row with the outcome isn't zero
  pub outcome_has_row : HasRowWith m.spot.place m.outcome x.value
  outcome_has_row =
      subst (λ (n : ℕ). ¬ ((y : ℕ) → keep n m.outcome (vector_of x.value) y ≡ zero_coefficient)) (sym place_is)
      (kept_has_row shape s home c standing live r fits apart m.word (has.measured).small m.outcome drawn)

  along : (a : Amplitudes) (qs : List ℕ) (t slot : ℕ) → a.qubits ≡ qs → t ≡ slot → FitsAfter shape s home c m.word t (record { limit = shape.limit; qubits = qs; list = a.list }) → FitsAfter shape s home c m.word slot (register_with shape.limit a)
  along a qs t slot e f h =
      subst (λ (u : ℕ). FitsAfter shape s home c m.word u (register_with shape.limit a)) f
      (subst (λ (ps : List ℕ). FitsAfter shape s home c m.word t (record { limit = shape.limit; qubits = ps; list = a.list })) (sym e) h)

  module _ (a : Amplitudes) (out : IsTakenOut m.spot.place m.outcome x (record x { next = prepared a })) where
    stays_same : IsSameState (register_vector (without r.qubits (own_number s c)) a.list) (keep (own_number s c) m.outcome (register_vector r.qubits r.list))
    stays_same = stay_same m.spot.place m.outcome x a (own_number s c) out place_is

    taken_fits : after ≡ TakenOut → FitsAfter shape s home c m.word m.spot.slot (register_with shape.limit a)
    taken_fits gone = along a (without r.qubits (own_number s c)) (home (own_number s c)) m.spot.slot (stay_qubits m.spot.place m.outcome x a (own_number s c) out place_is) home_is
        (taken_step shape s home c standing live r fits apart m.word (has.measured).small m.outcome drawn m.told (out_is gone) a.list stays_same)

    left_fits : (v : Bool) → left_value after m.outcome ≡ Some v → m.alone ≡ false → FitsAfter shape s home c m.word m.spot.slot (register_with shape.limit a)
    left_fits v stays e = along a (without r.qubits (own_number s c)) (home (own_number s c)) m.spot.slot (stay_qubits m.spot.place m.outcome x a (own_number s c) out place_is) home_is
        (left_step shape s home c standing live r fits apart m.word (has.measured).small m.outcome drawn (Measure after m.told) v is (leaves v stays)
        (ne_of _ _ (alone_is ∙ e)) a.list stays_same)

  number_list : m.number ∷ [] ≡ own_number s c ∷ []
  number_list = ap (λ (n : ℕ). n ∷ []) (sym number_is)

  moved_fits : (v : Bool) → left_value after m.outcome ≡ Some v → m.alone ≡ false → (slot : ℕ) → slot ≡ least_free (used_slots s.live home) → FitsAfter shape s home c m.word slot (register_with shape.limit (basis_state m.number v))
  moved_fits v stays e slot free = along (basis_state m.number v) (own_number s c ∷ []) (least_free (used_slots s.live home)) slot number_list (sym free)
      (moved_step shape s home c standing live r fits apart m.word (has.measured).small m.outcome drawn (Measure after m.told) v is (leaves v stays)
      (ne_of _ _ (alone_is ∙ e)) (basis_list v) (same_reflexive _))

  alone_fits : (v : Bool) → left_value after m.outcome ≡ Some v → m.alone ≡ true → FitsAfter shape s home c m.word m.spot.slot (register_with shape.limit (basis_state m.number v))
  alone_fits v stays e = along (basis_state m.number v) (own_number s c ∷ []) (home (own_number s c)) m.spot.slot number_list home_is
      (alone_step shape s home c standing live r fits apart m.word (has.measured).small m.outcome drawn (Measure after m.told) v is (leaves v stays)
      (eq_of _ _ (alone_is ∙ e)) (basis_list v) (same_reflexive _))

  -- ---- the slots that are touched
  touched_taken : after ≡ TakenOut → (t : ℕ) → effect_touches_slot s home c t (kind_of c.command.instr) ≡ ((m.spot.slot == t) || false)
  unfolding effect_touches_slot operand_in_slot
  touched_taken out t = ap (effect_touches_slot s home c t) (out_is out) ∙ ap (λ (n : ℕ). n == t) home_is ∙ sym (or_false (m.spot.slot == t))

  touched_left : (v : Bool) → left_value after m.outcome ≡ Some v → (b : Bool) → m.alone ≡ b → (t : ℕ) → effect_touches_slot s home c t (kind_of c.command.instr) ≡ ((m.spot.slot == t) || not b && (least_free (used_slots s.live home) == t))
  unfolding parted_in_slot
  touched_left v stays b e t =
      ap (effect_touches_slot s home c t) is ∙ (leaves v stays).touches t
      ∙ ap (λ (d : Bool). (home (own_number s c) == t) || not d && (least_free (used_slots s.live home) == t)) (alone_is ∙ e)
      ∙ ap (λ (n : ℕ). (n == t) || not b && (least_free (used_slots s.live home) == t)) home_is

  -- ---- the three steps
  abbrev SlotFits : ℕ → Amplitudes → Type 0
  SlotFits t a = FitsAfter shape s home c m.word t (register_with shape.limit a)

  one_slot : (a : Amplitudes) → SlotFits m.spot.slot a → (t : ℕ) (b : Amplitudes) → change_at ((m.spot.slot, a) ∷ []) t ≡ Some b → SlotFits t b
  one_slot a h = change_one SlotFits m.spot.slot a h

  two_slots : (slot : ℕ) (a d : Amplitudes) → SlotFits m.spot.slot a → SlotFits slot d → (t : ℕ) (b : Amplitudes) → change_at ((slot, d) ∷ (m.spot.slot, a) ∷ []) t ≡ Some b → SlotFits t b
  two_slots slot a d h k = change_cons SlotFits slot d ((m.spot.slot, a) ∷ []) k (one_slot a h)

  pub taken_changes : after ≡ TakenOut → (w : PoolPair) → cs.pool ≡ Some w → (p : Pool) → IsGivenBack m w.now p
      → (a : Amplitudes) → IsTakenOut m.spot.place m.outcome x (record x { next = prepared a })
      → IsLegalEntry shape s (measured_entry c m) × ChangesFit shape s home (measured_entry c m) (record { nodes = (c.node, without_held own c.app c.command.qubit) ∷ []; pool = Some p; slots = (m.spot.slot, a) ∷ [] })
  taken_changes gone w there p back a out =
      step_by (without_held own c.app c.command.qubit) p ((m.spot.slot, a) ∷ []) None (node_out gone) (pool_back w there gone p back) (touched_taken gone) (λ t. named_one m.spot.slot t a) (one_slot a (taken_fits a out gone))

  pub alone_changes : (v : Bool) → left_value after m.outcome ≡ Some v → m.alone ≡ true → (w : PoolPair) → cs.pool ≡ Some w
      → IsLegalEntry shape s (measured_entry c m) × ChangesFit shape s home (measured_entry c m) (record { nodes = (c.node, own) ∷ []; pool = Some w.now; slots = (m.spot.slot, basis_state m.number v) ∷ [] })
  alone_changes v stays e w there =
      step_by own w.now ((m.spot.slot, basis_state m.number v) ∷ []) None (node_same v stays) (pool_same w there v stays e) (touched_left v stays true e) (λ t. named_one m.spot.slot t (basis_state m.number v))
      (one_slot (basis_state m.number v) (alone_fits v stays e))

  pub moved_changes : (v : Bool) → left_value after m.outcome ≡ Some v → m.alone ≡ false → (w : PoolPair) → cs.pool ≡ Some w → (slot : ℕ) → IsLeastListed (w.now).slots slot → (p : Pool) → IsSlotTaken slot w.now p
      → (a : Amplitudes) → IsTakenOut m.spot.place m.outcome x (record x { next = prepared a })
      → IsLegalEntry shape s (measured_entry c m) × ChangesFit shape s home (measured_entry c m) (record { nodes = (c.node, own) ∷ []; pool = Some p; slots = (slot, basis_state m.number v) ∷ (m.spot.slot, a) ∷ [] })
  moved_changes v stays e w there slot least p less a out =
      let free = slot_free w there slot least in
      step_by own p ((slot, basis_state m.number v) ∷ (m.spot.slot, a) ∷ []) (Some slot) (node_same v stays) (pool_less w there v stays e slot least p less)
      (λ t. touched_left v stays false e t ∙ ap (λ (n : ℕ). (m.spot.slot == t) || (n == t)) (sym free)) (λ t. named_two m.spot.slot slot t a (basis_state m.number v))
      (two_slots slot a (basis_state m.number v) (left_fits a out v stays e) (moved_fits v stays e slot free))
