-- What a measurement prepares on a board is the step of its call: `taken_prepared` where the qubit is taken out, `alone_prepared`
-- where it stays in its slot, and `moved_prepared` where it moves to another.
use Rattle.std.proofs.Common.{◌≡◌, ℕ, ◌<◌, ◌≤◌, ◌*◌, ◌==◌, Bool, true, false, ◌||◌, List, [], ◌∷◌, length, Option, Some, None, IsSome, is_some, option_map, refl, sym, ap, subst, ◌∙◌, arith}
use Rattle.state_model.specs.Row.{is_listed}
use Rattle.state_model.specs.Amplitudes.{Amplitudes}
use Rattle.state_model.proofs.Booleans.{clash}
use Rattle.amplitude_register.specs.States.{RegisterState, next_value, basis_state}
use Rattle.register_split.specs.Removal.{IsTakenOut, HasRowWith}
use Rattle.network_model.specs.Network.{Shape}
use Rattle.network_model.specs.Kinds.{kind_of, is_making, is_measurement}
use Rattle.network_model.specs.Step.{holds_of, least_free}
use Rattle.network_model.specs.Factored.{used_slots}
use Rattle.network_model.specs.History.{IsLegalEntry}
use Rattle.network_model.specs.declared.After.{After}
use Rattle.network_model.specs.declared.After.TheVariants.{TakenOut, Left, Cleared}
use Rattle.network_model.specs.declared.Call.{Call}
use Rattle.network_model.specs.declared.Kind.TheVariants.{Measure}
use Rattle.virtual_node.specs.Node.{Node, without_held}
use Rattle.core_cells.specs.Marks.{IsLeastListed}
use Rattle.core_cells.specs.Pool.{Pool, IsSlotTaken}
use Rattle.core_cells.specs.Cells.{Cells, put_node, put_pool}
use Rattle.core_cells.specs.declared.names.CellName.TheVariants as cell
use Rattle.core_cells.specs.Nodes.{NodeValues}
use Rattle.core_cells.specs.declared.cells.PoolPair.{PoolPair}
use Rattle.core_cells.specs.declared.cells.SlotCell.{SlotCell}
use Rattle.factored_core.specs.Changes.{Changes, no_changes, changed, change_at, with_next_slot, ChangesFit, IsStepBy, IsPreparedStep}
use Rattle.factored_core.specs.Measurements.{left_value, measured_entry, measured_step, HasMeasured, IsGivenBack}
use Rattle.factored_core.specs.Needs.{may_touch_pool, takes_slot}
use Rattle.factored_core.specs.Slots.{HasPrepared, IsPreparedAs}
use Rattle.factored_core.specs.declared.measurements.Measured.{Measured}
use Rattle.factored_core.specs.declared.prepared.Prepared.{Prepared}
use Rattle.core_cells.proofs.Presence.{IsNamedThere, all_there, maybe_slot, no_slot_is_node}
use Rattle.factored_core.proofs.Changed.{changed-none, changed-slot_at, node_prepared, pool_prepared, pool_still, slot_still, some_there, there_is}
use Rattle.factored_core.proofs.MeasurementSteps.{named_one, named_two, spot_within, outcome_has_row, slot_is_left, taken_changes, alone_changes, moved_changes}
use Rattle.factored_core.proofs.Operands.{operand_lives}

below : (a b c : ℕ) → a < b → b ≤ c → a < c
below a b c h k = omega arith

module _ (shape : Shape) (c : Call) (cs : Cells) (own : Node) (m : Measured) (has : HasMeasured shape c cs own m) (after : After) (is : kind_of c.command.instr ≡ Measure after m.told) where
  -- ---- what is there
  pub pool_there : IsSome cs.pool
  unfolding may_touch_pool is_making is_measurement
  pool_there = ((has.ready.opened).has).pool (ap may_touch_pool is)

  node_there : IsSome (cs.node c.node)
  node_there = some_there _ _ ((has.ready.opened).has).own_there

  pub spot_there : IsSome (cs.slot m.spot.slot)
  spot_there = some_there _ _ ((has.measured).spot).there

  free_there : (v : Bool) → left_value after m.outcome ≡ Some v → (w : PoolPair) → cs.pool ≡ Some w → (slot : ℕ) → IsLeastListed (w.now).slots slot → IsSome (cs.slot slot)
  unfolding takes_slot left_value
  free_there v stays w there slot least = ((has.ready.opened).has).free w slot (ap takes_slot is ∙ takes after stays) there least
    where
      takes : (a : After) → left_value a m.outcome ≡ Some v → takes_slot (Measure a m.told) ≡ true
      takes TakenOut e = cc
      takes Left e = refl
      takes Cleared e = refl

  pub number_small : length shape.places * shape.room ≤ 128 → m.number < 128
  number_small few =
      let stands = (has.ready.opened).stands in
      below _ _ _ (stands.standing.sound.live_numbers m.number (operand_lives shape c cs own has.ready stands.state stands.home stands.standing stands.fit c.command.qubit m.number has.held)) few

  pub slot_small : length shape.places * shape.room ≤ 128 → m.spot.slot < 128
  slot_small few =
      let stands = (has.ready.opened).stands in
      below _ _ _ (spot_within shape c cs own m has after is stands.state stands.home stands.standing stands.fit) few

  -- a slot is free where the qubit isn't alone
  pub none_free : m.alone ≡ false → (old : Pool) → ((w : PoolPair) → cs.pool ≡ Some w → old ≡ w.now) → ((t : ℕ) → is_listed old.slots t ≡ false) → ⊥
  none_free e old copied none =
      let stands = (has.ready.opened).stands in
      let w = there_is cs.pool pool_there in
      clash (sym (slot_is_left shape c cs own m has after is stands.state stands.home stands.standing stands.fit (w.0) (w.1) e) ∙ ap (λ (o : Pool). is_listed o.slots (least_free (used_slots stands.state.live stands.home))) (sym (copied (w.0) (w.1))) ∙ none _)

  -- ---- what is prepared first
  pub after_node : (one two : Cells) (n : Node) → one ≡ cs → ((w : NodeValues) → one.node c.node ≡ Some w → two ≡ put_node one c.node (record w { next = Some n }))
      → two ≡ changed cs (record { nodes = (c.node, n) ∷ []; pool = None; slots = [] })
  after_node one two n e put = node_prepared cs one two no_changes c.node n (e ∙ changed-none cs (has.ready.opened).unprepared) node_there put

  pub pool_left : (one two : Cells) (n : Node) → one ≡ cs → ((w : NodeValues) → one.node c.node ≡ Some w → two ≡ put_node one c.node (record w { next = Some n })) → IsSome two.pool
  pool_left one two n e put = pool_still cs two (record { nodes = (c.node, n) ∷ []; pool = None; slots = [] }) (after_node one two n e put) pool_there

  module _ (one two three : Cells) (n : Node) (p : Pool) (e : one ≡ cs) (put_own : (w : NodeValues) → one.node c.node ≡ Some w → two ≡ put_node one c.node (record w { next = Some n }))
      (put_free : (w : PoolPair) → two.pool ≡ Some w → three ≡ put_pool two (record w { next = Some p })) where
    abbrev first : Changes
    first = record { nodes = (c.node, n) ∷ []; pool = Some p; slots = [] }

    pub after_pool : three ≡ changed cs first
    after_pool = pool_prepared cs two three (record { nodes = (c.node, n) ∷ []; pool = None; slots = [] }) p (after_node one two n e put_own) pool_there put_free

    pub slot_left : (slot : ℕ) → IsSome (cs.slot slot) → IsSome (three.slot slot)
    slot_left slot there = slot_still cs three first slot after_pool there

    -- the qubit can be taken out
    pub can_take_out : (w : SlotCell) × (three.slot m.spot.slot ≡ Some w) × (m.spot.place < length w.register.value.qubits) × HasRowWith m.spot.place m.outcome w.register.value
    can_take_out =
        let stands = (has.ready.opened).stands in
        let at = (has.measured).spot in (
          with_next_slot None at.cell,
          ap (λ (d : Cells). d.slot m.spot.slot) after_pool ∙ changed-slot_at cs first m.spot.slot at.cell at.there,
          at.within,
          outcome_has_row shape c cs own m has after is stands.state stands.home stands.standing stands.fit,
        )

    -- the free slot is still there when the qubit was taken out of its own
    pub free_still : (v : Bool) → left_value after m.outcome ≡ Some v → (four : Cells) (old : Pool) (slot : ℕ) → ((w : PoolPair) → cs.pool ≡ Some w → old ≡ w.now) → IsLeastListed old.slots slot
        → HasPrepared three four m.spot.slot (IsTakenOut m.spot.place m.outcome) → IsSome (four.slot slot)
    free_still v stays four old slot copied least took =
        let at = (has.measured).spot in
        let h = took cs first after_pool at.cell at.there in
        let w = there_is cs.pool pool_there in
        slot_still cs four (record first { slots = (m.spot.slot, h.0) ∷ [] }) slot (h.1.0) (free_there v stays (w.0) (w.1) slot (subst (λ (o : Pool). IsLeastListed o.slots slot) (copied (w.0) (w.1)) least))

    -- ---- the prepared step
    step_is : (new : Cells) (slots : List (ℕ × Amplitudes)) (prep : Prepared) (other : Option ℕ) → new ≡ changed cs (record { nodes = (c.node, n) ∷ []; pool = Some p; slots = slots })
        → prep ≡ measured_step c m other
        → ((t : ℕ) → ((m.spot.slot == t) || holds_of other (λ u. u == t)) ≡ is_some (change_at slots t)) → IsNamedThere cs (option_map cell.Slot other)
        → IsStepBy shape cs (record { nodes = (c.node, n) ∷ []; pool = Some p; slots = slots }) (measured_entry c m) → IsPreparedStep shape cs new prep
    step_is new slots prep other after is named present step = subst (λ (q : Prepared). IsPreparedStep shape cs new q) (sym is) (record {
      changes = record { nodes = (c.node, n) ∷ []; pool = Some p; slots = slots };
      after = after;
      named = record {
        nodes = λ k. ap (λ b. (c.node == k) || (b || false)) (no_slot_is_node other k) ∙ named_one c.node k n;
        pool = refl;
        slots = λ t. ap (λ b. (m.spot.slot == t) || b) (maybe_slot other t) ∙ named t;
      };
      there = let at = (has.measured).spot in all_there cs _ (node_there, (some_there (cs.slot m.spot.slot) at.cell at.there, (pool_there, (present, tt))));
      step = step;
    })

    pub taken_prepared : (four : Cells) (old : Pool) (prep : Prepared) → after ≡ TakenOut → n ≡ without_held own c.app c.command.qubit
        → ((w : PoolPair) → cs.pool ≡ Some w → old ≡ w.now) → IsGivenBack m old p → HasPrepared three four m.spot.slot (IsTakenOut m.spot.place m.outcome)
        → prep ≡ measured_step c m None → IsPreparedStep shape cs four prep
    taken_prepared four old prep gone less copied back took same =
        let at = (has.measured).spot in
        let h = took cs first after_pool at.cell at.there in
        let w = there_is cs.pool pool_there in
        step_is four ((m.spot.slot, h.0) ∷ []) prep None (h.1.0) same (λ t. named_one m.spot.slot t (h.0)) tt
        (λ s home standing fit.
        subst (λ (v : Node). IsLegalEntry shape s (measured_entry c m) × ChangesFit shape s home (measured_entry c m) (record { nodes = (c.node, v) ∷ []; pool = Some p; slots = (m.spot.slot, h.0) ∷ [] })) (sym less)
        (taken_changes shape c cs own m has after is s home standing fit gone (w.0) (w.1) p (subst (λ (o : Pool). IsGivenBack m o p) (copied (w.0) (w.1)) back) (h.0) (h.1.1)))

    -- a value that is prepared
    as_prepared : (v : SlotCell) (d : Option Amplitudes) (a b : Amplitudes) → IsPreparedAs b (with_next_slot d v).register (with_next_slot (Some a) v).register → a ≡ b
    as_prepared v d a b e = ap (λ (r : RegisterState). next_value r.next) e

    pub alone_prepared : (four : Cells) (v : Bool) (prep : Prepared) → left_value after m.outcome ≡ Some v → m.alone ≡ true → n ≡ own
        → ((w : PoolPair) → cs.pool ≡ Some w → p ≡ w.now) → HasPrepared three four m.spot.slot (IsPreparedAs (basis_state m.number v))
        → prep ≡ measured_step c m None → IsPreparedStep shape cs four prep
    alone_prepared four v prep stays alone same copied set eq =
        let at = (has.measured).spot in
        let h = set cs first after_pool at.cell at.there in
        let w = there_is cs.pool pool_there in
        let made = as_prepared at.cell None (h.0) (basis_state m.number v) (h.1.1) in
        step_is four ((m.spot.slot, h.0) ∷ []) prep None (h.1.0) eq (λ t. named_one m.spot.slot t (h.0)) tt
        (λ s home standing fit.
        subst (λ (v : Node). IsLegalEntry shape s (measured_entry c m) × ChangesFit shape s home (measured_entry c m) (record { nodes = (c.node, v) ∷ []; pool = Some p; slots = (m.spot.slot, h.0) ∷ [] })) (sym same)
        (subst (λ (o : Pool). IsLegalEntry shape s (measured_entry c m) × ChangesFit shape s home (measured_entry c m) (record { nodes = (c.node, own) ∷ []; pool = Some o; slots = (m.spot.slot, h.0) ∷ [] })) (sym (copied (w.0) (w.1)))
        (subst (λ (a : Amplitudes). IsLegalEntry shape s (measured_entry c m) × ChangesFit shape s home (measured_entry c m) (record { nodes = (c.node, own) ∷ []; pool = Some ((w.0).now); slots = (m.spot.slot, a) ∷ [] })) (sym made)
        (alone_changes shape c cs own m has after is s home standing fit v stays alone (w.0) (w.1)))))

    pub moved_prepared : (four five : Cells) (old : Pool) (slot : ℕ) (v : Bool) (prep : Prepared) → left_value after m.outcome ≡ Some v → m.alone ≡ false → n ≡ own
        → ((w : PoolPair) → cs.pool ≡ Some w → old ≡ w.now) → IsLeastListed old.slots slot → IsSlotTaken slot old p
        → HasPrepared three four m.spot.slot (IsTakenOut m.spot.place m.outcome)
        → HasPrepared four five slot (IsPreparedAs (basis_state m.number v))
        → prep ≡ measured_step c m (Some slot) → IsPreparedStep shape cs five prep
    moved_prepared four five old slot v prep stays alone same copied least less took set eq =
        let at = (has.measured).spot in
        let h = took cs first after_pool at.cell at.there in
        let w = there_is cs.pool pool_there in
        let least' = subst (λ (o : Pool). IsLeastListed o.slots slot) (copied (w.0) (w.1)) least in
        let u = there_is (cs.slot slot) (free_there v stays (w.0) (w.1) slot least') in
        let k = set cs (record first { slots = (m.spot.slot, h.0) ∷ [] }) (h.1.0) (u.0) (u.1) in
        let made = as_prepared (u.0) (change_at ((m.spot.slot, h.0) ∷ []) slot) (k.0) (basis_state m.number v) (k.1.1) in
        step_is five ((slot, k.0) ∷ (m.spot.slot, h.0) ∷ []) prep (Some slot) (k.1.0) eq (λ t. named_two m.spot.slot slot t (h.0) (k.0)) (free_there v stays (w.0) (w.1) slot least')
        (λ s home standing fit.
        subst (λ (n : Node). IsLegalEntry shape s (measured_entry c m) × ChangesFit shape s home (measured_entry c m) (record { nodes = (c.node, n) ∷ []; pool = Some p; slots = (slot, k.0) ∷ (m.spot.slot, h.0) ∷ [] })) (sym same)
        (subst (λ (a : Amplitudes). IsLegalEntry shape s (measured_entry c m) × ChangesFit shape s home (measured_entry c m) (record { nodes = (c.node, own) ∷ []; pool = Some p; slots = (slot, a) ∷ (m.spot.slot, h.0) ∷ [] })) (sym made)
        (moved_changes shape c cs own m has after is s home standing fit v stays alone (w.0) (w.1) slot least' p (subst (λ (o : Pool). IsSlotTaken slot o p) (copied (w.0) (w.1)) less) (h.0) (h.1.1))))
