-- Gates on two qubits on a board: what was prepared is the step of the call.
use Rattle.std.proofs.Common.{◌||◌, ℕ, zero, suc, ◌≡◌, ◌≢◌, ◌≤◌, ◌<◌, ◌^◌, ◌+◌, ◌*◌, ◌==◌, true, false, List, [], ◌∷◌, ◌++◌, length, slice_index_or, Option, Some, None, IsSome, is_some, nat_abs, refl, sym, ap, subst, ◌∙◌, arith, length-append}
use Rattle.state_model.specs.Amplitudes.{Amplitudes, vector_of, qubit_at}
use Rattle.state_model.specs.Registers.{register_vector, product_over}
use Rattle.state_model.specs.StateVector.{IsSameState}
use Rattle.state_model.specs.Gate.{two_gate}
use Rattle.state_model.specs.declared.Two.{Two}
use Rattle.state_model.proofs.Booleans.{or_false}
use Rattle.amplitude_register.specs.States.{RegisterState, next_value, no_qubit}
use Rattle.gate_kernels.specs.Twos.{source}
use Rattle.register_merge.specs.Merging.{IsVerdict}
use Rattle.register_merge.specs.declared.verdicts.Merge.{Merge}
use Rattle.register_merge.specs.declared.verdicts.Merge.TheVariants.{Fits, TooMany, TooLarge}
use Rattle.cqc_model.specs.declared.Fault.TheVariants.{General}
use Rattle.network_model.specs.Network.{Shape}
use Rattle.network_model.specs.declared.Call.{Call}
use Rattle.network_model.specs.Kinds.{second_of, is_making, is_measurement}
use Rattle.factored_core.specs.Needs.{may_touch_pool}
use Rattle.factored_core.proofs.Operands.{operand_lives, spot_home}
use Rattle.network_model.specs.declared.CoreReply.{CoreReply}
use Rattle.network_model.specs.declared.CoreReply.TheVariants as reply
use Rattle.virtual_node.specs.Node.{Node}
use Rattle.cell_laws.proofs.Members.{same_pointwise}
use Rattle.cell_laws.proofs.JoinedSlots.{both_parts}
use Rattle.core_cells.specs.Pool.{Pool, IsSlotFreed}
use Rattle.core_cells.specs.Cells.{Cells, put_node, put_pool, register_of}
use Rattle.core_cells.specs.Nodes.{NodeValues}
use Rattle.core_cells.specs.declared.cells.PoolPair.{PoolPair}
use Rattle.core_cells.specs.declared.cells.SlotCell.{SlotCell}
use Rattle.factored_core.specs.Changes.{Changes, no_changes, changed, IsStepBy, AreNamed, IsPreparedStep, with_next_slot}
use Rattle.factored_core.specs.Ready.{IsReady}
use Rattle.factored_core.specs.Replies.{in_one_slot, in_two_slots}
use Rattle.factored_core.specs.Slots.{IsSpot, HasPrepared, IsSame, IsPreparedAs}
use Rattle.factored_core.specs.Pairs.{IsTwoCall, AreSpots, ArePair, AreMergeable, IsTooBig, IsJoined, IsTwoGated}
use Rattle.factored_core.specs.declared.slots.Spot.{Spot}
use Rattle.factored_core.proofs.Changed.{there_is, changed-none, node_prepared, pool_prepared, node_still, pool_still, slot_still, some_there, some_same, changed-slot_at, changed-slots}
use Rattle.factored_core.proofs.ChangeLists.{number_one, hidden, own_change}
use Rattle.core_cells.proofs.Presence.{all_there}
use Rattle.factored_core.proofs.Sizes.{large_bound}
use Rattle.factored_core.proofs.GateSteps.{in_slot, said}
use Rattle.factored_core.proofs.GateActs.{named_in_slot, slot_then_node}
use Rattle.factored_core.proofs.TwoSteps.{in_slots, number_two, inside_done, too_many, too_large, joined_done, numbers_apart, registers_apart}

-- ---- places in two lists
before : (xs ys : List ℕ) (i : ℕ) → i < length xs → slice_index_or (xs ++ ys) i 0 ≡ slice_index_or xs i 0
before [] ys i h = absurd (omega arith)
before (x ∷ xs) ys zero h = refl
before (x ∷ xs) ys (suc i) h = before xs ys i (omega arith)

behind : (xs ys : List ℕ) (i : ℕ) → slice_index_or (xs ++ ys) (length xs + i) 0 ≡ slice_index_or ys i 0
behind [] ys i = ap (λ n. slice_index_or ys n 0) (none i)
  where
    none : (n : ℕ) → 0 + n ≡ n
    none n = omega arith
behind (x ∷ xs) ys i = ap (λ n. slice_index_or (x ∷ (xs ++ ys)) n 0) (more (length xs) i) ∙ behind xs ys i
  where
    more : (m n : ℕ) → suc m + n ≡ suc (m + n)
    more m n = omega arith

-- the spots of the call's qubits, where the second was found on a board with the same cells
pub spots_are : (c : Call) (cs mid : Cells) (own : Node) (k : Two) (first second : ℕ) → IsTwoCall c own k first second → mid ≡ cs → (one two : Spot) → IsSpot cs first one → IsSpot mid second two → AreSpots c cs own k one two
spots_are c cs mid own k first second call e one two at_one at_two = record {
  first = first;
  second = second;
  call = call;
  first_spot = at_one;
  second_spot = subst (λ (b : Cells). IsSpot b second two) e at_two;
}

-- the own node and two slots are named
named_in_slots : (c : Call) (own : Node) (r : CoreReply) (o : Option Pool) (t : ℕ) (a : Amplitudes) (u : ℕ) (b : Amplitudes) → AreNamed (in_two_slots c r (is_some o) t u) (in_slots c.node own o t a u b)
named_in_slots c own r None t a u b = record {
  nodes = λ m. or_false (c.node == m) ∙ sym (number_one c.node own m);
  pool = refl;
  slots = λ x. ap (λ f. (t == x) || f) (or_false (u == x)) ∙ sym (number_two t u a b x);
}
named_in_slots c own r (Some p) t a u b = record {
  nodes = λ m. or_false (c.node == m) ∙ sym (number_one c.node own m);
  pool = refl;
  slots = λ x. ap (λ f. (t == x) || f) (or_false (u == x)) ∙ sym (number_two t u a b x);
}

module _ (shape : Shape) (c : Call) (cs : Cells) (own : Node) (ready : IsReady shape c cs own) (k : Two) (one two : Spot) (at : AreSpots c cs own k one two) where
  abbrev cell_one : SlotCell
  cell_one = (at.first_spot).cell

  abbrev cell_two : SlotCell
  cell_two = (at.second_spot).cell

  own_present : IsSome (cs.node c.node)
  own_present = let h = ready.opened.has in some_there (cs.node c.node) h.own h.own_there

  first_present : IsSome (cs.slot one.slot)
  first_present = some_there (cs.slot one.slot) cell_one (at.first_spot).there

  second_present : IsSome (cs.slot two.slot)
  second_present = some_there (cs.slot two.slot) cell_two (at.second_spot).there

  start : cs ≡ changed cs no_changes
  start = changed-none cs ready.opened.unprepared

  -- the registers, in the state that the cells stand for
  pub pair_is : one.slot ≢ two.slot → ArePair cell_one.register cell_two.register
  pair_is differ =
      let h = ready.opened.stands in record {
        apart = registers_apart shape c cs own ready k one two at h.state h.home h.standing h.fit differ;
        limits = ((h.fit).slots one.slot cell_one (at.first_spot).there).limit ∙ sym (((h.fit).slots two.slot cell_two (at.second_spot).there).limit);
      }

  -- the two places in one register differ
  pub places_differ : one.slot ≡ two.slot → one.place ≢ two.place
  places_differ same e =
      let h = ready.opened.stands in
      numbers_apart shape c cs own ready k one two at h.state h.home h.standing h.fit
      (sym (at.first_spot).number ∙ ap (qubit_at cell_one.register.value) e ∙ ap (λ (w : SlotCell). qubit_at w.register.value two.place) cells_same ∙ (at.second_spot).number)
    where
      cells_same : cell_one ≡ cell_two
      cells_same = some_same cell_one cell_two (sym (at.first_spot).there ∙ ap cs.slot same ∙ (at.second_spot).there)

  -- the pool is there, and the second slot is in its range
  pub pool_cell : (w : PoolPair) × (cs.pool ≡ Some w)
  unfolding may_touch_pool is_making is_measurement second_of
  pool_cell = there_is cs.pool ((ready.opened.has).pool (ap may_touch_pool (at.call).kind))

  pub slot_small : length shape.places * shape.room ≤ 128 → two.slot < 128
  slot_small few =
      let h = ready.opened.stands in
      let lives = operand_lives shape c cs own ready h.state h.home h.standing h.fit (at.call).id at.second (at.call).second_held in
      below _ _ _ ((h.standing).homed at.second lives) (spot_home shape c cs own ready h.state h.home h.standing h.fit at.second two at.second_spot) few
    where
      below : (m n b : ℕ) → m < b → m ≡ n → b ≤ 128 → n < 128
      below m n b h e k = omega arith

  -- the cells at the two spots
  pub first_cell : (x : SlotCell) → cs.slot one.slot ≡ Some x → x ≡ cell_one
  first_cell x is = some_same x cell_one (sym is ∙ (at.first_spot).there)

  pub second_cell : (y : SlotCell) → cs.slot two.slot ≡ Some y → y ≡ cell_two
  second_cell y is = some_same y cell_two (sym is ∙ (at.second_spot).there)

  pub pair_at : one.slot ≢ two.slot → (mid : Cells) → mid ≡ cs → (x y : SlotCell) → mid.slot one.slot ≡ Some x → mid.slot two.slot ≡ Some y → ArePair x.register y.register
  pair_at differ mid e x y is_x is_y =
      subst (λ (u : SlotCell). ArePair u.register y.register) (sym (first_cell x (ap (λ (c : Cells). c.slot one.slot) (sym e) ∙ is_x)))
      (subst (λ (u : SlotCell). ArePair cell_one.register u.register) (sym (second_cell y (ap (λ (c : Cells). c.slot two.slot) (sym e) ∙ is_y))) (pair_is differ))

  pub sum_small : one.slot ≢ two.slot → ((x y : SlotCell) → cs.slot one.slot ≡ Some x → cs.slot two.slot ≡ Some y → AreMergeable x.register y.register) → (count : ℕ) → count ≤ 12 → count + two.place < 2 ^ 8
  sum_small differ fits count few = small count two.place _ few (at.second_spot).within (at.second_spot).few
    where
      small : (a b n : ℕ) → a ≤ 12 → b < n → n ≤ 12 → a + b < 2 ^ 8
      small a b n h k l = omega arith

  -- ---- in one register
  module _ (same : one.slot ≡ two.slot) (mid : Cells) (gated : HasPrepared cs mid one.slot (IsTwoGated k one.place two.place)) where
    pub inside_leaves_node : IsSome (mid.node c.node)
    inside_leaves_node =
        let g = gated cs no_changes start cell_one (at.first_spot).there in
        node_still cs mid (record no_changes { slots = (one.slot, g.0) ∷ [] }) c.node (g.1.0) own_present

    pub inside_prepared : (new : Cells) → ((w : NodeValues) → mid.node c.node ≡ Some w → new ≡ put_node mid c.node (record w { next = Some own })) → IsPreparedStep shape cs new (in_one_slot c None reply.Silent one.slot)
    inside_prepared new put =
        let g = gated cs no_changes start cell_one (at.first_spot).there in
        let applied = (g.1.1).applied in
        let qubits : (g.0).qubits ≡ (cell_one.register).value.qubits = ap (λ (r : RegisterState). (next_value r.next).qubits) applied.after in
        let v = vector_of (cell_one.register).value in record {
          changes = in_slot c.node own one.slot (g.0);
          after = slot_then_node shape c cs own ready mid new put one.slot (g.0) (g.1.0);
          named = named_in_slot c own None reply.Silent one.slot (g.0);
          there = all_there cs _ (own_present, (first_present, (tt, (tt, tt))));
          step = inside_done shape c cs own ready k one two at same (g.0) qubits
              (subst (λ (qs : List ℕ). IsSameState (register_vector qs (g.0).list) (two_gate k at.first at.second v)) qubits
              (same_pointwise _ _ (λ x. applied.vector x
              ∙ ap (λ (n : ℕ). two_gate k n (qubit_at (cell_one.register).value two.place) v x) (at.first_spot).number
              ∙ ap (λ (n : ℕ). two_gate k at.first n v x) (ap (λ (w : SlotCell). qubit_at w.register.value two.place) cells_same ∙ (at.second_spot).number))));
        }
      where
        cells_same : cell_one ≡ cell_two
        cells_same = some_same cell_one cell_two (sym (at.first_spot).there ∙ ap cs.slot same ∙ (at.second_spot).there)

  -- ---- refused
  module _ (differ : one.slot ≢ two.slot) (mid : Cells) (first : HasPrepared cs mid one.slot IsSame) where
    one_kept : (a : Amplitudes) × ((mid ≡ changed cs (record no_changes { slots = (one.slot, a) ∷ [] })) × (a ≡ (cell_one.register).value))
    one_kept =
        let f = first cs no_changes start cell_one (at.first_spot).there in
        (f.0, (f.1.0, ap (λ (r : RegisterState). next_value r.next) (f.1.1)))

    pub second_there : IsSome (mid.slot two.slot)
    second_there = slot_still cs mid (record no_changes { slots = (one.slot, one_kept.0) ∷ [] }) two.slot (one_kept.1.0) (some_there (cs.slot two.slot) cell_two (at.second_spot).there)

    module _ (late : Cells) (second : HasPrepared mid late two.slot IsSame) where
      both_kept : (b : Amplitudes) × ((late ≡ changed cs (record no_changes { slots = (two.slot, b) ∷ (one.slot, one_kept.0) ∷ [] })) × (b ≡ (cell_two.register).value))
      both_kept =
          let f = second cs (record no_changes { slots = (one.slot, one_kept.0) ∷ [] }) (one_kept.1.0) cell_two (at.second_spot).there in
          (f.0, (f.1.0, ap (λ (r : RegisterState). next_value r.next) (f.1.1)))

      pub apart_leaves_node : IsSome (late.node c.node)
      apart_leaves_node = node_still cs late (record no_changes { slots = (two.slot, both_kept.0) ∷ (one.slot, one_kept.0) ∷ [] }) c.node (both_kept.1.0) own_present

      pub apart_prepared : (new : Cells) → ((w : NodeValues) → late.node c.node ≡ Some w → new ≡ put_node late c.node (record w { next = Some own }))
          → ((x y : SlotCell) → cs.slot one.slot ≡ Some x → cs.slot two.slot ≡ Some y → IsTooBig x.register y.register)
          → IsPreparedStep shape cs new (in_two_slots c (reply.Error General) false one.slot two.slot)
      apart_prepared new put big = record {
        changes = in_slots c.node own None one.slot (one_kept.0) two.slot (both_kept.0);
        after = node_prepared cs late new (record no_changes { slots = (two.slot, both_kept.0) ∷ (one.slot, one_kept.0) ∷ [] }) c.node own (both_kept.1.0) own_present put;
        named = named_in_slots c own (reply.Error General) None one.slot (one_kept.0) two.slot (both_kept.0);
        there = all_there cs _ (own_present, (first_present, (second_present, (tt, tt))));
        step = let is = big cell_one cell_two (at.first_spot).there (at.second_spot).there in by is.verdict is.is is.refuses;
      }
        where
          limit_is : (cell_one.register).limit ≡ shape.limit
          limit_is = let h = ready.opened.stands in ((h.fit).slots one.slot cell_one (at.first_spot).there).limit

          by : (v : Merge) → IsVerdict v cell_one.register cell_two.register → v ≢ Fits
              → IsStepBy shape cs (in_slots c.node own None one.slot (one_kept.0) two.slot (both_kept.0)) (said c (reply.Error General))
          by Fits is other = absurd (other refl)
          by (TooMany n) is other =
              too_many shape c cs own ready k one two at differ
              (subst (λ (m : ℕ). shape.limit < m) is.sum (subst (λ (l : ℕ). l < n) limit_is is.above)) (one_kept.0) (both_kept.0) (one_kept.1.1) (both_kept.1.1)
          by (TooLarge size) is other =
              too_large shape c cs own ready k one two at differ
              (subst (λ (l : ℕ). length ((cell_one.register).value).qubits + length ((cell_two.register).value).qubits ≤ l) limit_is is.room) (nat_abs size) is.least (large_bound size is.large)
              (one_kept.0) (both_kept.0) (one_kept.1.1) (both_kept.1.1)

  -- ---- two registers become one
  module _ (differ : one.slot ≢ two.slot) (b : Cells) (e : b ≡ cs) (mid : Cells) (merged : (y : SlotCell) → b.slot two.slot ≡ Some y → HasPrepared b mid one.slot (IsJoined y.register)) where
    abbrev with_one : Amplitudes → Changes
    with_one m = record no_changes { slots = (one.slot, m) ∷ [] }

    product_is : (m : Amplitudes) × ((mid ≡ changed cs (with_one m)) × IsJoined cell_two.register (with_next_slot None cell_one).register (with_next_slot (Some m) cell_one).register)
    product_is = merged cell_two (ap (λ (c : Cells). c.slot two.slot) e ∙ (at.second_spot).there) cs no_changes (e ∙ start) cell_one (at.first_spot).there

    abbrev m : Amplitudes
    m = product_is.0

    product_qubits : m.qubits ≡ (cell_one.register).value.qubits ++ (cell_two.register).value.qubits
    product_qubits = ap (λ (r : RegisterState). (next_value r.next).qubits) (((product_is.1.1).merged).after)

    pub product_there : IsSome (mid.slot one.slot)
    product_there = slot_still cs mid (with_one m) one.slot (product_is.1.0) (some_there (cs.slot one.slot) cell_one (at.first_spot).there)

    product_cell : (w : SlotCell) → mid.slot one.slot ≡ Some w → w ≡ with_next_slot (Some m) cell_one
    product_cell w is =
        some_same w (with_next_slot (Some m) cell_one)
        (sym is ∙ ap (λ (c : Cells). c.slot one.slot) (product_is.1.0) ∙ changed-slot_at cs (with_one m) one.slot cell_one (at.first_spot).there ∙ ap (λ o. Some (with_next_slot o cell_one)) (own_change one.slot m []))

    within_both : (n i j k : ℕ) → n ≡ i + j → k < j → i + k < n
    within_both n i j k e h = omega arith

    within_first : (n i j k : ℕ) → n ≡ i + j → k < i → k < n
    within_first n i j k e h = omega arith

    pub product_places : (count : ℕ) → count ≡ length ((cell_one.register).value).qubits → (w : SlotCell) → mid.slot one.slot ≡ Some w
        → (one.place < length (source w.register).qubits) × (count + two.place < length (source w.register).qubits)
    product_places count counted w is =
        let long : length (source w.register).qubits ≡ length ((cell_one.register).value).qubits + length ((cell_two.register).value).qubits =
        ap (λ (v : SlotCell). length (source v.register).qubits) (product_cell w is) ∙ ap length product_qubits ∙ length-append ((cell_one.register).value).qubits ((cell_two.register).value).qubits in (
          within_first _ _ _ one.place long (at.first_spot).within,
          subst (λ (n : ℕ). n + two.place < length (source w.register).qubits) (sym counted) (within_both _ _ _ two.place long (at.second_spot).within),
        )

    module _ (count : ℕ) (counted : count ≡ length ((cell_one.register).value).qubits) (late : Cells) (gated : HasPrepared mid late one.slot (IsTwoGated k one.place (count + two.place))) where
      gated_is : (a : Amplitudes) × ((late ≡ changed cs (with_one a)) × IsTwoGated k one.place (count + two.place) (with_next_slot (Some m) cell_one).register (with_next_slot (Some a) cell_one).register)
      gated_is =
          let g = gated cs (with_one m) (product_is.1.0) cell_one (at.first_spot).there in (
            g.0,
            (
              g.1.0 ∙ changed-slots cs (record no_changes { slots = (one.slot, g.0) ∷ (one.slot, m) ∷ [] }) ((one.slot, g.0) ∷ []) (hidden one.slot (g.0) m []),
              subst (λ o. IsTwoGated k one.place (count + two.place) (with_next_slot o cell_one).register (with_next_slot (Some (g.0)) cell_one).register) (own_change one.slot m []) (g.1.1),
            ),
          )

      abbrev a : Amplitudes
      a = gated_is.0

      pub other_there : IsSome (late.slot two.slot)
      other_there = slot_still cs late (with_one a) two.slot (gated_is.1.0) (some_there (cs.slot two.slot) cell_two (at.second_spot).there)

      module _ (last : Cells) (emptied : HasPrepared late last two.slot (IsPreparedAs no_qubit)) where
        abbrev with_both : Option Pool → Changes
        with_both o = record { nodes = []; pool = o; slots = (two.slot, no_qubit) ∷ (one.slot, a) ∷ [] }

        emptied_is : last ≡ changed cs (with_both None)
        emptied_is =
            let f = emptied cs (with_one a) (gated_is.1.0) cell_two (at.second_spot).there in
            f.1.0 ∙ ap (λ (v : Amplitudes). changed cs (record no_changes { slots = (two.slot, v) ∷ (one.slot, a) ∷ [] })) (ap (λ (r : RegisterState). next_value r.next) (f.1.1))

        module _ (w : PoolPair) (there : cs.pool ≡ Some w) where
          pub pool_there : IsSome last.pool
          pool_there = pool_still cs last (with_both None) emptied_is (some_there cs.pool w there)

          module _ (p : Pool) (freed : IsSlotFreed two.slot w.now p) (pooled : Cells) (put : (v : PoolPair) → last.pool ≡ Some v → pooled ≡ put_pool last (record v { next = Some p })) where
            pooled_is : pooled ≡ changed cs (with_both (Some p))
            pooled_is = pool_prepared cs last pooled (with_both None) p emptied_is (some_there cs.pool w there) put

            pub joined_leaves_node : IsSome (pooled.node c.node)
            joined_leaves_node = node_still cs pooled (with_both (Some p)) c.node pooled_is own_present

            second_place : qubit_at m (count + two.place) ≡ at.second
            second_place =
                ap (λ (qs : List ℕ). slice_index_or qs (count + two.place) 0) product_qubits
                ∙ ap (λ (n : ℕ). slice_index_or ((cell_one.register).value.qubits ++ (cell_two.register).value.qubits) (n + two.place) 0) counted
                ∙ behind ((cell_one.register).value.qubits) ((cell_two.register).value.qubits) two.place ∙ (at.second_spot).number

            first_place : qubit_at m one.place ≡ at.first
            first_place =
                ap (λ (qs : List ℕ). slice_index_or qs one.place 0) product_qubits
                ∙ before ((cell_one.register).value.qubits) ((cell_two.register).value.qubits) one.place (at.first_spot).within ∙ (at.first_spot).number

            pub joined_prepared : ((x y : SlotCell) → cs.slot one.slot ≡ Some x → cs.slot two.slot ≡ Some y → AreMergeable x.register y.register)
                → (new : Cells) → ((v : NodeValues) → pooled.node c.node ≡ Some v → new ≡ put_node pooled c.node (record v { next = Some own }))
                → IsPreparedStep shape cs new (in_two_slots c reply.Silent true one.slot two.slot)
            joined_prepared fits new put_own =
                let can = (fits cell_one cell_two (at.first_spot).there (at.second_spot).there).fits in
                let joined = (product_is.1.1).merged in
                let applied = (gated_is.1.1).applied in
                let h = ready.opened.stands in
                let limit_is : (cell_one.register).limit ≡ shape.limit = ((h.fit).slots one.slot cell_one (at.first_spot).there).limit in
                let qubits_a : a.qubits ≡ m.qubits = ap (λ (r : RegisterState). (next_value r.next).qubits) applied.after in
                let v = vector_of m in record {
                  changes = in_slots c.node own (Some p) one.slot a two.slot no_qubit;
                  after = node_prepared cs pooled new (with_both (Some p)) c.node own pooled_is own_present put_own;
                  named = named_in_slots c own reply.Silent (Some p) one.slot a two.slot no_qubit;
                  there = all_there cs _ (own_present, (first_present, (second_present, (some_there cs.pool w there, tt))));
                  step = joined_done shape c cs own ready k one two at differ
                      (subst (λ (l : ℕ). length ((cell_one.register).value).qubits + length ((cell_two.register).value).qubits ≤ l) limit_is can.room) can.size can.least can.small
                      w there p freed m a product_qubits (qubits_a ∙ product_qubits)
                      (subst (λ (qs : List ℕ). IsSameState (register_vector qs m.list) (product_over (both_parts (register_of cell_one.register) (register_of cell_two.register)))) product_qubits joined.same)
                      (subst (λ (qs : List ℕ). IsSameState (register_vector qs a.list) (two_gate k at.first at.second (register_vector qs m.list))) product_qubits
                      (subst (λ (qs : List ℕ). IsSameState (register_vector qs a.list) (two_gate k at.first at.second v)) qubits_a
                      (same_pointwise _ _ (λ x. applied.vector x ∙ ap (λ (n : ℕ). two_gate k n (qubit_at m (count + two.place)) v x) first_place ∙ ap (λ (n : ℕ). two_gate k at.first n v x) second_place))));
                }
