-- A new pair, prepared in the least free slot, one half held and the other the last arrival of another node, is the step of the call.
use Rattle.std.proofs.Common.{ℕ, ◌≡◌, ◌≢◌, ◌<◌, ◌≤◌, ◌==◌, true, not, ◌&&◌, ◌||◌, [], ◌∷◌, slice_get, Option, Some, None, IsSome, unwrap_or, refl, sym, ap, subst, ◌∙◌}
use Rattle.state_model.specs.Row.{is_listed}
use Rattle.state_model.specs.Amplitudes.{Amplitudes}
use Rattle.state_model.specs.Registers.{register_vector}
use Rattle.state_model.proofs.Booleans.{or_false}
use Rattle.state_model.proofs.SameStates.{same_reflexive}
use Rattle.amplitude_register.specs.States.{RegisterState, next_value, pair_state}
use Rattle.network_model.specs.declared.Kind.{Kind}
use Rattle.cqc_model.specs.declared.PairInfo.{PairInfo}
use Rattle.cqc_model.specs.declared.Remote.{Remote}
use Rattle.network_model.specs.Network.{Network, Shape}
use Rattle.network_model.specs.Kinds.{kind_of, second_of, remote_of, is_gate, is_making, is_measurement}
use Rattle.network_model.specs.Step.{holds_of, remote_node, effect, least_free, pair_info}
use Rattle.network_model.specs.History.{advance, is_error}
use Rattle.network_model.specs.Factored.{FitsNode, FitsPool, FitsSlot, touches_slot, touches_pool, used_slots, homes_step, homes_by, effect_touches_slot, effect_touches_pool}
use Rattle.network_model.specs.declared.Call.{Call}
use Rattle.network_model.specs.declared.Kind.TheVariants.{Pair}
use Rattle.network_model.specs.declared.CoreReply.TheVariants as reply
use Rattle.network_model.specs.declared.Place.{Place}
use Rattle.qubit_handles.specs.Handle.{AreDistinct}
use Rattle.virtual_node.specs.Node.{Node, load_of, held_map, arrived_map, with_handle, with_arrival}
use Rattle.epr_transfer.specs.Transfer.{handle_of, half_for, next_id}
use Rattle.cell_laws.specs.Standing.{IsStanding}
use Rattle.cell_laws.proofs.NewSlots.{pair_list}
use Rattle.cell_laws.proofs.StepSlots.{pair_step}
use Rattle.core_cells.specs.Pool.{Pool}
use Rattle.core_cells.specs.Cells.{Cells, CellsFit, put_node, put_pool}
use Rattle.core_cells.specs.Nodes.{NodeValues}
use Rattle.core_cells.specs.declared.cells.PoolPair.{PoolPair}
use Rattle.core_cells.specs.declared.cells.SlotCell.{SlotCell}
use Rattle.factored_core.specs.Changes.{Changes, changed, with_next_slot, AreNamed, IsStepBy, ChangesFit, IsPreparedStep, register_with}
use Rattle.factored_core.specs.Needs.{takes_slot, other_of}
use Rattle.factored_core.specs.Ready.{IsReady}
use Rattle.factored_core.specs.Replies.{in_new_slot}
use Rattle.factored_core.specs.Slots.{HasPrepared, IsPreparedAs}
use Rattle.factored_core.specs.Vacancies.{IsTaken, IsPairTaken, info_of}
use Rattle.factored_core.specs.declared.new_qubits.Vacancy.{Vacancy}
use Rattle.factored_core.specs.declared.new_qubits.PairVacancy.{PairVacancy}
use Rattle.core_cells.proofs.Presence.{all_there, maybe_node}
use Rattle.factored_core.proofs.Changed.{some_there, changed-slot_at, node_prepared, node_still, there_is}
use Rattle.factored_core.proofs.ChangeLists.{change_one, number_one}
use Rattle.factored_core.proofs.RefusalLines.{other_is_remote, other_within}
use Rattle.factored_core.proofs.GateSteps.{said}
use Rattle.factored_core.proofs.Legal.{done_legal}
use Rattle.factored_core.proofs.Loads.{same_load}
use Rattle.factored_core.proofs.NodeSteps.{node_paired_own, node_paired_other, reply_paired, pair_info_is}
use Rattle.factored_core.proofs.Operands.{none_refuses, own_fits}
use Rattle.factored_core.proofs.PoolSteps.{pool_pair, second_number_is, second_left}
use Rattle.factored_core.proofs.SendSteps.{other_there, other_fits}
use Rattle.factored_core.proofs.Touched.{done_touches, with_other, numbers_of, nodes_are}
use Rattle.factored_core.proofs.Vacant.{own_room, own_there, pool_there, pool_leaves_own, pool_then_own, copy_fits, slot_there, vacant_number, vacant_slot, less_numbers, less_slots}

no_some : {A : Type 0} (a : A) → None ≡ Some a → ⊥
no_some a e = cc

number_same : (m n : ℕ) → Some m ≡ Some n → m ≡ n
number_same m n e = ap (λ o. unwrap_or o n) e

same_pool : (p q : Pool) → Some p ≡ Some q → p ≡ q
same_pool p q e = ap (λ o. unwrap_or o q) e

-- a new pair takes a slot
pub pair_touches : (k : Kind) (r : Remote) → k ≡ Pair r → takes_slot k ≡ true
unfolding takes_slot is_making
pair_touches k r is = ap takes_slot is

module _ (shape : Shape) (c : Call) (cs : Cells) (own : Node) (ready : IsReady shape c cs own) (r : Remote) (is : kind_of c.command.instr ≡ Pair r)
    (other : ℕ) (there : other_of shape c ≡ Some other) (to : Node) (copied_to : (w : NodeValues) → cs.node other ≡ Some w → to ≡ w.now)
    (p : Pool) (copied : (w : PoolPair) → cs.pool ≡ Some w → p ≡ w.now) where
  touch : takes_slot (kind_of c.command.instr) ≡ true
  touch = pair_touches (kind_of c.command.instr) r is

  remote_is : remote_of (kind_of c.command.instr) ≡ Some r
  remote_is = ap remote_of is ∙ unfold remote_of in refl

  away : (remote_node shape c r ≡ other) × (other ≢ c.node)
  away = other_is_remote shape c r other remote_is there

  -- a second number is free
  pub second_free : load_of own < shape.room → AreDistinct own.handles → load_of to < shape.room → AreDistinct to.handles → (v : Vacancy) (mid : Pool) → IsTaken v p mid → (q : ℕ) × (is_listed mid.numbers q ≡ true)
  second_free room distinct room_to distinct_to v mid taken =
      let t = ready.opened.stands in (
        least_free (v.number ∷ (t.state).live),
        second_left shape t.state t.home p.numbers p.slots p.pairs (t.standing).sound (copy_fits shape c cs own ready touch p copied t.state t.home t.fit) c.node (ready.opened.allowed).node
            (own_room shape c cs own ready t.state t.home t.standing t.fit distinct room) other (other_within shape c other there) (λ e. (away.1) (sym e))
            (subst (λ (n : ℕ). n < shape.room) (sym (same_load t.state other to (other_fits shape c cs own ready other there to copied_to t.state t.home t.fit) shape (t.standing).sound distinct_to)) room_to)
            v.number mid.numbers taken.numbers,
      )

  module _ (v : PairVacancy) (after : Pool) (taken : IsPairTaken v p after) (id : ℕ) (id_is : id ≡ next_id own c.app) (info : PairInfo) (place : Place) (placed : slice_get shape.places c.node ≡ Some place) (told : info ≡ info_of place c r v.pair) where
    abbrev given : Node
    given = with_handle own (handle_of c.app id v.first.number)

    abbrev half : Node
    half = with_arrival to (half_for r.app v.second info)

    abbrev a : Amplitudes
    a = pair_state v.first.number v.second

    abbrev paired : Changes
    paired = record { nodes = with_other c.node given (Some other) half; pool = Some after; slots = (v.first.slot, a) ∷ [] }

    module _ (s : Network) (home : ℕ → ℕ) (standing : IsStanding shape s home) (fit : CellsFit shape s home cs) where
      free_fits : FitsPool shape s home p.numbers p.slots p.pairs
      free_fits = copy_fits shape c cs own ready touch p copied s home fit

      number : v.first.number ≡ least_free s.live
      number = vacant_number shape c cs own ready touch p copied v.first taken.mid taken.first s home standing fit

      slot : v.first.slot ≡ least_free (used_slots s.live home)
      slot = vacant_slot shape c cs own ready touch p copied v.first taken.mid taken.first s home standing fit

      second : v.second ≡ least_free (least_free s.live ∷ s.live)
      second =
          second_number_is shape s home p.numbers p.slots p.pairs standing.sound free_fits v.first.number (taken.mid).numbers (taken.first).numbers v.second (taken.second_least).listed (taken.second_least).least
          ∙ ap (λ n. least_free (n ∷ s.live)) number

      here : FitsNode s c.node (held_map own) (arrived_map own)
      here = own_fits shape c cs own ready s home standing fit

      info_same : info ≡ pair_info shape s c r
      info_same = told ∙ pair_info_is shape s c 0 r place v.pair placed (taken.pair ∙ free_fits.made)

      reply_is : (effect shape s c 0).reply ≡ reply.Pair id info
      reply_is = reply_paired shape s c 0 own here r is ∙ ap (λ i. reply.Pair i (pair_info shape s c r)) (sym id_is) ∙ ap (reply.Pair id) (sym info_same)

      slot_is : (t : ℕ) → effect_touches_slot s home c t (kind_of c.command.instr) ≡ (v.first.slot == t)
      slot_is t = ap (effect_touches_slot s home c t) is ∙ unfold effect_touches_slot in (ap (λ n. n == t) (sym slot))

      touches : effect_touches_pool s c (kind_of c.command.instr) ≡ true
      touches = ap (effect_touches_pool s c) is ∙ unfold effect_touches_pool is_making in refl

      pool_fits : FitsPool shape ((effect shape s c 0).state) (homes_by s home c (kind_of c.command.instr)) after.numbers after.slots after.pairs
      pool_fits =
          subst (λ (n : ℕ). FitsPool shape ((effect shape s c 0).state) (homes_by s home c (kind_of c.command.instr)) after.numbers after.slots n) (sym taken.pairs)
          (pool_pair shape s home c 0 p.numbers p.slots p.pairs standing.sound standing.housed free_fits r is (taken.mid).numbers after.numbers after.slots
          (less_numbers shape c cs own ready touch p copied v.first taken.mid taken.first s home standing fit)
          (λ q. taken.numbers q ∙ ap (λ n. is_listed (taken.mid).numbers q && not (q == n)) second)
          (λ t. ap (λ l. is_listed l t) taken.slots ∙ less_slots shape c cs own ready touch p copied v.first taken.mid taken.first s home standing fit t))

      slot_fits : FitsSlot shape ((effect shape s c 0).state) (homes_by s home c (kind_of c.command.instr)) v.first.slot (register_with shape.limit a)
      slot_fits =
          subst (λ (t : ℕ). FitsSlot shape ((effect shape s c 0).state) (homes_by s home c (kind_of c.command.instr)) t (register_with shape.limit a)) (sym slot)
          (subst (λ (n : ℕ). FitsSlot shape ((effect shape s c 0).state) (homes_by s home c (kind_of c.command.instr)) (least_free (used_slots s.live home)) (register_with shape.limit (pair_state n v.second))) (sym number)
          (subst (λ (n : ℕ). FitsSlot shape ((effect shape s c 0).state) (homes_by s home c (kind_of c.command.instr)) (least_free (used_slots s.live home)) (register_with shape.limit (pair_state (least_free s.live) n))) (sym second)
          (pair_step shape s home c standing 0 r is pair_list (same_reflexive (register_vector (least_free s.live ∷ least_free (least_free s.live ∷ s.live) ∷ []) pair_list)))))

      made : ChangesFit shape s home (said c (reply.Pair id info)) paired
      unfolding advance is_error homes_step touches_slot touches_pool
      made = record {
        nodes_touched = λ m. done_touches shape c m None (reply.Pair id info) refl ∙ ap (λ (o : Option ℕ). (c.node == m) || holds_of o (λ n. n == m)) there ∙ numbers_of c.node given (Some other) half m;
        pool_touched = touches;
        slots_touched = λ t. slot_is t ∙ sym (number_one v.first.slot a t);
        nodes = nodes_are (λ m n. FitsNode ((effect shape s c 0).state) m (held_map n) (arrived_map n)) c.node given (Some other) half
            (node_paired_own shape s c 0 own here r is (λ e. (away.1) (sym (away.0) ∙ e)) id v.first.number id_is number)
            (λ n e. subst (λ (k : ℕ). FitsNode ((effect shape s c 0).state) k (held_map half) (arrived_map half)) (number_same other n e)
            (node_paired_other shape s c 0 other to (other_fits shape c cs own ready other there to copied_to s home fit) r (away.0) (away.1) is v.second info second info_same));
        pool = λ q e. subst (λ (x : Pool). FitsPool shape ((effect shape s c 0).state) (homes_by s home c (kind_of c.command.instr)) x.numbers x.slots x.pairs) (same_pool after q e) pool_fits;
        slots = change_one (λ t b. FitsSlot shape ((effect shape s c 0).state) (homes_by s home c (kind_of c.command.instr)) t (register_with shape.limit b)) v.first.slot a slot_fits;
      }

    pair_done : IsStepBy shape cs paired (said c (reply.Pair id info))
    unfolding is_gate is_measurement second_of
    pair_done s home standing fit = (
      done_legal shape s c (Pair r) is refl refl ready.opened.range ready.opened.allowed (none_refuses shape c cs own ready s home standing fit (ap second_of is)) (reply.Pair id info) (sym (reply_is s home standing fit)),
      made s home standing fit,
    )

    named_pair : AreNamed (in_new_slot c (reply.Pair id info) (Some other) v.first.slot) paired
    named_pair = record {
      nodes = λ m. ap (λ b. (c.node == m) || b) (maybe_node (Some other) m) ∙ numbers_of c.node given (Some other) half m;
      pool = refl;
      slots = λ u. or_false (v.first.slot == u) ∙ sym (number_one v.first.slot a u);
    }

    -- ---- on the board
    module _ (before one : Cells) (same : before ≡ cs) (put_pool_one : (w : PoolPair) → before.pool ≡ Some w → one ≡ put_pool before (record w { next = Some after })) where
      pub pair_leaves_own : IsSome (one.node c.node)
      pair_leaves_own = pool_leaves_own shape c cs own ready touch before one same after put_pool_one

      module _ (two : Cells) (next : Node) (next_is : next ≡ given) (put_own : (w : NodeValues) → one.node c.node ≡ Some w → two ≡ put_node one c.node (record w { next = Some next })) where
        abbrev first_half : Changes
        first_half = record { nodes = (c.node, given) ∷ []; pool = Some after; slots = [] }

        held : two ≡ changed cs first_half
        held = pool_then_own shape c cs own ready touch before one same after put_pool_one two given next next_is put_own

        pub pair_leaves_other : IsSome (two.node other)
        pair_leaves_other = node_still cs two first_half other held (other_there shape c cs own ready other there)

        module _ (three : Cells) (arrived : Node) (arrived_is : arrived ≡ half) (put_other : (w : NodeValues) → two.node other ≡ Some w → three ≡ put_node two other (record w { next = Some arrived })) where
          abbrev halves : Changes
          halves = record { nodes = with_other c.node given (Some other) half; pool = Some after; slots = [] }

          shared : three ≡ changed cs halves
          shared = node_prepared cs two three first_half other half held (other_there shape c cs own ready other there)
              (λ w e. put_other w e ∙ ap (λ (n : Node). put_node two other (record w { next = Some n })) arrived_is)

          slot_is_there : (w : SlotCell) × (cs.slot v.first.slot ≡ Some w)
          slot_is_there = there_is (cs.slot v.first.slot) (slot_there shape c cs own ready touch p copied v.first taken.mid taken.first)

          pub pair_leaves_slot : 2 ≤ shape.limit → (w : SlotCell) × (three.slot v.first.slot ≡ Some w) × (2 ≤ w.register.limit)
          pair_leaves_slot limit =
              let w = slot_is_there in
              let t = ready.opened.stands in (
                with_next_slot None (w.0),
                ap (λ (d : Cells). d.slot v.first.slot) shared ∙ changed-slot_at cs halves v.first.slot (w.0) (w.1),
                subst (λ (n : ℕ). 2 ≤ n) (sym ((t.fit).slots v.first.slot (w.0) (w.1)).limit) limit,
              )

          pub pair_prepared : (new : Cells) → HasPrepared three new v.first.slot (IsPreparedAs a) → IsPreparedStep shape cs new (in_new_slot c (reply.Pair id info) (Some other) v.first.slot)
          pair_prepared new h =
              let w = slot_is_there in
              let k = h cs halves shared (w.0) (w.1) in record {
                changes = paired;
                after =
                    k.1.0 ∙ ap (λ (b : Amplitudes). changed cs (record { nodes = with_other c.node given (Some other) half; pool = Some after; slots = (v.first.slot, b) ∷ [] }))
                    (ap (λ (x : RegisterState). next_value x.next) (k.1.1));
                named = named_pair;
                there = all_there cs _ (
                  own_there shape c cs own ready,
                  (some_there (cs.slot v.first.slot) (w.0) (w.1), (pool_there shape c cs own ready touch, (other_there shape c cs own ready other there, tt))),
                );
                step = pair_done;
              }
