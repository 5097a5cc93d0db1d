-- A new qubit, prepared in the least free slot and held under the least id, is the step of the call.
use Rattle.std.proofs.Common.{ℕ, ◌≡◌, ◌==◌, true, false, [], ◌∷◌, Some, None, IsSome, unwrap_or, refl, sym, ap, subst, ◌∙◌}
use Rattle.state_model.specs.Amplitudes.{Amplitudes}
use Rattle.state_model.specs.Registers.{register_vector}
use Rattle.state_model.proofs.Booleans.{or_false}
use Rattle.state_model.proofs.SameStates.{same_reflexive}
use Rattle.amplitude_register.specs.States.{RegisterState, next_value, basis_state}
use Rattle.network_model.specs.declared.Kind.{Kind}
use Rattle.network_model.specs.Network.{Network, Shape}
use Rattle.network_model.specs.Kinds.{kind_of, second_of, remote_of, is_gate, is_making, is_measurement}
use Rattle.network_model.specs.Step.{effect, least_free}
use Rattle.network_model.specs.History.{advance, is_error}
use Rattle.network_model.specs.Factored.{FitsNode, FitsPool, FitsSlot, touches_slot, touches_pool, used_slots, homes_step, homes_by, effect_touches_slot, effect_touches_pool}
use Rattle.network_model.specs.declared.Call.{Call}
use Rattle.network_model.specs.declared.Kind.TheVariants.{Make}
use Rattle.network_model.specs.declared.CoreReply.TheVariants as reply
use Rattle.virtual_node.specs.Node.{Node, held_map, arrived_map, with_handle}
use Rattle.epr_transfer.specs.Transfer.{handle_of, next_id}
use Rattle.cell_laws.specs.Standing.{IsStanding}
use Rattle.cell_laws.proofs.MeasuredSlots.{basis_list}
use Rattle.cell_laws.proofs.StepSlots.{new_step}
use Rattle.core_cells.specs.Pool.{Pool}
use Rattle.core_cells.specs.Cells.{Cells, CellsFit, put_node, put_pool}
use Rattle.core_cells.specs.Nodes.{NodeValues}
use Rattle.core_cells.specs.declared.cells.PoolPair.{PoolPair}
use Rattle.factored_core.specs.Changes.{Changes, changed, AreNamed, IsStepBy, ChangesFit, IsPreparedStep, register_with}
use Rattle.factored_core.specs.Needs.{takes_slot}
use Rattle.factored_core.specs.Ready.{IsReady}
use Rattle.factored_core.specs.Replies.{in_new_slot}
use Rattle.factored_core.specs.Slots.{HasPrepared, IsPreparedAs}
use Rattle.factored_core.specs.Vacancies.{IsTaken}
use Rattle.factored_core.specs.declared.new_qubits.Vacancy.{Vacancy}
use Rattle.core_cells.proofs.Presence.{all_there}
use Rattle.factored_core.proofs.Changed.{slot_still, there_is}
use Rattle.factored_core.proofs.ChangeLists.{change_one, number_one}
use Rattle.factored_core.proofs.GateSteps.{said}
use Rattle.factored_core.proofs.Legal.{done_legal}
use Rattle.factored_core.proofs.Locals.{own_touched}
use Rattle.factored_core.proofs.NodeSteps.{node_new, reply_new}
use Rattle.factored_core.proofs.Operands.{none_refuses, own_fits}
use Rattle.factored_core.proofs.PoolSteps.{pool_new}
use Rattle.factored_core.proofs.Vacant.{slot_from_pool, own_there, pool_leaves_own, pool_then_own, copy_fits, slot_there, vacant_number, vacant_slot, less_numbers, less_slots}

no_some : {A : Type 0} (a : A) → None ≡ Some a → ⊥
no_some a e = cc

same_pool : (p q : Pool) → Some p ≡ Some q → p ≡ q
same_pool p q e = ap (λ o. unwrap_or o q) e

-- a new qubit takes a slot
pub new_touches : (k : Kind) → k ≡ Make → takes_slot k ≡ true
unfolding takes_slot is_making
new_touches k is = ap takes_slot is

-- the own node's value, the pool's and a slot's
abbrev pub in_slot_with_pool : ℕ → Node → Pool → ℕ → Amplitudes → Changes
in_slot_with_pool node own p t a = record { nodes = (node, own) ∷ []; pool = Some p; slots = (t, a) ∷ [] }

module _ (shape : Shape) (c : Call) (cs : Cells) (own : Node) (ready : IsReady shape c cs own) (is : kind_of c.command.instr ≡ Make)
    (p : Pool) (copied : (w : PoolPair) → cs.pool ≡ Some w → p ≡ w.now) (v : Vacancy) (after : Pool) (taken : IsTaken v p after) (id : ℕ) (id_is : id ≡ next_id own c.app) where
  touch : takes_slot (kind_of c.command.instr) ≡ true
  touch = new_touches (kind_of c.command.instr) is

  abbrev given : Node
  given = with_handle own (handle_of c.app id v.number)

  abbrev a : Amplitudes
  a = basis_state v.number false

  local : remote_of (kind_of c.command.instr) ≡ None
  local = ap remote_of is ∙ unfold remote_of in refl

  module _ (s : Network) (home : ℕ → ℕ) (standing : IsStanding shape s home) (fit : CellsFit shape s home cs) where
    number : v.number ≡ least_free s.live
    number = vacant_number shape c cs own ready touch p copied v after taken s home standing fit

    slot : v.slot ≡ least_free (used_slots s.live home)
    slot = vacant_slot shape c cs own ready touch p copied v after taken s home standing fit

    here : FitsNode s c.node (held_map own) (arrived_map own)
    here = own_fits shape c cs own ready s home standing fit

    reply_is : (effect shape s c 0).reply ≡ reply.New id
    reply_is = reply_new shape s c 0 own here is ∙ ap reply.New (sym id_is)

    slot_is : (t : ℕ) → effect_touches_slot s home c t (kind_of c.command.instr) ≡ (v.slot == t)
    slot_is t = ap (effect_touches_slot s home c t) is ∙ unfold effect_touches_slot in (ap (λ n. n == t) (sym slot))

    touches : effect_touches_pool s c (kind_of c.command.instr) ≡ true
    touches = ap (effect_touches_pool s c) is ∙ unfold effect_touches_pool is_making in refl

    pool_fits : FitsPool shape ((effect shape s c 0).state) (homes_by s home c (kind_of c.command.instr)) after.numbers after.slots after.pairs
    pool_fits =
        subst (λ (n : ℕ). FitsPool shape ((effect shape s c 0).state) (homes_by s home c (kind_of c.command.instr)) after.numbers after.slots n) (sym taken.pairs)
        (pool_new shape s home c 0 p.numbers p.slots p.pairs standing.sound standing.housed (copy_fits shape c cs own ready touch p copied s home fit) is after.numbers after.slots
        (less_numbers shape c cs own ready touch p copied v after taken s home standing fit) (less_slots shape c cs own ready touch p copied v after taken s home standing fit))

    slot_fits : FitsSlot shape ((effect shape s c 0).state) (homes_by s home c (kind_of c.command.instr)) v.slot (register_with shape.limit a)
    slot_fits =
        subst (λ (t : ℕ). FitsSlot shape ((effect shape s c 0).state) (homes_by s home c (kind_of c.command.instr)) t (register_with shape.limit a)) (sym slot)
        (subst (λ (n : ℕ). FitsSlot shape ((effect shape s c 0).state) (homes_by s home c (kind_of c.command.instr)) (least_free (used_slots s.live home)) (register_with shape.limit (basis_state n false))) (sym number)
        (new_step shape s home c standing 0 is (basis_list false) (same_reflexive (register_vector (least_free s.live ∷ []) (basis_list false)))))

    made : ChangesFit shape s home (said c (reply.New id)) (in_slot_with_pool c.node given after v.slot a)
    unfolding advance is_error homes_step touches_slot touches_pool
    made = record {
      nodes_touched = own_touched shape c given None (reply.New id) local;
      pool_touched = touches;
      slots_touched = λ t. slot_is t ∙ sym (number_one v.slot a t);
      nodes = change_one (λ m n. FitsNode ((effect shape s c 0).state) m (held_map n) (arrived_map n)) c.node given
          (node_new shape s c 0 own here is id v.number id_is number);
      pool = λ q e. subst (λ (x : Pool). FitsPool shape ((effect shape s c 0).state) (homes_by s home c (kind_of c.command.instr)) x.numbers x.slots x.pairs) (same_pool after q e) pool_fits;
      slots = change_one (λ t b. FitsSlot shape ((effect shape s c 0).state) (homes_by s home c (kind_of c.command.instr)) t (register_with shape.limit b)) v.slot a slot_fits;
    }

  new_done : IsStepBy shape cs (in_slot_with_pool c.node given after v.slot a) (said c (reply.New id))
  unfolding is_gate is_measurement second_of
  new_done s home standing fit = (
    done_legal shape s c Make is refl refl ready.opened.range ready.opened.allowed (none_refuses shape c cs own ready s home standing fit (ap second_of is)) (reply.New id) (sym (reply_is s home standing fit)),
    made s home standing fit,
  )

  named_new : AreNamed (in_new_slot c (reply.New id) None v.slot) (in_slot_with_pool c.node given after v.slot a)
  named_new = record {
    nodes = λ m. or_false (c.node == m) ∙ sym (number_one c.node given m);
    pool = refl;
    slots = λ u. or_false (v.slot == u) ∙ sym (number_one v.slot a u);
  }

  -- ---- on the board
  module _ (before one : Cells) (same : before ≡ cs) (put_one : (w : PoolPair) → before.pool ≡ Some w → one ≡ put_pool before (record w { next = Some after })) where
    pub new_leaves_node : IsSome (one.node c.node)
    new_leaves_node = pool_leaves_own shape c cs own ready touch before one same after put_one

    module _ (two : Cells) (next : Node) (next_is : next ≡ given) (put_two : (w : NodeValues) → one.node c.node ≡ Some w → two ≡ put_node one c.node (record w { next = Some next })) where
      abbrev half : Changes
      half = record { nodes = (c.node, given) ∷ []; pool = Some after; slots = [] }

      both : two ≡ changed cs half
      both = pool_then_own shape c cs own ready touch before one same after put_one two given next next_is put_two

      pub new_leaves_slot : IsSome (two.slot v.slot)
      new_leaves_slot = slot_still cs two half v.slot both (slot_there shape c cs own ready touch p copied v after taken)

      pub new_prepared : (new : Cells) → HasPrepared two new v.slot (IsPreparedAs a) → IsPreparedStep shape cs new (in_new_slot c (reply.New id) None v.slot)
      new_prepared new h =
          let w = there_is (cs.slot v.slot) (slot_there shape c cs own ready touch p copied v after taken) in
          let k = h cs half both (w.0) (w.1) in record {
            changes = in_slot_with_pool c.node given after v.slot a;
            after = k.1.0 ∙ ap (λ (b : Amplitudes). changed cs (in_slot_with_pool c.node given after v.slot b)) (ap (λ (r : RegisterState). next_value r.next) (k.1.1));
            named = named_new;
            there = all_there cs _ (own_there shape c cs own ready, (slot_there shape c cs own ready touch p copied v after taken, (let h = ready.opened.has in h.pool (slot_from_pool (kind_of c.command.instr) touch), (tt, tt))));
            step = new_done;
          }
