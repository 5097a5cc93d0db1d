-- The instruction that does nothing to its qubit, prepared in the qubit's slot, is the step of the call.
use Rattle.std.proofs.Common.{ℕ, ◌≡◌, ◌==◌, false, [], ◌∷◌, Some, None, IsSome, refl, sym, ap, subst, ◌∙◌}
use Rattle.state_model.specs.Amplitudes.{Amplitudes}
use Rattle.amplitude_register.specs.States.{RegisterState, next_value}
use Rattle.network_model.specs.Network.{Network, Shape}
use Rattle.network_model.specs.Kinds.{kind_of, second_of, remote_of, is_gate, is_making, is_measurement}
use Rattle.network_model.specs.Step.{own_number, effect, effect_of, quiet}
use Rattle.network_model.specs.History.{advance, is_error}
use Rattle.network_model.specs.Factored.{FitsNode, FitsSlot, touches_slot, touches_pool, homes_step, homes_by, operand_in_slot, effect_touches_slot, effect_touches_pool}
use Rattle.network_model.specs.declared.Call.{Call}
use Rattle.network_model.specs.declared.Kind.TheVariants.{Idle}
use Rattle.network_model.specs.declared.CoreReply.TheVariants as reply
use Rattle.qubit_handles.specs.Handle.{number_of}
use Rattle.virtual_node.specs.Node.{Node, held_map, arrived_map}
use Rattle.cell_laws.specs.Standing.{IsStanding}
use Rattle.core_cells.specs.Cells.{Cells, CellsFit, put_node}
use Rattle.core_cells.specs.Nodes.{NodeValues}
use Rattle.factored_core.specs.Changes.{no_changes, IsStepBy, ChangesFit, IsPreparedStep, register_with}
use Rattle.factored_core.specs.Ready.{IsReady}
use Rattle.factored_core.specs.Replies.{in_one_slot}
use Rattle.factored_core.specs.Slots.{IsSpot, HasPrepared, IsSame}
use Rattle.factored_core.specs.declared.slots.Spot.{Spot}
use Rattle.factored_core.proofs.Changed.{changed-none, node_still, some_there}
use Rattle.factored_core.proofs.ChangeLists.{change_one, number_one}
use Rattle.factored_core.proofs.Locals.{own_touched}
use Rattle.core_cells.proofs.Presence.{all_there}
use Rattle.factored_core.proofs.Operands.{none_refuses, own_fits, own_number_is, spot_home}
use Rattle.factored_core.proofs.Legal.{done_legal}
use Rattle.factored_core.proofs.GateSteps.{in_slot, said}
use Rattle.factored_core.proofs.GateActs.{named_in_slot, slot_then_node}

module _ (shape : Shape) (c : Call) (cs : Cells) (own : Node) (ready : IsReady shape c cs own) (q : ℕ) (held : number_of own.handles c.app c.command.qubit ≡ Some q)
    (spot : Spot) (at : IsSpot cs q spot) (is : kind_of c.command.instr ≡ Idle) where
  local : remote_of (kind_of c.command.instr) ≡ None
  local = ap remote_of is ∙ unfold remote_of in refl

  no_some : {A : Type 0} (p : A) → None ≡ Some p → ⊥
  no_some p e = cc

  module _ (s : Network) (home : ℕ → ℕ) (standing : IsStanding shape s home) (fit : CellsFit shape s home cs) where
    stays : (effect shape s c 0).state ≡ s
    unfolding effect
    stays = ap (λ k. (effect_of shape s c 0 k).state) is ∙ unfold effect_of quiet in refl

    reply_is : (effect shape s c 0).reply ≡ reply.Silent
    unfolding effect
    reply_is = ap (λ k. (effect_of shape s c 0 k).reply) is ∙ unfold effect_of quiet in refl

    homes_stay : homes_by s home c (kind_of c.command.instr) ≡ home
    homes_stay = ap (homes_by s home c) is ∙ unfold homes_by in refl

    slot_is : (t : ℕ) → effect_touches_slot s home c t (kind_of c.command.instr) ≡ (home (own_number s c) == t)
    slot_is t = ap (effect_touches_slot s home c t) is ∙ unfold effect_touches_slot operand_in_slot in refl

    pool_is : effect_touches_pool s c (kind_of c.command.instr) ≡ false
    pool_is = ap (effect_touches_pool s c) is ∙ unfold effect_touches_pool is_making is_measurement in refl

    at_slot : home (own_number s c) ≡ spot.slot
    at_slot = ap home (own_number_is shape c cs own ready s home standing fit q held) ∙ spot_home shape c cs own ready s home standing fit q spot at

    kept : (a : Amplitudes) → a ≡ ((at.cell).register).value → ChangesFit shape s home (said c reply.Silent) (in_slot c.node own spot.slot a)
    unfolding advance is_error homes_step touches_slot touches_pool
    kept a same = record {
      nodes_touched = own_touched shape c own None reply.Silent local;
      pool_touched = pool_is;
      slots_touched = λ t. slot_is t ∙ ap (λ n. n == t) at_slot ∙ sym (number_one spot.slot a t);
      nodes = change_one (λ m n. FitsNode ((effect shape s c 0).state) m (held_map n) (arrived_map n)) c.node own
          (subst (λ (t : Network). FitsNode t c.node (held_map own) (arrived_map own)) (sym stays) (own_fits shape c cs own ready s home standing fit));
      pool = λ p e. absurd (no_some p e);
      slots = change_one (λ t b. FitsSlot shape ((effect shape s c 0).state) (homes_by s home c (kind_of c.command.instr)) t (register_with shape.limit b)) spot.slot a
          (subst (λ (t : Network). FitsSlot shape t (homes_by s home c (kind_of c.command.instr)) spot.slot (register_with shape.limit a)) (sym stays)
          (subst (λ (h : ℕ → ℕ). FitsSlot shape s h spot.slot (register_with shape.limit a)) (sym homes_stay)
          (subst (λ (b : Amplitudes). FitsSlot shape s home spot.slot (register_with shape.limit b)) (sym same)
          (subst (λ (l : ℕ). FitsSlot shape s home spot.slot (register_with l ((at.cell).register).value)) (fit.slots spot.slot at.cell at.there).limit (fit.slots spot.slot at.cell at.there)))));
    }

  idle_done : (a : Amplitudes) → a ≡ ((at.cell).register).value → IsStepBy shape cs (in_slot c.node own spot.slot a) (said c reply.Silent)
  unfolding is_gate is_measurement second_of
  idle_done a same s home standing fit = (
    done_legal shape s c Idle is refl refl ready.opened.range ready.opened.allowed (none_refuses shape c cs own ready s home standing fit (ap second_of is)) reply.Silent (sym (reply_is s home standing fit)),
    kept s home standing fit a same,
  )

  pub idle_prepared : (before mid new : Cells) → before ≡ cs → HasPrepared before mid spot.slot IsSame → ((w : NodeValues) → mid.node c.node ≡ Some w → new ≡ put_node mid c.node (record w { next = Some own }))
      → IsPreparedStep shape cs new (in_one_slot c None reply.Silent spot.slot)
  idle_prepared before mid new e h put =
      let k = h cs no_changes (e ∙ changed-none cs ready.opened.unprepared) at.cell at.there in record {
        changes = in_slot c.node own spot.slot (k.0);
        after = slot_then_node shape c cs own ready mid new put spot.slot (k.0) (k.1.0);
        named = named_in_slot c own None reply.Silent spot.slot (k.0);
        there = let n = ready.opened.has in all_there cs _ (some_there (cs.node c.node) n.own n.own_there, (some_there (cs.slot spot.slot) at.cell at.there, (tt, (tt, tt))));
        step = idle_done (k.0) (ap (λ (r : RegisterState). next_value r.next) (k.1.1));
      }

  pub idle_leaves_node : (before mid : Cells) → before ≡ cs → HasPrepared before mid spot.slot IsSame → IsSome (mid.node c.node)
  idle_leaves_node before mid e h =
      let k = h cs no_changes (e ∙ changed-none cs ready.opened.unprepared) at.cell at.there in
      let n = ready.opened.has in node_still cs mid (record no_changes { slots = (spot.slot, k.0) ∷ [] }) c.node (k.1.0) (some_there (cs.node c.node) n.own n.own_there)
