-- A qubit that is sent goes from its holder's handles to the end of the other node's queue, and that is the step of the call.
use Rattle.std.proofs.Common.{ℕ, ◌≡◌, ◌≢◌, ◌==◌, false, ◌||◌, Option, Some, None, IsSome, unwrap_or, refl, sym, ap, subst, ◌∙◌}
use Rattle.std.specs.Prelude.{IsSomeAnd}
use Rattle.cqc_model.specs.declared.Remote.{Remote}
use Rattle.network_model.specs.Network.{Network, Shape}
use Rattle.network_model.specs.Kinds.{kind_of, second_of, remote_of, is_gate, is_making, is_measurement}
use Rattle.network_model.specs.Step.{holds_of, remote_node, effect, effect_of, quiet}
use Rattle.network_model.specs.History.{advance, is_error}
use Rattle.network_model.specs.Factored.{FitsNode, touches_slot, touches_pool, homes_step, effect_touches_slot, effect_touches_pool}
use Rattle.network_model.specs.declared.Call.{Call}
use Rattle.network_model.specs.declared.Kind.TheVariants.{Send}
use Rattle.network_model.specs.declared.CoreReply.TheVariants as reply
use Rattle.qubit_handles.specs.Handle.{number_of}
use Rattle.virtual_node.specs.Node.{Node, held_map, arrived_map, without_held, with_arrival}
use Rattle.epr_transfer.specs.Transfer.{sent_to}
use Rattle.cell_laws.specs.Standing.{IsStanding}
use Rattle.core_cells.specs.Cells.{Cells, CellsFit, put_node}
use Rattle.core_cells.specs.Nodes.{NodeValues}
use Rattle.factored_core.specs.Changes.{changed, IsStepBy, ChangesFit, IsPreparedStep}
use Rattle.factored_core.specs.Needs.{other_of}
use Rattle.factored_core.specs.Ready.{IsReady}
use Rattle.factored_core.specs.Replies.{in_nodes}
use Rattle.core_cells.proofs.Presence.{all_there}
use Rattle.factored_core.proofs.Changed.{there_is, node_still}
use Rattle.factored_core.proofs.RefusalLines.{other_is_remote}
use Rattle.factored_core.proofs.GateSteps.{said}
use Rattle.factored_core.proofs.Legal.{done_legal}
use Rattle.factored_core.proofs.NodeSteps.{node_sent_own, node_sent_other}
use Rattle.factored_core.proofs.Operands.{none_refuses, own_fits, own_number_is}
use Rattle.factored_core.proofs.Touched.{done_touches, of_nodes, numbers_of, nodes_are, named_in_nodes, one_node, two_nodes}
use Rattle.factored_core.proofs.Vacant.{own_there}

no_some : {A : Type 0} (a : A) → None ≡ Some a → ⊥
no_some a e = cc

-- ---- the other node of a transfer, and a copy of its value
module _ (shape : Shape) (c : Call) (cs : Cells) (own : Node) (ready : IsReady shape c cs own) (other : ℕ) (there : other_of shape c ≡ Some other) where
  pub other_there : IsSome (cs.node other)
  other_there = let h = ready.opened.has in h.other other there

  pub other_is : (w : NodeValues) × (cs.node other ≡ Some w)
  other_is = there_is (cs.node other) other_there

  module _ (to : Node) (copied : (w : NodeValues) → cs.node other ≡ Some w → to ≡ w.now) where
    pub other_fits : (s : Network) (home : ℕ → ℕ) → CellsFit shape s home cs → FitsNode s other (held_map to) (arrived_map to)
    other_fits s home fit =
        subst (λ (n : Node). FitsNode s other (held_map n) (arrived_map n)) (sym (copied (other_is.0) (other_is.1))) (fit.nodes other (other_is.0) (other_is.1))

-- ---- a qubit is sent
module _ (shape : Shape) (c : Call) (cs : Cells) (own : Node) (ready : IsReady shape c cs own) (r : Remote) (is : kind_of c.command.instr ≡ Send r)
    (other : ℕ) (there : other_of shape c ≡ Some other) (to : Node) (copied : (w : NodeValues) → cs.node other ≡ Some w → to ≡ w.now) where
  remote_is : remote_of (kind_of c.command.instr) ≡ Some r
  remote_is = ap remote_of is ∙ unfold remote_of in refl

  away : (remote_node shape c r ≡ other) × (other ≢ c.node)
  away = other_is_remote shape c r other remote_is there

  module _ (q : ℕ) (held : number_of own.handles c.app c.command.qubit ≡ Some q) where
    abbrev left : Node
    left = without_held own c.app c.command.qubit

    abbrev sent : Node
    sent = with_arrival to (sent_to r.app q)

    module _ (s : Network) (home : ℕ → ℕ) (standing : IsStanding shape s home) (fit : CellsFit shape s home cs) where
      reply_is : (effect shape s c 0).reply ≡ reply.Silent
      unfolding effect
      reply_is = ap (λ k. (effect_of shape s c 0 k).reply) is ∙ unfold effect_of quiet in refl

      no_slot : (t : ℕ) → effect_touches_slot s home c t (kind_of c.command.instr) ≡ false
      no_slot t = ap (effect_touches_slot s home c t) is ∙ unfold effect_touches_slot in refl

      no_pool : effect_touches_pool s c (kind_of c.command.instr) ≡ false
      no_pool = ap (effect_touches_pool s c) is ∙ unfold effect_touches_pool is_making is_measurement in refl

      number : (m n : ℕ) → Some m ≡ Some n → m ≡ n
      number m n e = ap (λ o. unwrap_or o n) e

      moved : ChangesFit shape s home (said c reply.Silent) (of_nodes c.node left (Some other) sent)
      unfolding advance is_error homes_step touches_slot touches_pool
      moved = record {
        nodes_touched = λ m. done_touches shape c m None reply.Silent refl ∙ ap (λ (o : Option ℕ). (c.node == m) || holds_of o (λ n. n == m)) there ∙ numbers_of c.node left (Some other) sent m;
        pool_touched = no_pool;
        slots_touched = no_slot;
        nodes = nodes_are (λ m n. FitsNode ((effect shape s c 0).state) m (held_map n) (arrived_map n)) c.node left (Some other) sent
            (node_sent_own shape s c 0 own (own_fits shape c cs own ready s home standing fit) r is (λ e. (away.1) (sym (away.0) ∙ e)))
            (λ n e. subst (λ (k : ℕ). FitsNode ((effect shape s c 0).state) k (held_map sent) (arrived_map sent)) (number other n e)
            (node_sent_other shape s c 0 other to (other_fits shape c cs own ready other there to copied s home fit) r (away.0) (away.1) is q (own_number_is shape c cs own ready s home standing fit q held)));
        pool = λ p e. absurd (no_some p e);
        slots = λ t a e. absurd (no_some a e);
      }

    sent_done : IsStepBy shape cs (of_nodes c.node left (Some other) sent) (said c reply.Silent)
    unfolding is_gate is_measurement second_of
    sent_done s home standing fit = (
      done_legal shape s c (Send r) is refl refl ready.opened.range ready.opened.allowed (none_refuses shape c cs own ready s home standing fit (ap second_of is)) reply.Silent (sym (reply_is s home standing fit)),
      moved s home standing fit,
    )

  -- ---- on the board
  module _ (before mid : Cells) (same : before ≡ cs) (next : Node) (put : (w : NodeValues) → before.node c.node ≡ Some w → mid ≡ put_node before c.node (record w { next = Some next })) where
    pub send_leaves_other : IsSome (mid.node other)
    send_leaves_other =
        node_still cs mid (of_nodes c.node next None next) other (one_node cs before mid mid ready.opened.unprepared same c.node next (own_there shape c cs own ready) put)
        (other_there shape c cs own ready other there)

    module _ (next_is : next ≡ without_held own c.app c.command.qubit) (arrived : Node) (new : Cells)
        (again : (w : NodeValues) → mid.node other ≡ Some w → new ≡ put_node mid other (record w { next = Some arrived })) where
      by_number : (o : Option ℕ) → number_of own.handles c.app c.command.qubit ≡ o → IsSomeAnd o (λ n. arrived ≡ with_arrival to (sent_to r.app n)) → IsPreparedStep shape cs new (in_nodes c reply.Silent (Some other))
      by_number None e h = absurd h
      by_number (Some q) e h = record {
        changes = of_nodes c.node (left q e) (Some other) (sent q e);
        after =
            two_nodes cs before mid new ready.opened.unprepared same c.node next (own_there shape c cs own ready) put other arrived (other_there shape c cs own ready other there) again
            ∙ ap (λ (n : Node). changed cs (of_nodes c.node n (Some other) arrived)) next_is ∙ ap (λ (n : Node). changed cs (of_nodes c.node (left q e) (Some other) n)) h;
        named = named_in_nodes c (left q e) reply.Silent (Some other) (sent q e);
        there = all_there cs _ (own_there shape c cs own ready, (other_there shape c cs own ready other there, (tt, (tt, tt))));
        step = sent_done q e;
      }

      pub send_prepared : IsSomeAnd (number_of own.handles c.app c.command.qubit) (λ n. arrived ≡ with_arrival to (sent_to r.app n)) → IsPreparedStep shape cs new (in_nodes c reply.Silent (Some other))
      send_prepared h = by_number (number_of own.handles c.app c.command.qubit) refl h
