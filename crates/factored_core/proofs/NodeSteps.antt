-- Nodes fit after each step that touches them, by the instruction; and what its reply is, from the own node.
use Rattle.std.proofs.Common.{◌≡◌, ◌≢◌, ℕ, Bool, true, false, List, [], ◌∷◌, ◌++◌, slice_get, None, Some, unwrap_or, refl, sym, ap, subst, ◌∙◌}
use Rattle.state_model.proofs.Booleans.{clash}
use Rattle.network_model.specs.declared.Kind.{Kind}
use Rattle.cqc_model.specs.declared.PairInfo.{PairInfo}
use Rattle.cqc_model.specs.declared.Remote.{Remote}
use Rattle.network_model.specs.Network.{Network, Shape, Waiting, held_number, queue}
use Rattle.network_model.specs.Kinds.{kind_of}
use Rattle.network_model.specs.Step.{effect, effect_of, quiet, after_gate, after_two, taken_out, left_as, measured, received, received_first, receipt_reply, pair_info, own_number, remote_node, least_free, least_id}
use Rattle.network_model.specs.Factored.{FitsNode}
use Rattle.network_model.specs.declared.After.TheVariants.{TakenOut, Left, Cleared}
use Rattle.network_model.specs.declared.Call.{Call}
use Rattle.network_model.specs.declared.Kind.TheVariants.{Idle, Gate as OneGate, Inexact, Two as TwoGate, Measure, Make, Pair, Send, Receive, Unrolled}
use Rattle.network_model.specs.declared.CoreReply.TheVariants as reply
use Rattle.network_model.specs.declared.Line.{Line}
use Rattle.network_model.specs.declared.Line.TheVariants as line
use Rattle.network_model.specs.declared.Place.{Place}
use Rattle.qubit_handles.proofs.HandleLemmas.{least_is_free}
use Rattle.virtual_node.specs.Node.{Node, held_map, arrived_map, with_handle, without_held, with_arrival}
use Rattle.virtual_node.specs.declared.arrival.Arrival.{Arrival}
use Rattle.epr_transfer.specs.Transfer.{handle_of, sent_to, half_for, first_waiting, next_id, received_by}
use Rattle.factored_core.proofs.Loads.{same_least_id}
use Rattle.factored_core.proofs.NodeChanges.{same_handles, more_handles, handles_beside_more, less_handles, handles_beside_less, same_queues, more_queues, queues_beside_more}
use Rattle.factored_core.proofs.Receipts.{IsFirst, first_is, received_handles, received_queues}

-- whether a call of this kind leaves all handles and queues
abbrev pub keeps_nodes : Kind → Bool
keeps_nodes Make = false
keeps_nodes (Pair r) = false
keeps_nodes (Send r) = false
keeps_nodes (Receive l) = false
keeps_nodes (Measure TakenOut told) = false
keeps_nodes _ = true

-- ---- steps
module _ (shape : Shape) (s : Network) (c : Call) (word : ℕ) where
  -- the node fits the state after the call's effect
  abbrev pub FitsAfter : ℕ → Node → Type 0
  FitsAfter m n = FitsNode ((effect shape s c word).state) m (held_map n) (arrived_map n)

  along : (k : Kind) → kind_of c.command.instr ≡ k → (m : ℕ) (n : Node) → FitsNode ((effect_of shape s c word k).state) m (held_map n) (arrived_map n) → FitsAfter m n
  unfolding effect
  along k is m n h = subst (λ j. FitsNode ((effect_of shape s c word j).state) m (held_map n) (arrived_map n)) (sym is) h

  module _ (m : ℕ) (n : Node) (fits : FitsNode s m (held_map n) (arrived_map n)) where
    same : (t : Network) → t.held ≡ s.held → t.waiting ≡ s.waiting → FitsNode t m (held_map n) (arrived_map n)
    same t h w = record { handles = same_handles s m n fits t h; queues = same_queues s m n fits t w }

    kept_by : (k : Kind) → keeps_nodes k ≡ true → FitsNode ((effect_of shape s c word k).state) m (held_map n) (arrived_map n)
    unfolding effect_of quiet after_gate after_two measured left_as
    kept_by Idle e = fits
    kept_by (OneGate g) e = same _ refl refl
    kept_by Inexact e = fits
    kept_by (TwoGate g id) e = same _ refl refl
    kept_by (Measure TakenOut told) e = absurd (clash (sym e))
    kept_by (Measure Left told) e = same _ refl refl
    kept_by (Measure Cleared told) e = same _ refl refl
    kept_by Make e = absurd (clash (sym e))
    kept_by (Pair r) e = absurd (clash (sym e))
    kept_by (Send r) e = absurd (clash (sym e))
    kept_by (Receive l) e = absurd (clash (sym e))
    kept_by Unrolled e = fits

    -- a step that leaves handles and queues keeps each node
    pub node_kept : (k : Kind) → kind_of c.command.instr ≡ k → keeps_nodes k ≡ true → FitsAfter m n
    node_kept k is e = along k is m n (kept_by k e)

  -- ---- the own node
  module _ (n : Node) (fits : FitsNode s c.node (held_map n) (arrived_map n)) where
    -- the new handle of the model is the node's
    new_handle : (t : Network) (id q : ℕ) → id ≡ next_id n c.app → t.held ≡ s.held ++ record { node = c.node; app = c.app; id = least_id s c.node c.app; number = q } ∷ []
        → (a i : ℕ) → held_map (with_handle n (handle_of c.app id q)) a i ≡ held_number t c.node a i
    new_handle t id q is e =
        more_handles s c.node n fits t c.app id q (e ∙ ap (λ k. s.held ++ record { node = c.node; app = c.app; id = k; number = q } ∷ []) (same_least_id s c.node n fits c.app ∙ sym is)) (least_is_free n.handles c.app id is)

    -- a new qubit adds a handle
    pub node_new : kind_of c.command.instr ≡ Make → (id q : ℕ) → id ≡ next_id n c.app → q ≡ least_free s.live → FitsAfter c.node (with_handle n (handle_of c.app id q))
    node_new is id q id_is q_is = along Make is c.node (with_handle n (handle_of c.app id q)) at
      where
        at : FitsNode ((effect_of shape s c word Make).state) c.node (held_map (with_handle n (handle_of c.app id q))) (arrived_map (with_handle n (handle_of c.app id q)))
        at = unfold effect_of in (record {
          handles = new_handle _ id q id_is (ap (λ k. s.held ++ record { node = c.node; app = c.app; id = least_id s c.node c.app; number = k } ∷ []) (sym q_is));
          queues = same_queues s c.node n fits _ refl;
        })

    -- what is taken out drops one
    pub node_removed : (told : Bool) → kind_of c.command.instr ≡ Measure TakenOut told → FitsAfter c.node (without_held n c.app c.command.qubit)
    node_removed told is = along (Measure TakenOut told) is c.node (without_held n c.app c.command.qubit) at
      where
        at : FitsNode ((effect_of shape s c word (Measure TakenOut told)).state) c.node (held_map (without_held n c.app c.command.qubit)) (arrived_map (without_held n c.app c.command.qubit))
        at = unfold effect_of measured taken_out in (record { handles = less_handles s c.node n fits _ c.app c.command.qubit refl; queues = same_queues s c.node n fits _ refl })

    -- what is sent drops one
    pub node_sent_own : (r : Remote) → kind_of c.command.instr ≡ Send r → remote_node shape c r ≢ c.node → FitsAfter c.node (without_held n c.app c.command.qubit)
    node_sent_own r is away = along (Send r) is c.node (without_held n c.app c.command.qubit) at
      where
        at : FitsNode ((effect_of shape s c word (Send r)).state) c.node (held_map (without_held n c.app c.command.qubit)) (arrived_map (without_held n c.app c.command.qubit))
        at = unfold effect_of quiet in (record { handles = less_handles s c.node n fits _ c.app c.command.qubit refl; queues = queues_beside_more s c.node n fits _ _ away refl })

    -- a pair adds one
    pub node_paired_own : (r : Remote) → kind_of c.command.instr ≡ Pair r → remote_node shape c r ≢ c.node → (id q : ℕ) → id ≡ next_id n c.app → q ≡ least_free s.live → FitsAfter c.node (with_handle n (handle_of c.app id q))
    node_paired_own r is away id q id_is q_is = along (Pair r) is c.node (with_handle n (handle_of c.app id q)) at
      where
        at : FitsNode ((effect_of shape s c word (Pair r)).state) c.node (held_map (with_handle n (handle_of c.app id q))) (arrived_map (with_handle n (handle_of c.app id q)))
        at = unfold effect_of in (record {
          handles = new_handle _ id q id_is (ap (λ k. s.held ++ record { node = c.node; app = c.app; id = least_id s c.node c.app; number = k } ∷ []) (sym q_is));
          queues = queues_beside_more s c.node n fits _ _ away refl;
        })

  -- ---- the other node of a transfer
  module _ (k : ℕ) (n : Node) (fits : FitsNode s k (held_map n) (arrived_map n)) (r : Remote) (there : remote_node shape c r ≡ k) (away : k ≢ c.node) where
    beside : c.node ≢ k
    beside e = away (sym e)

    -- what is sent adds an arrival
    pub node_sent_other : kind_of c.command.instr ≡ Send r → (q : ℕ) → own_number s c ≡ q → FitsAfter k (with_arrival n (sent_to r.app q))
    node_sent_other is q number = along (Send r) is k (with_arrival n (sent_to r.app q)) at
      where
        at : FitsNode ((effect_of shape s c word (Send r)).state) k (held_map (with_arrival n (sent_to r.app q))) (arrived_map (with_arrival n (sent_to r.app q)))
        at = unfold effect_of quiet in (record {
          handles = handles_beside_less s k n fits _ c.node c.app c.command.qubit beside refl;
          queues = more_queues s k n fits _ (sent_to r.app q)
              (ap (λ m. s.waiting ++ record { node = m; app = r.app; line = line.Sent; number = own_number s c; info = None } ∷ []) there ∙ ap (λ m. s.waiting ++ record { node = k; app = r.app; line = line.Sent; number = m; info = None } ∷ []) number);
        })

    -- half of the pair is added
    pub node_paired_other : kind_of c.command.instr ≡ Pair r → (q : ℕ) (info : PairInfo) → q ≡ least_free (least_free s.live ∷ s.live) → info ≡ pair_info shape s c r → FitsAfter k (with_arrival n (half_for r.app q info))
    node_paired_other is q info number told = along (Pair r) is k (with_arrival n (half_for r.app q info)) at
      where
        at : FitsNode ((effect_of shape s c word (Pair r)).state) k (held_map (with_arrival n (half_for r.app q info))) (arrived_map (with_arrival n (half_for r.app q info)))
        at = unfold effect_of in (record {
          handles = handles_beside_more s k n fits _ c.node c.app _ _ beside refl;
          queues = more_queues s k n fits _ (half_for r.app q info)
              (ap (λ m. s.waiting ++ record { node = m; app = r.app; line = line.Pair; number = least_free (least_free s.live ∷ s.live); info = Some (pair_info shape s c r) } ∷ []) there
              ∙ ap (λ m. s.waiting ++ record { node = k; app = r.app; line = line.Pair; number = m; info = Some (pair_info shape s c r) } ∷ []) (sym number)
              ∙ ap (λ m. s.waiting ++ record { node = k; app = r.app; line = line.Pair; number = q; info = Some m } ∷ []) (sym told));
        })

  -- ---- receipts
  module _ (n : Node) (fits : FitsNode s c.node (held_map n) (arrived_map n)) (l : Line) (a : Arrival) (found : first_waiting n c.app l ≡ Some a) where
    receipt : FitsNode ((received s c l).state) c.node (held_map (received_by n c.app l)) (arrived_map (received_by n c.app l))
    unfolding received
    receipt = let first = first_is s c.node n fits c.app l a found in at (first.0) (first.1) (first.2)
      where
        at : (e : Waiting) (es : List Waiting) → IsFirst s c.node n fits c.app l a found e es
            → FitsNode ((received_first s c l (queue s c.node c.app l)).state) c.node (held_map (received_by n c.app l)) (arrived_map (received_by n c.app l))
        at e es h = subst (λ ws. FitsNode ((received_first s c l ws).state) c.node (held_map (received_by n c.app l)) (arrived_map (received_by n c.app l))) (sym h.queue_is) next
          where
            next : FitsNode ((received_first s c l (e ∷ es)).state) c.node (held_map (received_by n c.app l)) (arrived_map (received_by n c.app l))
            next = unfold received_first in (record {
              handles = received_handles s c.node n fits c.app l a found _ (next_id n c.app) refl
                  (ap (λ i. s.held ++ record { node = c.node; app = c.app; id = i; number = Waiting.number e } ∷ []) (same_least_id s c.node n fits c.app) ∙ ap (λ i. s.held ++ record { node = c.node; app = c.app; id = next_id n c.app; number = i } ∷ []) h.number);
              queues = received_queues s c.node n fits c.app l a found _ refl;
            })

    reply_is : (received s c l).reply ≡ receipt_reply l (next_id n c.app) a.info
    unfolding received
    reply_is = let first = first_is s c.node n fits c.app l a found in at (first.0) (first.1) (first.2)
      where
        at : (e : Waiting) (es : List Waiting) → IsFirst s c.node n fits c.app l a found e es → (received_first s c l (queue s c.node c.app l)).reply ≡ receipt_reply l (next_id n c.app) a.info
        at e es h = ap (λ ws. (received_first s c l ws).reply) h.queue_is ∙ next
          where
            next : (received_first s c l (e ∷ es)).reply ≡ receipt_reply l (next_id n c.app) a.info
            next = unfold received_first in (ap (λ i. receipt_reply l i (Waiting.info e)) (same_least_id s c.node n fits c.app) ∙ ap (receipt_reply l (next_id n c.app)) h.info)

    module _ (is : kind_of c.command.instr ≡ Receive l) where
      pub node_received : FitsAfter c.node (received_by n c.app l)
      node_received = along (Receive l) is c.node (received_by n c.app l) (unfold effect_of in receipt)

      pub reply_received : (effect shape s c word).reply ≡ receipt_reply l (next_id n c.app) a.info
      unfolding effect effect_of
      reply_received = ap (λ k. (effect_of shape s c word k).reply) is ∙ reply_is

  -- ---- replies with an id
  module _ (n : Node) (fits : FitsNode s c.node (held_map n) (arrived_map n)) where
    pub reply_new : kind_of c.command.instr ≡ Make → (effect shape s c word).reply ≡ reply.New (next_id n c.app)
    unfolding effect effect_of
    reply_new is = ap (λ k. (effect_of shape s c word k).reply) is ∙ ap reply.New (same_least_id s c.node n fits c.app)

    pub reply_paired : (r : Remote) → kind_of c.command.instr ≡ Pair r → (effect shape s c word).reply ≡ reply.Pair (next_id n c.app) (pair_info shape s c r)
    unfolding effect effect_of
    reply_paired r is = ap (λ k. (effect_of shape s c word k).reply) is ∙ ap (λ id. reply.Pair id (pair_info shape s c r)) (same_least_id s c.node n fits c.app)

  -- what both holders of a pair are told, from the own place and the pairs made
  pub pair_info_is : (r : Remote) (p : Place) (pairs : ℕ) → slice_get shape.places c.node ≡ Some p → pairs ≡ s.pairs
      → record { node_a = p.address; port_a = p.port; app_a = c.app; node_b = r.node; port_b = r.port; app_b = r.app; pair = pairs } ≡ pair_info shape s c r
  unfolding pair_info
  pair_info_is r p pairs place made =
      ap (λ k. record { node_a = p.address; port_a = p.port; app_a = c.app; node_b = r.node; port_b = r.port; app_b = r.app; pair = k }) made
      ∙ sym (ap (λ o. record { node_a = Place.address (unwrap_or o (record { address = 0; port = 0 })); port_a = Place.port (unwrap_or o (record { address = 0; port = 0 })); app_a = c.app; node_b = r.node; port_b = r.port; app_b = r.app; pair = s.pairs }) place)
