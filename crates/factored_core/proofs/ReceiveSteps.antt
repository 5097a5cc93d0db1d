-- A qubit that is received goes from the front of its queue to its application's handles, and that is the step of the call.
use Rattle.std.proofs.Common.{ℕ, ◌≡◌, Bool, true, false, cond, not, ◌&&◌, position, Option, Some, None, is_none, unwrap_or, option_map, refl, sym, ap, subst, ◌∙◌}
use Rattle.state_model.proofs.Booleans.{clash}
use Rattle.cqc_model.specs.declared.PairInfo.{PairInfo}
use Rattle.network_model.specs.Network.{Network, Shape}
use Rattle.network_model.specs.Kinds.{kind_of, second_of, remote_of, is_gate, is_making, is_measurement}
use Rattle.network_model.specs.Step.{receipt_reply}
use Rattle.network_model.specs.History.{advance, is_error, is_general}
use Rattle.network_model.specs.Factored.{FitsNode, touches_slot, touches_pool, operand_in_slot, effect_touches_slot, effect_touches_pool}
use Rattle.network_model.specs.declared.Call.{Call}
use Rattle.network_model.specs.declared.Kind.TheVariants.{Receive}
use Rattle.network_model.specs.declared.CoreReply.{CoreReply}
use Rattle.network_model.specs.declared.Line.{Line}
use Rattle.network_model.specs.declared.Line.TheVariants as line
use Rattle.virtual_node.specs.Node.{Node, is_waiting, held_map, arrived_map}
use Rattle.virtual_node.specs.declared.arrival.Arrival.{Arrival}
use Rattle.epr_transfer.specs.Transfer.{first_waiting, next_id, taken_by, with_received, received_by}
use Rattle.epr_transfer.specs.declared.Taken.{Taken}
use Rattle.cell_laws.specs.Standing.{IsStanding}
use Rattle.core_cells.specs.Cells.{Cells, CellsFit, put_node}
use Rattle.core_cells.specs.Nodes.{NodeValues}
use Rattle.factored_core.specs.Changes.{changed, IsStepBy, ChangesFit, IsPreparedStep}
use Rattle.factored_core.specs.Ready.{IsReady}
use Rattle.factored_core.specs.Replies.{in_nodes}
use Rattle.core_cells.proofs.Presence.{all_there}
use Rattle.factored_core.proofs.GateSteps.{said}
use Rattle.factored_core.proofs.Legal.{done_legal, advance_done}
use Rattle.factored_core.proofs.Locals.{own_touched}
use Rattle.factored_core.proofs.NodeSteps.{node_received, reply_received}
use Rattle.factored_core.proofs.Loads.{first_found}
use Rattle.factored_core.proofs.Operands.{none_refuses, own_fits}
use Rattle.factored_core.proofs.Touched.{of_nodes, nodes_are, named_in_nodes, one_node}
use Rattle.factored_core.proofs.Vacant.{own_there}

no_some : {A : Type 0} (a : A) → None ≡ Some a → ⊥
no_some a e = cc

-- a receipt is answered by no error
no_error : (l : Line) (id : ℕ) (o : Option PairInfo) → is_error (receipt_reply l id o) ≡ false
unfolding is_error receipt_reply
no_error line.Sent id o = refl
no_error line.Pair id None = refl
no_error line.Pair id (Some info) = refl

module _ (shape : Shape) (c : Call) (cs : Cells) (own : Node) (ready : IsReady shape c cs own) (l : Line) (is : kind_of c.command.instr ≡ Receive l)
    (a : Arrival) (found : first_waiting own c.app l ≡ Some a) where
  abbrev told : CoreReply
  told = receipt_reply l (next_id own c.app) a.info

  quiet_reply : is_error told ≡ false
  quiet_reply = no_error l (next_id own c.app) a.info

  module _ (s : Network) (home : ℕ → ℕ) (standing : IsStanding shape s home) (fit : CellsFit shape s home cs) where
    slot_touched : (t : ℕ) → touches_slot s home (said c told) t ≡ false
    unfolding touches_slot effect_touches_slot
    slot_touched t =
        ap (λ (b : Bool). cond b (is_general told && is_gate (kind_of c.command.instr) && operand_in_slot s home c t (kind_of c.command.instr)) (effect_touches_slot s home c t (kind_of c.command.instr))) quiet_reply
        ∙ ap (effect_touches_slot s home c t) is

    pool_touched : touches_pool s (said c told) ≡ false
    unfolding touches_pool effect_touches_pool is_making is_measurement
    pool_touched = ap (λ (b : Bool). not b && effect_touches_pool s c (kind_of c.command.instr)) quiet_reply ∙ ap (effect_touches_pool s c) is

    taken : ChangesFit shape s home (said c told) (of_nodes c.node (received_by own c.app l) None own)
    unfolding remote_of
    taken = record {
      nodes_touched = own_touched shape c (received_by own c.app l) None told (ap remote_of is);
      pool_touched = pool_touched;
      slots_touched = slot_touched;
      nodes = nodes_are (λ m n. FitsNode (advance shape s (said c told)) m (held_map n) (arrived_map n)) c.node (received_by own c.app l) None own
          (subst (λ (t : Network). FitsNode t c.node (held_map (received_by own c.app l)) (arrived_map (received_by own c.app l))) (sym (advance_done shape s c None told quiet_reply))
          (node_received shape s c 0 own (own_fits shape c cs own ready s home standing fit) l a found is))
          (λ n e. absurd (no_some n e));
      pool = λ p e. absurd (no_some p e);
      slots = λ t b e. absurd (no_some b e);
    }

  received_done : IsStepBy shape cs (of_nodes c.node (received_by own c.app l) None own) (said c told)
  unfolding is_gate is_measurement second_of
  received_done s home standing fit = (
    done_legal shape s c (Receive l) is refl refl ready.opened.range ready.opened.allowed (none_refuses shape c cs own ready s home standing fit (ap second_of is)) told
        (sym (reply_received shape s c 0 own (own_fits shape c cs own ready s home standing fit) l a found is)),
    taken s home standing fit,
  )

-- ---- on the board
-- what was taken was the first that waits
module _ (own : Node) (app : ℕ) (l : Line) where
  pub took_first : (t : Taken) → Some t ≡ taken_by own app l → (a : Arrival) × (first_waiting own app l ≡ Some a) × (t ≡ record { id = next_id own app; info = a.info })
  took_first t got = by (first_waiting own app l) refl got
    where
      by : (o : Option Arrival) → first_waiting own app l ≡ o → Some t ≡ option_map (λ a. record { id = next_id own app; info = Arrival.info a }) o
          → (a : Arrival) × (first_waiting own app l ≡ Some a) × (t ≡ record { id = next_id own app; info = a.info })
      by None e h = absurd (no_some t (sym h))
      by (Some a) e h = (a, e, ap (λ o. unwrap_or o t) h)

  -- where something was taken, something waits
  pub took_some : (t : Taken) → Some t ≡ taken_by own app l → is_none (position (is_waiting app l) own.arrivals) ≡ false
  took_some t got = sym (first_found (is_waiting app l) own.arrivals) ∙ ap is_none ((took_first t got).1)

  -- where nothing was, nothing does, and the node is as it was
  pub took_none : None ≡ taken_by own app l → (position (is_waiting app l) own.arrivals ≡ None) × (received_by own app l ≡ own)
  took_none got = by (first_waiting own app l) refl got
    where
      none_of : (o : Option ℕ) → is_none o ≡ true → o ≡ None
      none_of None e = refl
      none_of (Some n) e = absurd (clash (sym e))

      by : (o : Option Arrival) → first_waiting own app l ≡ o → ◌≡◌ {A = Option Taken} None (option_map (λ a. record { id = next_id own app; info = Arrival.info a }) o)
          → (position (is_waiting app l) own.arrivals ≡ None) × (received_by own app l ≡ own)
      by None e h = (none_of _ (sym (first_found (is_waiting app l) own.arrivals) ∙ ap is_none e), ap (with_received own app l) e)
      by (Some a) e h = absurd (no_some _ h)

pub received_prepared : (shape : Shape) (c : Call) (cs : Cells) (own : Node) → IsReady shape c cs own → (l : Line) → kind_of c.command.instr ≡ Receive l → (t : Taken) → Some t ≡ taken_by own c.app l
    → (next : Node) → next ≡ received_by own c.app l → (new : Cells) → ((w : NodeValues) → cs.node c.node ≡ Some w → new ≡ put_node cs c.node (record w { next = Some next }))
    → IsPreparedStep shape cs new (in_nodes c (receipt_reply l t.id t.info) None)
received_prepared shape c cs own ready l is t got next next_is new put =
    let first = took_first own c.app l t got in
    let a = first.0 in
    subst (λ (u : Taken). IsPreparedStep shape cs new (in_nodes c (receipt_reply l u.id u.info) None)) (sym (first.2)) (record {
      changes = of_nodes c.node (received_by own c.app l) None own;
      after = one_node cs cs new new ready.opened.unprepared refl c.node next (own_there shape c cs own ready) put ∙ ap (λ (n : Node). changed cs (of_nodes c.node n None own)) next_is;
      named = named_in_nodes c (received_by own c.app l) (receipt_reply l (next_id own c.app) a.info) None own;
      there = all_there cs _ (own_there shape c cs own ready, (tt, (tt, (tt, tt))));
      step = received_done shape c cs own ready l is a (first.1);
    })
