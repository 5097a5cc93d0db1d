-- A gate on one qubit on a board: what was prepared is the step of the call.
use Rattle.std.proofs.Common.{ℕ, ◌≡◌, ◌==◌, List, [], ◌∷◌, Option, Some, None, IsSome, nat_abs, refl, sym, ap, subst, ◌∙◌}
use Rattle.std.specs.Prelude.{MatchResult, Result, Ok, Err}
use Rattle.state_model.specs.Amplitudes.{Amplitudes, vector_of}
use Rattle.state_model.specs.Registers.{register_vector}
use Rattle.state_model.specs.StateVector.{Vector, IsSameState, IsSize}
use Rattle.state_model.specs.Gate.{gate, matrix}
use Rattle.state_model.specs.declared.Gate.{Gate}
use Rattle.state_model.proofs.Booleans.{or_false}
use Rattle.amplitude_register.specs.States.{RegisterState, next_value}
use Rattle.amplitude_register.specs.declared.register.TooLarge.{TooLarge}
use Rattle.cqc_model.specs.declared.Fault.TheVariants.{General}
use Rattle.network_model.specs.Network.{Shape}
use Rattle.network_model.specs.Kinds.{kind_of}
use Rattle.network_model.specs.declared.Call.{Call}
use Rattle.network_model.specs.declared.Kind.TheVariants.{Gate as OneGate}
use Rattle.network_model.specs.declared.CoreReply.{CoreReply}
use Rattle.network_model.specs.declared.CoreReply.TheVariants as reply
use Rattle.qubit_handles.specs.Handle.{number_of}
use Rattle.virtual_node.specs.Node.{Node}
use Rattle.core_cells.specs.Cells.{Cells, put_node}
use Rattle.core_cells.specs.Nodes.{NodeValues}
use Rattle.factored_core.specs.Changes.{no_changes, changed, AreNamed, IsPreparedStep, with_next_slot}
use Rattle.factored_core.specs.Ready.{IsReady}
use Rattle.factored_core.specs.Replies.{gate_reply, in_one_slot}
use Rattle.factored_core.specs.Slots.{IsSpot, HasPrepared, IsGated, IsKeptFrom}
use Rattle.factored_core.specs.declared.slots.Spot.{Spot}
use Rattle.factored_core.proofs.Changed.{changed-none, node_prepared, node_still, some_there}
use Rattle.factored_core.proofs.ChangeLists.{number_one}
use Rattle.core_cells.proofs.Presence.{all_there}
use Rattle.factored_core.proofs.Sizes.{kept_bound, size_along, large_bound}
use Rattle.factored_core.proofs.GateSteps.{in_slot, gate_done, gate_refused}

-- the own node and one slot are named
pub named_in_slot : (c : Call) (own : Node) (word : Option ℕ) (r : CoreReply) (t : ℕ) (a : Amplitudes) → AreNamed (in_one_slot c word r t) (in_slot c.node own t a)
named_in_slot c own word r t a = record {
  nodes = λ m. or_false (c.node == m) ∙ sym (number_one c.node own m);
  pool = refl;
  slots = λ u. or_false (t == u) ∙ sym (number_one t a u);
}

-- what is prepared, after the own node's value was prepared besides
module _ (shape : Shape) (c : Call) (cs : Cells) (own : Node) (ready : IsReady shape c cs own) (mid new : Cells) (put : (w : NodeValues) → mid.node c.node ≡ Some w → new ≡ put_node mid c.node (record w { next = Some own })) where
  pub own_there : IsSome (cs.node c.node)
  own_there = let h = ready.opened.has in some_there (cs.node c.node) h.own h.own_there

  pub slot_then_node : (t : ℕ) (a : Amplitudes) → mid ≡ changed cs (record no_changes { slots = (t, a) ∷ [] }) → new ≡ changed cs (in_slot c.node own t a)
  slot_then_node t a e = node_prepared cs mid new (record no_changes { slots = (t, a) ∷ [] }) c.node own e own_there put

  module _ (q : ℕ) (held : number_of own.handles c.app c.command.qubit ≡ Some q) (spot : Spot) (at : IsSpot cs q spot) (g : Gate) (is : kind_of c.command.instr ≡ OneGate g) where
    abbrev x : RegisterState
    x = (with_next_slot None at.cell).register

    abbrev y : Amplitudes → RegisterState
    y a = (with_next_slot (Some a) at.cell).register

    done_by : (a : Amplitudes) → new ≡ changed cs (in_slot c.node own spot.slot a) → IsGated g spot.place x (y a) → IsPreparedStep shape cs new (in_one_slot c None reply.Silent spot.slot)
    done_by a e gated =
        let applied = gated.applied in
        let qubits : a.qubits ≡ ((at.cell).register).value.qubits = ap (λ (r : RegisterState). (next_value r.next).qubits) applied.after in
        let v : Vector = gate (matrix g) q (vector_of ((at.cell).register).value) in
        let same : IsSameState (vector_of a) v = subst (λ (n : ℕ). IsSameState (vector_of a) (gate (matrix g) n (vector_of ((at.cell).register).value))) at.number applied.same in
        let bound = kept_bound a gated.rows applied.kept in
        record {
          changes = in_slot c.node own spot.slot a;
          after = e;
          named = named_in_slot c own None reply.Silent spot.slot a;
          there = all_there cs _ (own_there, (some_there (cs.slot spot.slot) at.cell at.there, (tt, (tt, tt))));
          step = gate_done shape c cs own ready q held spot at g is a qubits
              (subst (λ (qs : List ℕ). IsSameState (register_vector qs a.list) v) qubits same)
              (bound.0) (subst (λ (qs : List ℕ). IsSize v qs (bound.0)) qubits (size_along (vector_of a) v a.qubits (bound.0) same (bound.1))) (bound.2);
        }

    kept_by : (a : Amplitudes) → new ≡ changed cs (in_slot c.node own spot.slot a) → IsKeptFrom g spot.place x (y a) → IsPreparedStep shape cs new (in_one_slot c None (reply.Error General) spot.slot)
    kept_by a e kept =
        let large = kept.large in
        record {
          changes = in_slot c.node own spot.slot a;
          after = e;
          named = named_in_slot c own None (reply.Error General) spot.slot a;
          there = all_there cs _ (own_there, (some_there (cs.slot spot.slot) at.cell at.there, (tt, (tt, tt))));
          step = gate_refused shape c cs own ready q held spot at g is a (ap (λ (r : RegisterState). next_value r.next) kept.same)
              (nat_abs kept.size) (subst (λ (n : ℕ). IsSize (gate (matrix g) n (vector_of ((at.cell).register).value)) ((at.cell).register).value.qubits (nat_abs kept.size)) at.number large.size_is) (large_bound kept.size large.large);
        }

    pub gate_prepared : (r : Result Unit TooLarge) (before : Cells) → before ≡ cs
        → MatchResult r (λ _. HasPrepared before mid spot.slot (IsGated g spot.place)) (λ _. HasPrepared before mid spot.slot (IsKeptFrom g spot.place))
        → IsPreparedStep shape cs new (in_one_slot c None (gate_reply r) spot.slot)
    gate_prepared (Ok u) before e h =
        let k = h cs no_changes (e ∙ changed-none cs ready.opened.unprepared) at.cell at.there in
        done_by (k.0) (slot_then_node spot.slot (k.0) (k.1.0)) (k.1.1)
    gate_prepared (Err f) before e h =
        let k = h cs no_changes (e ∙ changed-none cs ready.opened.unprepared) at.cell at.there in
        kept_by (k.0) (slot_then_node spot.slot (k.0) (k.1.0)) (k.1.1)

-- the own node is still there beside the prepared slot
pub gate_leaves_node : (shape : Shape) (c : Call) (cs : Cells) (own : Node) (ready : IsReady shape c cs own) (q : ℕ) (spot : Spot) (at : IsSpot cs q spot) (g : Gate) (r : Result Unit TooLarge) (before mid : Cells) → before ≡ cs
    → MatchResult r (λ _. HasPrepared before mid spot.slot (IsGated g spot.place)) (λ _. HasPrepared before mid spot.slot (IsKeptFrom g spot.place)) → IsSome (mid.node c.node)
gate_leaves_node shape c cs own ready q spot at g (Ok u) before mid e h =
    let k = h cs no_changes (e ∙ changed-none cs ready.opened.unprepared) at.cell at.there in
    let n = ready.opened.has in node_still cs mid (record no_changes { slots = (spot.slot, k.0) ∷ [] }) c.node (k.1.0) (some_there (cs.node c.node) n.own n.own_there)
gate_leaves_node shape c cs own ready q spot at g (Err f) before mid e h =
    let k = h cs no_changes (e ∙ changed-none cs ready.opened.unprepared) at.cell at.there in
    let n = ready.opened.has in node_still cs mid (record no_changes { slots = (spot.slot, k.0) ∷ [] }) c.node (k.1.0) (some_there (cs.node c.node) n.own n.own_there)
