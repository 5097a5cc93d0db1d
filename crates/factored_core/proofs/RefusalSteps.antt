-- A call that cells of nodes refuse changes nothing; it touches its own node, and the other one where that was looked at.
use Rattle.std.proofs.Common.{ℕ, ◌≡◌, ◌==◌, Bool, true, false, cond, ◌&&◌, ◌||◌, Option, Some, None, IsSome, unwrap_or, refl, sym, ap, subst, ◌∙◌}
use Rattle.std.specs.Prelude.{MatchOption, IfSome}
use Rattle.cqc_model.specs.declared.Fault.{Fault}
use Rattle.network_model.specs.Network.{Network, Shape}
use Rattle.network_model.specs.Kinds.{kind_of, is_gate}
use Rattle.network_model.specs.Step.{holds_of}
use Rattle.network_model.specs.History.{IsLegalEntry, advance, is_error, is_general}
use Rattle.network_model.specs.Factored.{FitsNode, touches_slot, touches_pool, homes_step, operand_in_slot, is_remote_refusal}
use Rattle.network_model.specs.declared.Call.{Call}
use Rattle.network_model.specs.declared.CoreReply.TheVariants as reply
use Rattle.virtual_node.specs.Node.{Node, held_map, arrived_map}
use Rattle.cell_laws.specs.Standing.{IsStanding}
use Rattle.core_cells.specs.Cells.{Cells, CellsFit, put_node}
use Rattle.core_cells.specs.Nodes.{NodeValues}
use Rattle.factored_core.specs.Changes.{changed, change_at, with_next_node, IsStepBy, ChangesFit, IsPreparedStep}
use Rattle.factored_core.specs.Needs.{other_of}
use Rattle.factored_core.specs.Ready.{IsRefusable}
use Rattle.factored_core.specs.Replies.{in_nodes}
use Rattle.core_cells.proofs.Presence.{all_there}
use Rattle.factored_core.proofs.Changed.{changed-node_at, some_there, there_is}
use Rattle.factored_core.proofs.Legal.{reply_refused, refused_draws_none, legal_entry}
use Rattle.factored_core.proofs.GateSteps.{said}
use Rattle.factored_core.proofs.Touched.{refused_touches, of_nodes, numbers_of, nodes_are, named_in_nodes, one_node, two_nodes}

no_some : {A : Type 0} (a : A) → None ≡ Some a → ⊥
no_some a e = cc

-- what is there is still there when the own node's value is prepared
pub still_there : (cs mid : Cells) (own : ℕ) (next : NodeValues → NodeValues) → IsSome (cs.node own) → ((w : NodeValues) → cs.node own ≡ Some w → mid ≡ put_node cs own (next w)) → (o : Option ℕ) → IfSome o (λ n. IsSome (cs.node n)) → IfSome o (λ n. IsSome (mid.node n))
unfolding put_node
still_there cs mid own next there put None h = h
still_there cs mid own next there put (Some n) h =
    let w = there_is (cs.node own) there in
    subst (λ (d : Cells). IsSome (d.node n)) (sym (put (w.0) (w.1))) (by (n == own))
  where
    by : (t : Bool) → IsSome (cond t (Some (next ((there_is (cs.node own) there).0))) (cs.node n))
    by true = refl
    by false = h

-- ---- the step
module _ (shape : Shape) (c : Call) (cs : Cells) (own : Node) (f : Fault) (o : Option ℕ) (ready : IsRefusable shape c cs own o f) where
  own_there : IsSome (cs.node c.node)
  own_there = let h = ready.has in some_there (cs.node c.node) h.own h.own_there

  fits_of : (s : Network) (home : ℕ → ℕ) → CellsFit shape s home cs → FitsNode s c.node (held_map own) (arrived_map own)
  fits_of s home fit =
      let h = ready.has in
      subst (λ (n : Node). FitsNode s c.node (held_map n) (arrived_map n)) (sym ready.own_is) (fit.nodes c.node h.own h.own_there)

  legal : (s : Network) (home : ℕ → ℕ) → IsStanding shape s home → CellsFit shape s home cs → IsLegalEntry shape s (said c (reply.Error f))
  legal s home standing fit =
      let e = ready.refused s home standing fit in
      legal_entry shape s c None (reply.Error f) ready.range (ready.allowed).node (ready.allowed).instr (λ n i. absurd (no_some n i)) (sym (refused_draws_none shape s c f e)) (reply_refused shape s c 0 f e)

  module _ (next : Node) (there : (n : ℕ) → o ≡ Some n → (w : NodeValues) × (cs.node n ≡ Some w) × (w.now ≡ next)) where
    no_slot : (a b d : Bool) → (a && b) ≡ false → (a && b && d) ≡ false
    no_slot true b d e = ap (λ t. t && d) e
    no_slot false b d e = refl

    stays : (s : Network) (home : ℕ → ℕ) → CellsFit shape s home cs → ChangesFit shape s home (said c (reply.Error f)) (of_nodes c.node own o next)
    unfolding advance is_error homes_step touches_slot touches_pool
    stays s home fit = record {
      nodes_touched = λ m. refused_touches shape c m None f ∙ ap (λ (p : Option ℕ). (c.node == m) || holds_of p (λ n. n == m)) (sym ready.looked) ∙ numbers_of c.node own o next m;
      pool_touched = refl;
      slots_touched = λ t. no_slot (is_general (reply.Error f)) (is_gate (kind_of c.command.instr)) (operand_in_slot s home c t (kind_of c.command.instr)) ready.no_gate;
      nodes = nodes_are (λ m n. FitsNode s m (held_map n) (arrived_map n)) c.node own o next (fits_of s home fit)
          (λ n e. let w = there n e in subst (λ (v : Node). FitsNode s n (held_map v) (arrived_map v)) (w.2) (fit.nodes n (w.0) (w.1)));
      pool = λ p e. absurd (no_some p e);
      slots = λ t a e. absurd (no_some a e);
    }

    refused_done : IsStepBy shape cs (of_nodes c.node own o next) (said c (reply.Error f))
    refused_done s home standing fit = (legal s home standing fit, stays s home fit)

  looked_at : (b : Bool) (other : Option ℕ) (n : ℕ) → Some n ≡ cond b other None → other ≡ Some n
  looked_at true other n e = sym e
  looked_at false other n e = absurd (never e)
    where
      never : Some n ≡ None → ⊥
      never g = cc

  other_there : (n : ℕ) → o ≡ Some n → IsSome (cs.node n)
  other_there n e = let h = ready.has in h.other n (looked_at (is_remote_refusal (reply.Error f)) (other_of shape c) n (sym e ∙ ready.looked))

  pub refusal_prepared : (mid : Cells) → ((w : NodeValues) → cs.node c.node ≡ Some w → mid ≡ put_node cs c.node (record w { next = Some own })) → (new : Cells)
      → MatchOption o (new ≡ mid) (λ n. (w : NodeValues) → mid.node n ≡ Some w → new ≡ put_node mid n (record w { next = Some w.now }))
      → IsPreparedStep shape cs new (in_nodes c (reply.Error f) o)
  refusal_prepared mid put new = by o refl
    where
      first : mid ≡ changed cs (of_nodes c.node own None own)
      first = one_node cs cs mid mid ready.unprepared refl c.node own own_there put

      same : (a b : NodeValues) → Some a ≡ Some b → a.now ≡ b.now
      same a b i = ap (λ p. NodeValues.now (unwrap_or p b)) i

      by : (p : Option ℕ) → o ≡ p → MatchOption p (new ≡ mid) (λ n. (w : NodeValues) → mid.node n ≡ Some w → new ≡ put_node mid n (record w { next = Some w.now })) → IsPreparedStep shape cs new (in_nodes c (reply.Error f) p)
      by None e kept = record {
        changes = of_nodes c.node own None own;
        after = kept ∙ first;
        named = named_in_nodes c own (reply.Error f) None own;
        there = all_there cs _ (own_there, (tt, (tt, (tt, tt))));
        step = subst (λ (p : Option ℕ). IsStepBy shape cs (of_nodes c.node own p own) (said c (reply.Error f))) e (refused_done own (λ n i. absurd (no_some n (sym e ∙ i))));
      }
      by (Some n) e kept =
          let w = there_is (cs.node n) (other_there n e) in record {
            changes = of_nodes c.node own (Some n) ((w.0).now);
            after = two_nodes cs cs mid new ready.unprepared refl c.node own own_there put n ((w.0).now) (other_there n e) (again (w.0) (w.1));
            named = named_in_nodes c own (reply.Error f) (Some n) ((w.0).now);
            there = all_there cs _ (own_there, (other_there n e, (tt, (tt, tt))));
            step = subst (λ (p : Option ℕ). IsStepBy shape cs (of_nodes c.node own p ((w.0).now)) (said c (reply.Error f))) e (refused_done ((w.0).now) (there (w.0) (w.1)));
          }
        where
          number : (k : ℕ) → Some n ≡ Some k → n ≡ k
          number k i = cc

          there : (v : NodeValues) → cs.node n ≡ Some v → (k : ℕ) → o ≡ Some k → (u : NodeValues) × (cs.node k ≡ Some u) × (u.now ≡ v.now)
          there v at k i = (v, ap cs.node (sym (number k (sym e ∙ i))) ∙ at, refl)

          again : (v : NodeValues) → cs.node n ≡ Some v → (u : NodeValues) → mid.node n ≡ Some u → new ≡ put_node mid n (record u { next = Some v.now })
          again v at u here =
              kept u here
              ∙ ap (λ (x : Node). put_node mid n (record u { next = Some x }))
              (same u (with_next_node (change_at (of_nodes c.node own None own).nodes n) v)
              (sym here ∙ ap (λ (d : Cells). d.node n) first ∙ changed-node_at cs (of_nodes c.node own None own) n v at))
