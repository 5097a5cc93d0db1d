-- A receipt changes a node as it changes the state: the first of a queue becomes a handle under the least id.
use Rattle.std.proofs.Common.{◌≡◌, ℕ, ◌==◌, Bool, true, false, ◌&&◌, List, [], ◌∷◌, ◌++◌, map, filter, Option, Some, refl, sym, ap, ◌∙◌}
use Rattle.state_model.proofs.Booleans.{clash, eq_true, eq_of, both_true}
use Rattle.cqc_model.specs.declared.PairInfo.{PairInfo}
use Rattle.network_model.specs.Network.{Network, Waiting, held_number, line_eq, is_in_queue, queue}
use Rattle.network_model.specs.Step.{without_first}
use Rattle.network_model.specs.Factored.{FitsNode}
use Rattle.network_model.specs.declared.Line.{Line}
use Rattle.qubit_handles.proofs.Firsts.{filter-without_first, filter-without_other}
use Rattle.qubit_handles.proofs.HandleLemmas.{least_is_free}
use Rattle.virtual_node.specs.Node.{Node, held_map, arrived_map, told_of}
use Rattle.virtual_node.specs.declared.arrival.Arrival.{Arrival}
use Rattle.virtual_node.proofs.NodeLemmas.{held_map-with_handle, line_of_eq, line_eq_of}
use Rattle.epr_transfer.specs.Transfer.{handle_of, first_waiting, next_id, received_by}
use Rattle.epr_transfer.proofs.TransferLemmas.{held_map-received, arrived_map-received, arrived_map-received_others}
use Rattle.factored_core.proofs.NodeChanges.{tell, found_head, more_handles}

module _ (s : Network) (m : ℕ) (n : Node) (fits : FitsNode s m (held_map n) (arrived_map n)) (app : ℕ) (l : Line) (a : Arrival) (found : first_waiting n app l ≡ Some a) where
  -- what the model's queue tells
  told : map tell (queue s m app l) ≡ told_of a ∷ arrived_map (received_by n app l) app l
  told = sym (fits.queues app l) ∙ arrived_map-received n app l a found

  -- the model's queue begins with the same qubit
  pub record IsFirst (e : Waiting) (es : List Waiting) : Type 0 where
    pub queue_is : queue s m app l ≡ e ∷ es
    pub number : Waiting.number e ≡ a.number
    pub info : Waiting.info e ≡ a.info
    pub rest : map tell es ≡ arrived_map (received_by n app l) app l

  pub first_is : (e : Waiting) × (es : List Waiting) × IsFirst e es
  first_is = by (queue s m app l) refl
    where
      none : {A : Type 0} (x : A) (xs : List A) → [] ≡ x ∷ xs → ⊥
      none x xs e = cc

      by : (ws : List Waiting) → queue s m app l ≡ ws → (e : Waiting) × (es : List Waiting) × IsFirst e es
      by [] f = absurd (none (told_of a) (arrived_map (received_by n app l) app l) (sym (ap (map tell) f) ∙ told))
      by (e ∷ es) f =
          let both : tell e ∷ map tell es ≡ told_of a ∷ arrived_map (received_by n app l) app l = sym (ap (map tell) f) ∙ told in
          let one : tell e ≡ told_of a = cc in
          let others : map tell es ≡ arrived_map (received_by n app l) app l = cc in
          (e, es, record { queue_is = f; number = ap (λ (p : ℕ × Option PairInfo). p.0) one; info = ap (λ (p : ℕ × Option PairInfo). p.1) one; rest = others })

  -- the received qubit's handle
  pub received_handles : (t : Network) (id : ℕ) → id ≡ next_id n app → t.held ≡ s.held ++ record { node = m; app = app; id = id; number = a.number } ∷ []
      → (b i : ℕ) → held_map (received_by n app l) b i ≡ held_number t m b i
  received_handles t id is e b i =
      held_map-received n app l a found b i
      ∙ sym (held_map-with_handle n (handle_of app (next_id n app) a.number) b i (least_is_free n.handles app (next_id n app) refl))
      ∙ more_handles s m n fits t app (next_id n app) a.number (e ∙ ap (λ k. s.held ++ record { node = m; app = app; id = k; number = a.number } ∷ []) is) (least_is_free n.handles app (next_id n app) refl) b i

  -- the queues without it
  pub received_queues : (t : Network) → t.waiting ≡ without_first (is_in_queue m app l) s.waiting → (b : ℕ) (k : Line) → arrived_map (received_by n app l) b k ≡ map tell (queue t m b k)
  unfolding queue
  received_queues t e b k = by ((b == app) && line_eq k l) refl ∙ sym (ap (λ ws. map tell (filter (is_in_queue m b k) ws)) e)
    where
      tail_of : {A : Type 0} (x y : A) (xs ys : List A) → x ∷ xs ≡ y ∷ ys → xs ≡ ys
      tail_of x y xs ys f = cc

      same : (e : Waiting) (es : List Waiting) → IsFirst e es → arrived_map (received_by n app l) app l ≡ map tell (filter (is_in_queue m app l) (without_first (is_in_queue m app l) s.waiting))
      same e es h =
          sym h.rest
          ∙ ap (map tell) (sym (tail_of e e _ es (sym (filter-without_first (is_in_queue m app l) s.waiting e (found_head (is_in_queue m app l) s.waiting e es h.queue_is)) ∙ h.queue_is)))

      apart : ((b == app) && line_eq k l) ≡ false → (w : Waiting) → is_in_queue m app l w ≡ true → is_in_queue m b k w ≡ false
      apart f w here = at (is_in_queue m b k w) refl
        where
          all_three : (x y z : Bool) → (x && y && z) ≡ true → (y ≡ true) × (z ≡ true)
          all_three true true true g = (refl, refl)
          all_three true true false g = cc
          all_three true false z g = cc
          all_three false y z g = cc

          at : (t : Bool) → is_in_queue m b k w ≡ t → is_in_queue m b k w ≡ false
          at false g = g
          at true g =
              let this = all_three (w.node == m) (w.app == app) (line_eq w.line l) (unfold is_in_queue in here) in
              let that = all_three (w.node == m) (w.app == b) (line_eq w.line k) (unfold is_in_queue in g) in
              absurd (clash (sym (ap (λ t. t && line_eq k l) (eq_true b app (sym (eq_of w.app b (that.0)) ∙ eq_of w.app app (this.0))) ∙ line_eq_of k l (sym (line_of_eq w.line k (that.1)) ∙ line_of_eq w.line l (this.1))) ∙ f))

      by : (t : Bool) → ((b == app) && line_eq k l) ≡ t → arrived_map (received_by n app l) b k ≡ map tell (filter (is_in_queue m b k) (without_first (is_in_queue m app l) s.waiting))
      by true f =
          let both = both_true (b == app) (line_eq k l) f in
          let first = first_is in
          ap (λ x. arrived_map (received_by n app l) x k) (eq_of b app (both.0)) ∙ ap (arrived_map (received_by n app l) app) (line_of_eq k l (both.1))
          ∙ same (first.0) (first.1) (first.2)
          ∙ sym (ap (λ x. map tell (filter (is_in_queue m x k) (without_first (is_in_queue m app l) s.waiting))) (eq_of b app (both.0))
          ∙ ap (λ x. map tell (filter (is_in_queue m app x) (without_first (is_in_queue m app l) s.waiting))) (line_of_eq k l (both.1)))
      by false f =
          arrived_map-received_others n app l a found b k f ∙ fits.queues b k
          ∙ ap (map tell) (sym (filter-without_other (is_in_queue m app l) (is_in_queue m b k) (apart f) s.waiting))
