-- Cells with next values: what is put there adds to what is prepared, and what they are when all is settled or forgotten.
-- The main result is `settled-fit`: a step that fits makes cells that fit the state after it.
use Rattle.std.proofs.Common.{ℕ, ◌≡◌, ◌==◌, Bool, true, false, cond, List, ◌∷◌, Option, Some, None, IsSome, is_some, option_map, unwrap_or, refl, sym, ap, subst, ◌∙◌}
use Rattle.state_model.specs.Amplitudes.{Amplitudes}
use Rattle.state_model.proofs.Booleans.{eq_of, clash}
use Rattle.amplitude_register.specs.States.{RegisterState, empty, prepared}
use Rattle.network_model.specs.Network.{Network, Shape}
use Rattle.network_model.specs.History.{IsLegalEntry, advance}
use Rattle.network_model.specs.Factored.{FitsNode, FitsSlot, FitsPool, homes_step}
use Rattle.network_model.specs.declared.Entry.{Entry}
use Rattle.network_model.proofs.NodeLaws.{untouched_nodes_fit, untouched_pool_fits}
use Rattle.network_model.proofs.SlotLaws.{untouched_slots_fit}
use Rattle.virtual_node.specs.Node.{Node, held_map, arrived_map}
use Rattle.cell_laws.specs.Standing.{IsStanding}
use Rattle.core_cells.specs.Pool.{Pool}
use Rattle.core_cells.specs.Cells.{Cells, CellsFit, put_node, put_pool, put_slot, settled, settled_node, settled_pool, settled_slot, forgotten, forgotten_node, forgotten_pool, forgotten_slot, IsUnprepared, register_of}
use Rattle.core_cells.specs.Nodes.{NodeValues}
use Rattle.core_cells.specs.declared.cells.PoolPair.{PoolPair}
use Rattle.core_cells.specs.declared.cells.SlotCell.{SlotCell}
use Rattle.core_cells.proofs.CellLemmas.{cells_by}
use Rattle.factored_core.specs.Changes.{Changes, no_changes, change_at, changed, with_next_node, with_next_pool, with_next_slot, ChangesFit, register_with}
use Rattle.factored_core.specs.Slots.{HasPrepared, IsGated, IsKeptFrom}
use Rattle.state_model.specs.declared.Gate.{Gate}
use Rattle.std.specs.Prelude.{MatchResult, Result, Ok, Err}
use Rattle.amplitude_register.specs.declared.register.TooLarge.{TooLarge}

-- what is mapped is there, from what is there
pub there : {A B : Type 0} (f : A → B) (o : Option A) (b : B) → option_map f o ≡ Some b → (a : A) × ((o ≡ Some a) × (f a ≡ b))
there f None b e = absurd (no_some b e)
  where
    no_some : {B : Type 0} (b : B) → None ≡ Some b → ⊥
    no_some b e = clash (sym (ap is_some e))
there f (Some a) b e = (a, (refl, ap (λ o. unwrap_or o b) e))

-- ---- nothing is prepared
node_start : (o : Option NodeValues) → ((w : NodeValues) → o ≡ Some w → w.next ≡ None) → o ≡ option_map (with_next_node None) o
node_start None free = refl
node_start (Some w) free = ap (λ n. Some (record w { next = n })) (free w refl)

pool_start : (o : Option PoolPair) → ((w : PoolPair) → o ≡ Some w → w.next ≡ None) → o ≡ option_map (with_next_pool None) o
pool_start None free = refl
pool_start (Some w) free = ap (λ n. Some (record w { next = n })) (free w refl)

slot_start : (o : Option SlotCell) → ((w : SlotCell) → o ≡ Some w → w.register.next ≡ empty) → o ≡ option_map (with_next_slot None) o
slot_start None free = refl
slot_start (Some w) free = ap (λ n. Some (record { register = record w.register { next = n } })) (free w refl)

pub changed-none : (cs : Cells) → IsUnprepared cs → cs ≡ changed cs no_changes
unfolding changed
changed-none cs free = cells_by cs (changed cs no_changes) (λ m. node_start (cs.node m) (free.node m)) (pool_start cs.pool free.pool) (λ t. slot_start (cs.slot t) (free.slot t))

-- ---- one more next value
pub changed-node : (cs : Cells) (ch : Changes) (k : ℕ) (n : Node) (w : NodeValues) → (changed cs ch).node k ≡ Some w
    → put_node (changed cs ch) k (record w { next = Some n }) ≡ changed cs (record ch { nodes = (k, n) ∷ ch.nodes })
unfolding changed put_node
changed-node cs ch k n w is = cells_by (put_node (changed cs ch) k (record w { next = Some n })) (changed cs (record ch { nodes = (k, n) ∷ ch.nodes })) (λ m. by m (m == k) refl) refl (λ t. refl)
  where
    here : (m : ℕ) → m ≡ k → Some (record w { next = Some n }) ≡ option_map (with_next_node (Some n)) (cs.node m)
    here m e =
        let x = there (with_next_node (change_at ch.nodes k)) (cs.node k) w is in
        ap (λ v. Some (with_next_node (Some n) v)) (sym (x.1.1)) ∙ ap (option_map (with_next_node (Some n))) (sym (x.1.0)) ∙ ap (λ i. option_map (with_next_node (Some n)) (cs.node i)) (sym e)

    by : (m : ℕ) (t : Bool) → (m == k) ≡ t → cond (m == k) (Some (record w { next = Some n })) (option_map (with_next_node (change_at ch.nodes m)) (cs.node m)) ≡ option_map (with_next_node (cond (m == k) (Some n) (change_at ch.nodes m))) (cs.node m)
    by m true e =
        ap (λ t. cond t (Some (record w { next = Some n })) (option_map (with_next_node (change_at ch.nodes m)) (cs.node m))) e
        ∙ here m (eq_of m k e) ∙ ap (λ t. option_map (with_next_node (cond t (Some n) (change_at ch.nodes m))) (cs.node m)) (sym e)
    by m false e =
        ap (λ t. cond t (Some (record w { next = Some n })) (option_map (with_next_node (change_at ch.nodes m)) (cs.node m))) e
        ∙ ap (λ t. option_map (with_next_node (cond t (Some n) (change_at ch.nodes m))) (cs.node m)) (sym e)

pub changed-pool : (cs : Cells) (ch : Changes) (p : Pool) (w : PoolPair) → (changed cs ch).pool ≡ Some w
    → put_pool (changed cs ch) (record w { next = Some p }) ≡ changed cs (record ch { pool = Some p })
unfolding changed put_pool
changed-pool cs ch p w is =
    let x = there (with_next_pool ch.pool) cs.pool w is in
    cells_by (put_pool (changed cs ch) (record w { next = Some p })) (changed cs (record ch { pool = Some p })) (λ m. refl)
    (ap (λ v. Some (with_next_pool (Some p) v)) (sym (x.1.1)) ∙ ap (option_map (with_next_pool (Some p))) (sym (x.1.0))) (λ t. refl)

pub changed-slot : (cs : Cells) (ch : Changes) (k : ℕ) (a : Amplitudes) (w v : SlotCell) → (changed cs ch).slot k ≡ Some w → v.register ≡ record w.register { next = prepared a }
    → put_slot (changed cs ch) k v ≡ changed cs (record ch { slots = (k, a) ∷ ch.slots })
unfolding changed put_slot
changed-slot cs ch k a w v is made = cells_by (put_slot (changed cs ch) k v) (changed cs (record ch { slots = (k, a) ∷ ch.slots })) (λ m. refl) refl (λ t. by t (t == k) refl)
  where
    here : (t : ℕ) → t ≡ k → Some v ≡ option_map (with_next_slot (Some a)) (cs.slot t)
    here t e =
        let x = there (with_next_slot (change_at ch.slots k)) (cs.slot k) w is in
        ap (λ r. Some (record { register = r })) made ∙ ap (λ u. Some (with_next_slot (Some a) u)) (sym (x.1.1))
        ∙ ap (option_map (with_next_slot (Some a))) (sym (x.1.0)) ∙ ap (λ i. option_map (with_next_slot (Some a)) (cs.slot i)) (sym e)

    by : (t : ℕ) (b : Bool) → (t == k) ≡ b → cond (t == k) (Some v) (option_map (with_next_slot (change_at ch.slots t)) (cs.slot t)) ≡ option_map (with_next_slot (cond (t == k) (Some a) (change_at ch.slots t))) (cs.slot t)
    by t true e =
        ap (λ b. cond b (Some v) (option_map (with_next_slot (change_at ch.slots t)) (cs.slot t))) e
        ∙ here t (eq_of t k e) ∙ ap (λ b. option_map (with_next_slot (cond b (Some a) (change_at ch.slots t))) (cs.slot t)) (sym e)
    by t false e =
        ap (λ b. cond b (Some v) (option_map (with_next_slot (change_at ch.slots t)) (cs.slot t))) e
        ∙ ap (λ b. option_map (with_next_slot (cond b (Some a) (change_at ch.slots t))) (cs.slot t)) (sym e)

-- ---- a cell that is there is there with its next value
pub changed-node_at : (cs : Cells) (ch : Changes) (k : ℕ) (w : NodeValues) → cs.node k ≡ Some w → (changed cs ch).node k ≡ Some (with_next_node (change_at ch.nodes k) w)
unfolding changed
changed-node_at cs ch k w is = ap (option_map (with_next_node (change_at ch.nodes k))) is

pub changed-slot_at : (cs : Cells) (ch : Changes) (k : ℕ) (w : SlotCell) → cs.slot k ≡ Some w → (changed cs ch).slot k ≡ Some (with_next_slot (change_at ch.slots k) w)
unfolding changed
changed-slot_at cs ch k w is = ap (option_map (with_next_slot (change_at ch.slots k))) is

still_some : {A B : Type 0} (f : A → B) (o : Option A) → IsSome o → IsSome (option_map f o)
still_some f None h = h
still_some f (Some w) h = h

pub some_node : (cs : Cells) (ch : Changes) (k : ℕ) → IsSome (cs.node k) → IsSome ((changed cs ch).node k)
unfolding changed
some_node cs ch k = still_some (with_next_node (change_at ch.nodes k)) (cs.node k)

pub some_pool : (cs : Cells) (ch : Changes) → IsSome cs.pool → IsSome (changed cs ch).pool
unfolding changed
some_pool cs ch = still_some (with_next_pool ch.pool) cs.pool

pub some_slot : (cs : Cells) (ch : Changes) (k : ℕ) → IsSome (cs.slot k) → IsSome ((changed cs ch).slot k)
unfolding changed
some_slot cs ch k = still_some (with_next_slot (change_at ch.slots k)) (cs.slot k)

-- ---- all is forgotten
node_gone : (n : Option Node) (o : Option NodeValues) → ((w : NodeValues) → o ≡ Some w → w.next ≡ None) → option_map forgotten_node (option_map (with_next_node n) o) ≡ o
node_gone n None free = refl
node_gone n (Some w) free = ap (λ n. Some (record w { next = n })) (sym (free w refl))

pool_gone : (n : Option Pool) (o : Option PoolPair) → ((w : PoolPair) → o ≡ Some w → w.next ≡ None) → option_map forgotten_pool (option_map (with_next_pool n) o) ≡ o
pool_gone n None free = refl
pool_gone n (Some w) free = ap (λ n. Some (record w { next = n })) (sym (free w refl))

slot_gone : (n : Option Amplitudes) (o : Option SlotCell) → ((w : SlotCell) → o ≡ Some w → w.register.next ≡ empty) → option_map forgotten_slot (option_map (with_next_slot n) o) ≡ o
slot_gone n None free = refl
slot_gone n (Some w) free = ap (λ n. Some (record { register = record w.register { next = n } })) (sym (free w refl))

pub forgotten-changed : (cs : Cells) (ch : Changes) → IsUnprepared cs → forgotten (changed cs ch) ≡ cs
unfolding changed forgotten
forgotten-changed cs ch free = cells_by (forgotten (changed cs ch)) cs (λ m. node_gone (change_at ch.nodes m) (cs.node m) (free.node m)) (pool_gone ch.pool cs.pool free.pool) (λ t. slot_gone (change_at ch.slots t) (cs.slot t) (free.slot t))

-- ---- all is settled
module _ (shape : Shape) (s : Network) (home : ℕ → ℕ) (e : Entry) (cs : Cells) (ch : Changes) (standing : IsStanding shape s home) (fit : CellsFit shape s home cs) (legal : IsLegalEntry shape s e) (fits : ChangesFit shape s home e ch) where
  node_fits : (m : ℕ) (w : NodeValues) → cs.node m ≡ Some w → (o : Option Node) → change_at ch.nodes m ≡ o → FitsNode (advance shape s e) m (held_map (unwrap_or o w.now)) (arrived_map (unwrap_or o w.now))
  node_fits m w is None e' = untouched_nodes_fit shape s e m (held_map w.now) (arrived_map w.now) standing.sound legal (fit.nodes m w is) (fits.nodes_touched m ∙ ap is_some e')
  node_fits m w is (Some n) e' = fits.nodes m n e'

  pool_fits : (w : PoolPair) → cs.pool ≡ Some w → (o : Option Pool) → ch.pool ≡ o → FitsPool shape (advance shape s e) (homes_step s home e) (unwrap_or o w.now).numbers (unwrap_or o w.now).slots (unwrap_or o w.now).pairs
  pool_fits w is None e' = untouched_pool_fits shape s home e w.now.numbers w.now.slots w.now.pairs standing.sound standing.housed legal (fit.pool w is) (fits.pool_touched ∙ ap is_some e')
  pool_fits w is (Some p) e' = fits.pool p e'

  slot_fits : (t : ℕ) (w : SlotCell) → cs.slot t ≡ Some w → (o : Option Amplitudes) → change_at ch.slots t ≡ o → FitsSlot shape (advance shape s e) (homes_step s home e) t (register_of (settled_slot (with_next_slot o w)).register)
  slot_fits t w is None e' = untouched_slots_fit shape s home e t (register_of w.register) standing.sound legal (fit.slots t w is) (fits.slots_touched t ∙ ap is_some e')
  slot_fits t w is (Some a) e' = subst (λ l. FitsSlot shape (advance shape s e) (homes_step s home e) t (register_with l a)) (sym ((fit.slots t w is).limit)) (fits.slots t a e')

  pub settled-fit : CellsFit shape (advance shape s e) (homes_step s home e) (settled (changed cs ch))
  unfolding changed settled
  settled-fit = record {
    nodes = λ m v is.
        let x = there settled_node (option_map (with_next_node (change_at ch.nodes m)) (cs.node m)) v is in
        let y = there (with_next_node (change_at ch.nodes m)) (cs.node m) (x.0) (x.1.0) in
        subst (λ u. FitsNode (advance shape s e) m (held_map (NodeValues.now u)) (arrived_map (NodeValues.now u))) (ap settled_node (y.1.1) ∙ x.1.1) (node_fits m (y.0) (y.1.0) (change_at ch.nodes m) refl);
    pool = λ v is.
        let x = there settled_pool (option_map (with_next_pool ch.pool) cs.pool) v is in
        let y = there (with_next_pool ch.pool) cs.pool (x.0) (x.1.0) in
        subst (λ u. FitsPool shape (advance shape s e) (homes_step s home e) (PoolPair.now u).numbers (PoolPair.now u).slots (PoolPair.now u).pairs) (ap settled_pool (y.1.1) ∙ x.1.1) (pool_fits (y.0) (y.1.0) ch.pool refl);
    slots = λ t v is.
        let x = there settled_slot (option_map (with_next_slot (change_at ch.slots t)) (cs.slot t)) v is in
        let y = there (with_next_slot (change_at ch.slots t)) (cs.slot t) (x.0) (x.1.0) in
        subst (λ u. FitsSlot shape (advance shape s e) (homes_step s home e) t (register_of (SlotCell.register u))) (ap settled_slot (y.1.1) ∙ x.1.1) (slot_fits t (y.0) (y.1.0) (change_at ch.slots t) refl);
  }

-- ---- a slot's next value, whatever was prepared before
pub some_same : {A : Type 0} (a b : A) → Some a ≡ Some b → a ≡ b
some_same a b e = ap (λ o. unwrap_or o b) e

pub prepares : (old new : Cells) (t : ℕ) (x v : SlotCell) (R : RegisterState → RegisterState → Type 0) → old.slot t ≡ Some x → new ≡ put_slot old t v
    → (a : Amplitudes) → v.register ≡ record x.register { next = prepared a } → R x.register v.register → HasPrepared old new t R
prepares old new t x v R is put a made rel cs ch e w at =
    let here : (changed cs ch).slot t ≡ Some x = ap (λ (c : Cells). c.slot t) (sym e) ∙ is in
    let same : x ≡ with_next_slot (change_at ch.slots t) w = some_same _ _ (sym here ∙ changed-slot_at cs ch t w at) in
    let made' : v.register ≡ (with_next_slot (Some a) w).register = made ∙ ap (λ (c : SlotCell). record c.register { next = prepared a }) same in (
      a,
      (
        put ∙ ap (λ (c : Cells). put_slot c t v) e ∙ changed-slot cs ch t a x v here made,
        subst (λ (r : RegisterState). R (with_next_slot (change_at ch.slots t) w).register r) made' (subst (λ (c : SlotCell). R c.register v.register) same rel),
      ),
    )

-- what is there is there
pub some_there : {A : Type 0} (o : Option A) (a : A) → o ≡ Some a → IsSome o
some_there o a e = subst (λ p. IsSome p) (sym e) refl

-- a gate's result, or the value itself
pub gate_prepares : (old new : Cells) (t : ℕ) (x v : SlotCell) (g : Gate) (place : ℕ) (r : Result Unit TooLarge) → old.slot t ≡ Some x → new ≡ put_slot old t v
    → MatchResult r (λ _. IsGated g place x.register v.register) (λ _. IsKeptFrom g place x.register v.register)
    → MatchResult r (λ _. HasPrepared old new t (IsGated g place)) (λ _. HasPrepared old new t (IsKeptFrom g place))
gate_prepares old new t x v g place (Ok u) is put h = prepares old new t x v (IsGated g place) is put _ (h.applied).after h
gate_prepares old new t x v g place (Err e) is put h = prepares old new t x v (IsKeptFrom g place) is put _ h.same h

-- ---- a node's or the pool's next value is put beside what is prepared
pub there_is : {A : Type 0} (o : Option A) → IsSome o → (a : A) × (o ≡ Some a)
there_is None h = absurd (clash (sym h))
there_is (Some a) h = (a, refl)

pub node_prepared : (cs mid new : Cells) (ch : Changes) (k : ℕ) (n : Node) → mid ≡ changed cs ch → IsSome (cs.node k)
    → ((w : NodeValues) → mid.node k ≡ Some w → new ≡ put_node mid k (record w { next = Some n })) → new ≡ changed cs (record ch { nodes = (k, n) ∷ ch.nodes })
node_prepared cs mid new ch k n e has put =
    let w = there_is ((changed cs ch).node k) (some_node cs ch k has) in
    put (w.0) (ap (λ (c : Cells). c.node k) e ∙ w.1) ∙ ap (λ (c : Cells). put_node c k (record (w.0) { next = Some n })) e ∙ changed-node cs ch k n (w.0) (w.1)

pub pool_prepared : (cs mid new : Cells) (ch : Changes) (p : Pool) → mid ≡ changed cs ch → IsSome cs.pool
    → ((w : PoolPair) → mid.pool ≡ Some w → new ≡ put_pool mid (record w { next = Some p })) → new ≡ changed cs (record ch { pool = Some p })
pool_prepared cs mid new ch p e has put =
    let w = there_is ((changed cs ch).pool) (some_pool cs ch has) in
    put (w.0) (ap (λ (c : Cells). c.pool) e ∙ w.1) ∙ ap (λ (c : Cells). put_pool c (record (w.0) { next = Some p })) e ∙ changed-pool cs ch p (w.0) (w.1)

-- a cell is still there beside what is prepared
pub node_still : (cs mid : Cells) (ch : Changes) (k : ℕ) → mid ≡ changed cs ch → IsSome (cs.node k) → IsSome (mid.node k)
node_still cs mid ch k e has = subst (λ (c : Cells). IsSome (c.node k)) (sym e) (some_node cs ch k has)

pub pool_still : (cs mid : Cells) (ch : Changes) → mid ≡ changed cs ch → IsSome cs.pool → IsSome mid.pool
pool_still cs mid ch e has = subst (λ (c : Cells). IsSome c.pool) (sym e) (some_pool cs ch has)

pub slot_still : (cs mid : Cells) (ch : Changes) (k : ℕ) → mid ≡ changed cs ch → IsSome (cs.slot k) → IsSome (mid.slot k)
slot_still cs mid ch k e has = subst (λ (c : Cells). IsSome (c.slot k)) (sym e) (some_slot cs ch k has)

-- cells with next values that stand under the same numbers
pub changed-slots : (cs : Cells) (ch : Changes) (xs : List (ℕ × Amplitudes)) → ((t : ℕ) → change_at ch.slots t ≡ change_at xs t) → changed cs ch ≡ changed cs (record ch { slots = xs })
unfolding changed
changed-slots cs ch xs same = cells_by (changed cs ch) (changed cs (record ch { slots = xs })) (λ m. refl) refl (λ t. ap (λ o. option_map (with_next_slot o) (cs.slot t)) (same t))
