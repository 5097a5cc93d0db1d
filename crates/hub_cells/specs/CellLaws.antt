-- The laws of cells: what is settled or forgotten has no next value, and what an entry doesn't touch stays.
use Rattle.std.proofs.Common.{ℕ, ◌≡◌, ◌+◌, ◌-◌, ◌<◌, ◌≤◌, ◌==◌, nat_lt, true, false, cond, List, [], ◌∷◌, ◌++◌, length, refl, sym, ap, subst, ◌∙◌, arith}
use Rattle.state_model.proofs.Booleans.{eq_true, eq_false}
use Rattle.state_model.specs.Row.{is_listed}
use Rattle.state_model.specs.StateVector.{Vector, IsPart}
use Rattle.state_model.specs.Registers.{Register, register_vector}
use Rattle.state_model.proofs.Parts.{part_unique, part_along}
use Rattle.cell_laws.proofs.Lengths.{HaveSameMembers, part_members}
use Rattle.network_model.proofs.Soundness.{legal_histories_are_sound}
use Rattle.network_model.specs.Network.{Network, Shape}
use Rattle.network_model.specs.History.{IsLegal, after}
use Rattle.network_model.specs.Factored.{FitsNode, FitsPool, FitsSlot, homes_after, touches_node, touches_pool, touches_slot}
use Rattle.network_model.specs.declared.Entry.{Entry}
use Rattle.network_model.proofs.HistoryLaws.{slots_fit_legal_histories, nodes_fit_legal_histories, pool_fits_legal_histories}
use Rattle.virtual_node.specs.Node.{Node as NodeIs, held_map, arrived_map}
use Rattle.core_cells.specs.Cells.{forgotten_node, forgotten_pool, forgotten_slot, register_of}
use Rattle.core_cells.specs.Nodes.{NodeValues}
use Rattle.core_cells.specs.Pool.{Pool as PoolIs}
use Rattle.core_cells.specs.declared.cells.PoolPair.{PoolPair}
use Rattle.core_cells.specs.declared.cells.SlotCell.{SlotCell}
use Rattle.commit_journal.specs.Touching.{touches}
use Rattle.hub_cells.specs.declared.cell.Cell.{Cell}
use Rattle.hub_cells.specs.declared.cell.Cell.TheVariants.{Node, Pool, Slot}
use Rattle.hub_cells.specs.Cell.{has_next, settled_cell, forgotten_cell, FitsCell}

pub none_settled_is : (c : Cell) → has_next (settled_cell c) ≡ false
none_settled_is (Node w) = refl
none_settled_is (Pool w) = refl
none_settled_is (Slot w) = refl

pub none_forgotten_is : (c : Cell) → has_next (forgotten_cell c) ≡ false
none_forgotten_is (Node w) = refl
none_forgotten_is (Pool w) = refl
none_forgotten_is (Slot w) = refl

-- ---- what cells are equal
abbrev node_or : NodeValues → Cell → NodeValues
node_or d (Node w) = w
node_or d _ = d

abbrev pool_or : PoolPair → Cell → PoolPair
pool_or d (Pool w) = w
pool_or d _ = d

abbrev slot_or : SlotCell → Cell → SlotCell
slot_or d (Slot w) = w
slot_or d _ = d

pub same_node : (v w : NodeValues) → Node v ≡ Node w → v ≡ w
same_node v w e = ap (node_or v) e

pub same_pool : (v w : PoolPair) → Pool v ≡ Pool w → v ≡ w
same_pool v w e = ap (pool_or v) e

pub same_slot : (v w : SlotCell) → Slot v ≡ Slot w → v ≡ w
same_slot v w e = ap (slot_or v) e

-- ---- cells that fit
module _ (shape : Shape) (n : ℕ) (h : List Entry) where
  pub node_fits : (w : NodeValues) → n < length shape.places → FitsNode (after shape h) n (held_map w.now) (arrived_map w.now) → FitsCell shape n (Node w) h
  node_fits w low fits = record {
    node = λ v e. subst (λ (u : NodeValues). (n < length shape.places) × FitsNode (after shape h) n (held_map u.now) (arrived_map u.now)) (same_node w v e) (low, fits);
    pool = λ v e. absurd (cc (e));
    slot = λ v e. absurd (cc (e));
  }

  pub pool_fits : (w : PoolPair) → n ≡ length shape.places → FitsPool shape (after shape h) (homes_after shape h) w.now.numbers w.now.slots w.now.pairs → FitsCell shape n (Pool w) h
  pool_fits w is fits = record {
    node = λ v e. absurd (cc (e));
    pool = λ v e. subst (λ (u : PoolPair). (n ≡ length shape.places) × FitsPool shape (after shape h) (homes_after shape h) u.now.numbers u.now.slots u.now.pairs) (same_pool w v e) (is, fits);
    slot = λ v e. absurd (cc (e));
  }

  pub slot_fits : (w : SlotCell) → length shape.places + 1 ≤ n → FitsSlot shape (after shape h) (homes_after shape h) (n - (length shape.places + 1)) (register_of w.register) → FitsCell shape n (Slot w) h
  slot_fits w high fits = record {
    node = λ v e. absurd (cc (e));
    pool = λ v e. absurd (cc (e));
    slot = λ v e. subst (λ (u : SlotCell). (length shape.places + 1 ≤ n) × FitsSlot shape (after shape h) (homes_after shape h) (n - (length shape.places + 1)) (register_of u.register)) (same_slot w v e) (high, fits);
  }

pub value_stays_as : (shape : Shape) (n : ℕ) (c : Cell) (h : List Entry) → FitsCell shape n c h → FitsCell shape n (forgotten_cell c) h
value_stays_as shape n (Node w) h fits = let f = fits.node w refl in node_fits shape n h (forgotten_node w) f.0 f.1
value_stays_as shape n (Pool w) h fits = let f = fits.pool w refl in pool_fits shape n h (forgotten_pool w) f.0 f.1
value_stays_as shape n (Slot w) h fits = let f = fits.slot w refl in slot_fits shape n h (forgotten_slot w) f.0 f.1

-- ---- which cell a number is: of a node, of the pool, or of a slot
lt_true : (n m : ℕ) → n < m → nat_lt n m ≡ true
lt_true n m low = grind arith

lt_false : (n m : ℕ) → m ≤ n → nat_lt n m ≡ false
lt_false n m high = grind arith

module _ {A : Type 0} (n m : ℕ) (node pool slot : A) where
  pub by_node : n < m → cond (nat_lt n m) node (cond (n == m) pool slot) ≡ node
  by_node low = ap (λ b. cond b node (cond (n == m) pool slot)) (lt_true n m low)

  pub by_pool : n ≡ m → cond (nat_lt n m) node (cond (n == m) pool slot) ≡ pool
  by_pool is = ap (λ b. cond b node (cond (n == m) pool slot)) (lt_false n m (omega arith)) ∙ ap (λ b. cond b pool slot) (eq_true n m is)

  pub by_slot : m + 1 ≤ n → cond (nat_lt n m) node (cond (n == m) pool slot) ≡ slot
  by_slot high = ap (λ b. cond b node (cond (n == m) pool slot)) (lt_false n m (omega arith)) ∙ ap (λ b. cond b pool slot) (eq_false n m (λ is. absurd (omega arith)))

module _ (shape : Shape) (h : List Entry) (e : Entry) (n : ℕ) where
  pub touches_a_node : n < length shape.places → touches shape h e n ≡ touches_node shape e n
  unfolding touches
  touches_a_node low = by_node n (length shape.places) _ _ _ low

  pub touches_the_pool : n ≡ length shape.places → touches shape h e n ≡ touches_pool (after shape h) e
  unfolding touches
  touches_the_pool is = by_pool n (length shape.places) _ _ _ is

  pub touches_a_slot : length shape.places + 1 ≤ n → touches shape h e n ≡ touches_slot (after shape h) (homes_after shape h) e (n - (length shape.places + 1))
  unfolding touches
  touches_a_slot high = by_slot n (length shape.places) _ _ _ high

-- a cell that fits a history and that the next entry doesn't touch fits it with that entry
pub untouched_stays : (shape : Shape) (n : ℕ) (c : Cell) (h : List Entry) (e : Entry) → 1 ≤ shape.limit → IsLegal shape (h ++ e ∷ []) → FitsCell shape n c h → touches shape h e n ≡ false → FitsCell shape n c (h ++ e ∷ [])
untouched_stays shape n c h e limit legal fits missed = record {
  node = λ w is. let f = fits.node w is in
      (f.0, nodes_fit_legal_histories shape h e n (held_map w.now) (arrived_map w.now) limit legal f.1 (sym (touches_a_node shape h e n f.0) ∙ missed));
  pool = λ w is. let f = fits.pool w is in
      (f.0, pool_fits_legal_histories shape h e w.now.numbers w.now.slots w.now.pairs limit legal f.1 (sym (touches_the_pool shape h e n f.0) ∙ missed));
  slot = λ w is. let f = fits.slot w is in
      (f.0, slots_fit_legal_histories shape h e (n - (length shape.places + 1)) (register_of w.register) limit legal f.1 (sym (touches_a_slot shape h e n f.0) ∙ missed));
}

-- ---- values that fit one history alike fit every history alike
alike_node : (s t : Network) (n : ℕ) (v w : NodeIs) → FitsNode s n (held_map v) (arrived_map v) → FitsNode s n (held_map w) (arrived_map w) → FitsNode t n (held_map v) (arrived_map v) → FitsNode t n (held_map w) (arrived_map w)
alike_node s t n v w a b e = record { handles = λ app id. b.handles app id ∙ sym (a.handles app id) ∙ e.handles app id; queues = λ app line. b.queues app line ∙ sym (a.queues app line) ∙ e.queues app line }

alike_pool : (shape : Shape) (s t : Network) (f g : ℕ → ℕ) (v w : PoolIs) → FitsPool shape s f v.numbers v.slots v.pairs → FitsPool shape s f w.numbers w.slots w.pairs → FitsPool shape t g v.numbers v.slots v.pairs → FitsPool shape t g w.numbers w.slots w.pairs
alike_pool shape s t f g v w a b e = record {
  numbers_free = λ q. b.numbers_free q ∙ sym (a.numbers_free q) ∙ e.numbers_free q;
  slots_free = λ u. b.slots_free u ∙ sym (a.slots_free u) ∙ e.slots_free u;
  made = b.made ∙ sym a.made ∙ e.made;
}

module _ (shape : Shape) (h k : List Entry) (limit : 1 ≤ shape.limit) (legal : IsLegal shape h) (t : ℕ) (r u : Register)
    (r_h : FitsSlot shape (after shape h) (homes_after shape h) t r) (u_h : FitsSlot shape (after shape h) (homes_after shape h) t u) (r_k : FitsSlot shape (after shape k) (homes_after shape k) t r) where
  members : HaveSameMembers r.qubits u.qubits
  members q = r_h.homes q ∙ sym (u_h.homes q)

  turned : HaveSameMembers u.qubits r.qubits
  turned q = sym (members q)

  -- both are parts of the first vector on the same qubits, so they are the same up to scale, and the second is a part of the other vector too
  alike_slot : FitsSlot shape (after shape k) (homes_after shape k) t u
  alike_slot = record {
    limit = u_h.limit;
    homes = λ q. sym (members q) ∙ r_k.homes q;
    group = λ p q i. r_k.group p q (members p ∙ i) ∙ members q;
    part = λ p i.
        let j : is_listed r.qubits p ≡ true = members p ∙ i in
        let ur : Vector = register_vector r.qubits r.list in
        let uu : Vector = register_vector u.qubits u.list in
        let here : IsPart (after shape h).vector r.qubits uu = part_members u.qubits r.qubits (after shape h).vector uu turned (u_h.part p i) in
        let same = part_unique r.qubits (after shape h).vector ur uu ((legal_histories_are_sound shape h limit legal).some_row) (r_h.part p j) here in
        part_members r.qubits u.qubits (after shape k).vector uu members (part_along r.qubits (after shape k).vector ur uu (r_k.part p j) here.over same);
  }

pub alike_fits : (shape : Shape) (n : ℕ) (c d : Cell) (h k : List Entry) → 1 ≤ shape.limit → IsLegal shape h → FitsCell shape n c h → FitsCell shape n d h → FitsCell shape n c k → FitsCell shape n d k
alike_fits shape n (Node v) d h k limit legal c_h d_h c_k = let a = c_h.node v refl in let e = c_k.node v refl in record {
  node = λ w is. let b = d_h.node w is in (e.0, alike_node (after shape h) (after shape k) n v.now w.now a.1 b.1 e.1);
  pool = λ w is. let b = d_h.pool w is in absurd (omega (arith, a.0, b.0));
  slot = λ w is. let b = d_h.slot w is in absurd (omega (arith, a.0, b.0));
}
alike_fits shape n (Pool v) d h k limit legal c_h d_h c_k = let a = c_h.pool v refl in let e = c_k.pool v refl in record {
  node = λ w is. let b = d_h.node w is in absurd (omega (arith, a.0, b.0));
  pool = λ w is. let b = d_h.pool w is in (e.0, alike_pool shape (after shape h) (after shape k) (homes_after shape h) (homes_after shape k) v.now w.now a.1 b.1 e.1);
  slot = λ w is. let b = d_h.slot w is in absurd (omega (arith, a.0, b.0));
}
alike_fits shape n (Slot v) d h k limit legal c_h d_h c_k = let a = c_h.slot v refl in let e = c_k.slot v refl in record {
  node = λ w is. let b = d_h.node w is in absurd (omega (arith, a.0, b.0));
  pool = λ w is. let b = d_h.pool w is in absurd (omega (arith, a.0, b.0));
  slot = λ w is. let b = d_h.slot w is in (e.0, alike_slot shape h k limit legal (n - (length shape.places + 1)) (register_of v.register) (register_of w.register) a.1 b.1 e.1);
}
