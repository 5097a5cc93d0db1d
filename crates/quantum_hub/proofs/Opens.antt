-- What a hub begins with.
use Rattle.std.proofs.Common.{ℕ, zero, suc, ◌≡◌, ◌+◌, ◌-◌, ◌<◌, ◌≤◌, List, [], ◌∷◌, ◌++◌, length, None, Some, slice_get, sym, ap, subst, ◌∙◌, arith}
use Rattle.network_model.specs.Network.{Shape, opening}
use Rattle.network_model.specs.History.{after}
use Rattle.network_model.specs.Factored.{FitsNode, FitsPool, FitsSlot, homes_after, homes_from}
use Rattle.virtual_node.specs.Node.{held_map, arrived_map}
use Rattle.core_cells.specs.Pool.{Pool}
use Rattle.core_cells.specs.Cells.{register_of}
use Rattle.core_cells.specs.Nodes.{NodeValues}
use Rattle.core_cells.specs.declared.cells.PoolPair.{PoolPair}
use Rattle.core_cells.specs.declared.cells.SlotCell.{SlotCell}
use Rattle.commit_journal.specs.Views.{Stamp, Worker}
use Rattle.hub_cells.specs.declared.cell.Cell.{Cell}
use Rattle.hub_cells.specs.declared.cell.Cell.TheVariants.{Node, Pool as PoolOf, Slot}
use Rattle.hub_cells.specs.Cell.{FitsCell}
use Rattle.quantum_hub.specs.Opening.{AreNumbered, AreFreshPasses}

same_some : {A : Type 0} (a b : A) → Some a ≡ Some b → a ≡ b
same_some a b e = cc (e)

node_is : (v w : NodeValues) → Node v ≡ Node w → v ≡ w
node_is v w e = cc (e)

pool_is : (v w : PoolPair) → PoolOf v ≡ PoolOf w → v ≡ w
pool_is v w e = cc (e)

slot_is : (v w : SlotCell) → Slot v ≡ Slot w → v ≡ w
slot_is v w e = cc (e)

-- ---- one cell
pub node_opens : (shape : Shape) (n : ℕ) (b p : NodeValues) → b ≡ p → n < length shape.places → FitsNode opening n (held_map p.now) (arrived_map p.now) → FitsCell shape n (Node b) []
unfolding after homes_after homes_from
node_opens shape n b p put low fits = record {
  node = λ w is. (low, subst (λ (v : NodeValues). FitsNode opening n (held_map v.now) (arrived_map v.now)) (sym put ∙ node_is b w is) fits);
  pool = λ w is. absurd (cc (is));
  slot = λ w is. absurd (cc (is));
}

pub pool_opens : (shape : Shape) (n : ℕ) (b : PoolPair) (p : Pool) → b ≡ record { now = p; next = None } → n ≡ length shape.places → FitsPool shape opening (λ q. 0) p.numbers p.slots p.pairs → FitsCell shape n (PoolOf b) []
unfolding after homes_after homes_from
pool_opens shape n b p put at fits = record {
  node = λ w is. absurd (cc (is));
  pool = λ w is. (at, subst (λ (v : PoolPair). FitsPool shape opening (λ q. 0) v.now.numbers v.now.slots v.now.pairs) (sym put ∙ pool_is b w is) fits);
  slot = λ w is. absurd (cc (is));
}

pub slot_opens : (shape : Shape) (n : ℕ) (b s : SlotCell) → b ≡ s → length shape.places + 1 ≤ n → FitsSlot shape opening (λ q. 0) (n - (length shape.places + 1)) (register_of s.register) → FitsCell shape n (Slot b) []
unfolding after homes_after homes_from
slot_opens shape n b s put past fits = record {
  node = λ w is. absurd (cc (is));
  pool = λ w is. absurd (cc (is));
  slot = λ w is. (past, subst (λ (v : SlotCell). FitsSlot shape opening (λ q. 0) (n - (length shape.places + 1)) (register_of v.register)) (sym put ∙ slot_is b w is) fits);
}

-- ---- one more in a list
get_last : {T : Type 0} (P : ℕ → T → Type 0) (xs : List T) (b : ℕ) (x : T) → ((k : ℕ) (y : T) → slice_get xs k ≡ Some y → P (b + k) y) → P (b + length xs) x → (k : ℕ) (y : T) → slice_get (xs ++ x ∷ []) k ≡ Some y → P (b + k) y
get_last P [] b x all last zero y at = subst (λ u. P (b + 0) u) (same_some x y at) last
get_last P [] b x all last (suc k) y at = absurd (cc (at))
get_last P (z ∷ xs) b x all last zero y at = all zero y at
get_last P (z ∷ xs) b x all last (suc k) y at =
    let r : P ((b + 1) + k) y = get_last P xs (b + 1) x (λ j u is. subst (λ n. P n u) (omega arith) (all (suc j) u is)) (subst (λ n. P n x) (omega arith) last) k y at in
    subst (λ n. P n y) (omega arith) r

pub numbered_none : AreNumbered []
numbered_none k c at = absurd (cc (at))

pub numbered_more : (xs : List (Stamp Cell)) (x : Stamp Cell) (n : ℕ) → AreNumbered xs → length xs ≡ n → x.number ≡ n → AreNumbered (xs ++ x ∷ [])
numbered_more xs x n all long is k c at =
    let r : c.number ≡ 0 + k = get_last (λ j (u : Stamp Cell). u.number ≡ j) xs 0 x (λ j u there. all j u there ∙ omega arith) (omega (arith, is, long)) k c at in
    omega (arith, r)

pub fresh_none : AreFreshPasses []
fresh_none k p at = absurd (cc (at))

pub fresh_more : (xs : List Worker) (x : Worker) (n : ℕ) → AreFreshPasses xs → length xs ≡ n → x ≡ record { seat = n; made = 0; seen = [] } → AreFreshPasses (xs ++ x ∷ [])
fresh_more xs x n all long is k p at =
    let z : (m : ℕ) → m ≡ 0 + m = λ m. omega arith in
    get_last (λ j (u : Worker). u ≡ record { seat = j; made = 0; seen = [] }) xs 0 x (λ j u there. all j u there ∙ ap (λ (m : ℕ). record { seat = m; made = 0; seen = [] }) (z j))
    (is ∙ ap (λ (m : ℕ). record { seat = m; made = 0; seen = [] }) (sym long ∙ z (length xs))) k p at ∙ ap (λ (m : ℕ). record { seat = m; made = 0; seen = [] }) (sym (z k))
