-- Cells that are put: what is there afterwards, and that putting what is there changes nothing.
use Rattle.std.proofs.Common.{◌≡◌, ◌≢◌, ℕ, ◌==◌, Bool, true, false, cond, Option, Some, None, IsSome, refl, sym, ap, subst, ◌∙◌}
use mathlib.Core.Path.{fun_ext}
use Rattle.state_model.proofs.Booleans.{eq_true, eq_false, eq_of}
use Rattle.core_cells.specs.Nodes.{NodeValues}
use Rattle.core_cells.specs.declared.cells.PoolPair.{PoolPair}
use Rattle.core_cells.specs.declared.cells.SlotCell.{SlotCell}
use Rattle.core_cells.specs.Cells.{Cells, put_node, put_pool, put_slot}

-- cells are the same where their nodes, pool and slots are
pub cells_by : (a b : Cells) → ((m : ℕ) → a.node m ≡ b.node m) → a.pool ≡ b.pool → ((t : ℕ) → a.slot t ≡ b.slot t) → a ≡ b
cells_by a b nodes pool slots =
    ap (λ f. record a { node = f }) (fun_ext nodes)
    ∙ ap (λ p. record a { node = b.node; pool = p }) pool
    ∙ ap (λ f. record b { slot = f }) (fun_ext slots)

-- ---- options, read at a number where one of them was put
pub at_put : {A : Type 0} (get : ℕ → Option A) (k : ℕ) (w : A) → cond (k == k) (Some w) (get k) ≡ Some w
at_put get k w = ap (λ b. cond b (Some w) (get k)) (eq_true k k refl)

pub beside_put : {A : Type 0} (get : ℕ → Option A) (k m : ℕ) (w : A) → m ≢ k → cond (m == k) (Some w) (get m) ≡ get m
beside_put get k m w other = ap (λ b. cond b (Some w) (get m)) (eq_false m k other)

still_there : {A : Type 0} (get : ℕ → Option A) (k m : ℕ) (w : A) → get k ≡ Some w → cond (m == k) (Some w) (get m) ≡ get m
still_there get k m w is = by (m == k) refl
  where
    by : (b : Bool) → (m == k) ≡ b → cond (m == k) (Some w) (get m) ≡ get m
    by true e = ap (λ b. cond b (Some w) (get m)) e ∙ sym (ap get (eq_of m k e) ∙ is)
    by false e = ap (λ b. cond b (Some w) (get m)) e

some_put : {A : Type 0} (b : Bool) (o : Option A) (w : A) → IsSome o → IsSome (cond b (Some w) o)
some_put true o w h = refl
some_put false o w h = h

value_or : {A : Type 0} → A → Option A → A
value_or d None = d
value_or d (Some w) = w

pub some_value : {A : Type 0} (v w : A) → Some w ≡ Some v → w ≡ v
unfolding value_or
some_value v w is = ap (value_or v) is

-- ---- a cell that was put is there, and the others are as before
pub node_put : (cs : Cells) (k : ℕ) (w : NodeValues) → (put_node cs k w).node k ≡ Some w
unfolding put_node
node_put cs k w = at_put cs.node k w

pub slot_put : (cs : Cells) (k : ℕ) (w : SlotCell) → (put_slot cs k w).slot k ≡ Some w
unfolding put_slot
slot_put cs k w = at_put cs.slot k w

pub slot_beside : (cs : Cells) (k m : ℕ) (w : SlotCell) → m ≢ k → (put_slot cs k w).slot m ≡ cs.slot m
unfolding put_slot
slot_beside cs k m w other = beside_put cs.slot k m w other

-- ---- putting what is there changes nothing
pub put_node_same : (cs : Cells) (k : ℕ) (w : NodeValues) → cs.node k ≡ Some w → put_node cs k w ≡ cs
unfolding put_node
put_node_same cs k w is = λ i. record cs { node = λ m. still_there cs.node k m w is i }

pub put_pool_same : (cs : Cells) (w : PoolPair) → cs.pool ≡ Some w → put_pool cs w ≡ cs
unfolding put_pool
put_pool_same cs w is = λ i. record cs { pool = sym is i }

pub put_slot_same : (cs : Cells) (k : ℕ) (w : SlotCell) → cs.slot k ≡ Some w → put_slot cs k w ≡ cs
unfolding put_slot
put_slot_same cs k w is = λ i. record cs { slot = λ m. still_there cs.slot k m w is i }

-- ---- two slots put one after the other, where a lender's value follows each put
pub two_slots_put : {X : Type 0} (cells : X → Cells) (with_slot : X → ℕ → SlotCell → X)
    → ((b : X) (k : ℕ) (w : SlotCell) → IsSome ((cells b).slot k) → cells (with_slot b k w) ≡ put_slot (cells b) k w)
    → (b : X) (i j : ℕ) (v w : SlotCell) → IsSome ((cells b).slot i) → IsSome ((cells b).slot j) → cells (with_slot (with_slot b i v) j w) ≡ put_slot (put_slot (cells b) i v) j w
unfolding put_slot
two_slots_put cells with_slot is_put b i j v w has_i has_j =
    let first : cells (with_slot b i v) ≡ put_slot (cells b) i v = is_put b i v has_i in
    let still : IsSome ((cells (with_slot b i v)).slot j) = subst (λ (cs : Cells). IsSome (cs.slot j)) (sym first) (some_put (j == i) ((cells b).slot j) v has_j) in
    is_put (with_slot b i v) j w still ∙ ap (λ (cs : Cells). put_slot cs j w) first
