-- Cells that are named: what is done to one cell, and to several in their order.
--     node_on, pool_on, slot_on    a cell that was put is the one that is named
--     one_more                     one cell before the others
--     left_there                   cells that are there stay there
use Rattle.std.proofs.Common.{◌≡◌, ℕ, suc, ◌+◌, ◌==◌, ◌<◌, ◌≤◌, Bool, true, false, cond, ◌||◌, List, [], ◌∷◌, drop, length, get_or, Option, Some, None, IsSome, option_map, refl, sym, ap, subst, ◌∙◌}
use Rattle.std.proofs.Math.Seq.{drop-cons}
use Rattle.std.proofs.Math.Numerals.{suc-eq-add-one}
use Rattle.std.proofs.lemmas.List.{drop_all}
use Rattle.state_model.proofs.Booleans.{clash, eq_of, eq_flip, or_true}
use Rattle.core_cells.specs.Nodes.{NodeValues}
use Rattle.core_cells.specs.declared.cells.PoolPair.{PoolPair}
use Rattle.core_cells.specs.declared.cells.SlotCell.{SlotCell}
use Rattle.core_cells.specs.declared.names.CellName.{CellName}
use Rattle.core_cells.specs.declared.names.CellName.TheVariants.{Node, Pool, Slot}
use Rattle.core_cells.specs.declared.names.Ending.{Ending}
use Rattle.core_cells.specs.declared.names.Ending.TheVariants.{Settle, Forget}
use Rattle.core_cells.specs.Cells.{Cells, put_node, put_pool, put_slot}
use Rattle.core_cells.specs.Names.{is_node, is_pool, is_slot, names_node, names_pool, names_slot, AreThere, CellMap, done_by, on_named}
use Rattle.core_cells.proofs.CellLemmas.{cells_by}

-- ---- one cell
at_put : {A : Type 0} (f : A → A) (g : ℕ → Option A) (k m : ℕ) (w : A) → g k ≡ Some w → cond (m == k) (Some (f w)) (g m) ≡ cond ((k == m) || false) (option_map f (g m)) (g m)
at_put f g k m w is = ap (λ b. cond b (Some (f w)) (g m)) (eq_flip m k) ∙ by (k == m) refl
  where
    by : (t : Bool) → (k == m) ≡ t → cond (k == m) (Some (f w)) (g m) ≡ cond ((k == m) || false) (option_map f (g m)) (g m)
    by true e = ap (λ t. cond t (Some (f w)) (g m)) e ∙ ap (option_map f) (sym is ∙ ap g (eq_of k m e)) ∙ sym (ap (λ t. cond (t || false) (option_map f (g m)) (g m)) e)
    by false e = ap (λ t. cond t (Some (f w)) (g m)) e ∙ sym (ap (λ t. cond (t || false) (option_map f (g m)) (g m)) e)

module _ (f : CellMap) (cs new : Cells) (name : CellName) where
  pub node_on : (k : ℕ) (w v : NodeValues) → name ≡ Node k → cs.node k ≡ Some w → v ≡ f.node w → new ≡ put_node cs k v → new ≡ on_named f (Some name ∷ []) cs
  unfolding put_node on_named
  node_on k w v is at made put =
      put ∙ ap (put_node cs k) made ∙ cells_by (put_node cs k (f.node w)) (on_named f (Some (Node k) ∷ []) cs) (λ m. at_put f.node cs.node k m w at) refl (λ t. refl)
      ∙ ap (λ (n : CellName). on_named f (Some n ∷ []) cs) (sym is)

  pub pool_on : (w v : PoolPair) → name ≡ Pool → cs.pool ≡ Some w → v ≡ f.pool w → new ≡ put_pool cs v → new ≡ on_named f (Some name ∷ []) cs
  unfolding put_pool on_named
  pool_on w v is at made put =
      put ∙ ap (put_pool cs) made ∙ cells_by (put_pool cs (f.pool w)) (on_named f (Some Pool ∷ []) cs) (λ m. refl) (ap (option_map f.pool) (sym at)) (λ t. refl)
      ∙ ap (λ (n : CellName). on_named f (Some n ∷ []) cs) (sym is)

  pub slot_on : (k : ℕ) (w v : SlotCell) → name ≡ Slot k → cs.slot k ≡ Some w → v ≡ f.slot w → new ≡ put_slot cs k v → new ≡ on_named f (Some name ∷ []) cs
  unfolding put_slot on_named
  slot_on k w v is at made put =
      put ∙ ap (put_slot cs k) made ∙ cells_by (put_slot cs k (f.slot w)) (on_named f (Some (Slot k) ∷ []) cs) (λ m. refl) refl (λ t. at_put f.slot cs.slot k t w at)
      ∙ ap (λ (n : CellName). on_named f (Some n ∷ []) cs) (sym is)

-- ---- one cell before the others
twice : {A : Type 0} (f : A → A) → ((w : A) → f (f w) ≡ f w) → (a r : Bool) (o : Option A)
    → cond r (option_map f (cond (a || false) (option_map f o) o)) (cond (a || false) (option_map f o) o) ≡ cond (a || r) (option_map f o) o
twice f again false r o = refl
twice f again true false o = refl
twice f again true true None = refl
twice f again true true (Some w) = ap Some (again w)

node_again : (e : Ending) (w : NodeValues) → (done_by e).node ((done_by e).node w) ≡ (done_by e).node w
node_again Settle w = refl
node_again Forget w = refl

pool_again : (e : Ending) (w : PoolPair) → (done_by e).pool ((done_by e).pool w) ≡ (done_by e).pool w
pool_again Settle w = refl
pool_again Forget w = refl

slot_again : (e : Ending) (w : SlotCell) → (done_by e).slot ((done_by e).slot w) ≡ (done_by e).slot w
slot_again Settle w = refl
slot_again Forget w = refl

stays : {A : Type 0} (f : A → A) (b : Bool) (o : Option A) → IsSome o → IsSome (cond b (option_map f o) o)
stays f b None h = absurd (clash (sym h))
stays f true (Some w) h = h
stays f false (Some w) h = h

pub node_kept : (e : Ending) (names : List (Option CellName)) (cs : Cells) (m : ℕ) → IsSome (cs.node m) → IsSome ((on_named (done_by e) names cs).node m)
unfolding on_named
node_kept e names cs m has = stays (done_by e).node (names_node names m) (cs.node m) has

second : (a b : Bool) → b ≡ true → (a || b) ≡ true
second a b e = ap (λ c. a || c) e ∙ or_true a

first : (a b : Bool) → (a || false) ≡ true → (a || b) ≡ true
first true b e = refl
first false b e = absurd (clash (sym e))

module _ (e : Ending) (o : Option CellName) (rest : List (Option CellName)) (cs : Cells) where
  pub one_more : on_named (done_by e) rest (on_named (done_by e) (o ∷ []) cs) ≡ on_named (done_by e) (o ∷ rest) cs
  unfolding on_named
  one_more = cells_by (on_named (done_by e) rest (on_named (done_by e) (o ∷ []) cs)) (on_named (done_by e) (o ∷ rest) cs)
      (λ m. twice (done_by e).node (node_again e) (is_node m o) (names_node rest m) (cs.node m))
      (twice (done_by e).pool (pool_again e) (is_pool o) (names_pool rest) cs.pool)
      (λ t. twice (done_by e).slot (slot_again e) (is_slot t o) (names_slot rest t) (cs.slot t))

  pub first_there : AreThere cs (o ∷ rest) → AreThere cs (o ∷ [])
  first_there all = record {
    node = λ m h. all.node m (first (is_node m o) (names_node rest m) h);
    pool = λ h. all.pool (first (is_pool o) (names_pool rest) h);
    slot = λ t h. all.slot t (first (is_slot t o) (names_slot rest t) h);
  }

  pub left_there : AreThere cs (o ∷ rest) → AreThere (on_named (done_by e) (o ∷ []) cs) rest
  unfolding on_named
  left_there all = record {
    node = λ m h. stays (done_by e).node (is_node m o || false) (cs.node m) (all.node m (second (is_node m o) (names_node rest m) h));
    pool = λ h. stays (done_by e).pool (is_pool o || false) cs.pool (all.pool (second (is_pool o) (names_pool rest) h));
    slot = λ t h. stays (done_by e).slot (is_slot t o || false) (cs.slot t) (all.slot t (second (is_slot t o) (names_slot rest t) h));
  }

-- ---- the names from an index on
split_at : (xs : List (Option CellName)) (i : ℕ) (o : Option CellName) → i < length xs → get_or xs i None ≡ o → drop i xs ≡ o ∷ drop (i + 1) xs
split_at xs i o low is = drop-cons xs i None low ∙ ap (λ x. x ∷ drop (suc i) xs) is ∙ ap (λ k. o ∷ drop k xs) (suc-eq-add-one i)

nothing_named : (f : CellMap) (cs : Cells) → cs ≡ on_named f (None ∷ []) cs
unfolding on_named
nothing_named f cs = refl

abbrev pub IsLeft : Ending → List (Option CellName) → Cells → Cells → Type 0
IsLeft e rest end cs = AreThere cs rest × (on_named (done_by e) rest cs ≡ end)

module _ (e : Ending) (xs : List (Option CellName)) (i : ℕ) (low : i < length xs) (end cs new : Cells) (left : IsLeft e (drop i xs) end cs) where
  by_split : (o : Option CellName) → drop i xs ≡ o ∷ drop (i + 1) xs → new ≡ on_named (done_by e) (o ∷ []) cs → IsLeft e (drop (i + 1) xs) end new
  by_split o split is = let rest = drop (i + 1) xs in (
    subst (λ (c : Cells). AreThere c rest) (sym is) (left_there e o rest cs (subst (λ ys. AreThere cs ys) split left.0)),
    ap (on_named (done_by e) rest) is ∙ one_more e o rest cs ∙ ap (λ ys. on_named (done_by e) ys cs) (sym split) ∙ left.1,
  )

  pub some_step : (n : CellName) → get_or xs i None ≡ Some n → new ≡ on_named (done_by e) (Some n ∷ []) cs → IsLeft e (drop (i + 1) xs) end new
  some_step n at is = by_split (Some n) (split_at xs i (Some n) low at) is

  pub none_step : get_or xs i None ≡ None → new ≡ cs → IsLeft e (drop (i + 1) xs) end new
  none_step at is = by_split None (split_at xs i None low at) (is ∙ nothing_named (done_by e) cs)

pub none_left : (e : Ending) (xs : List (Option CellName)) (i : ℕ) (end cs : Cells) → length xs ≤ i → IsLeft e (drop i xs) end cs → cs ≡ end
unfolding on_named
none_left e xs i end cs past left = sym (ap (λ ys. on_named (done_by e) ys cs) (drop_all i xs past)) ∙ left.1
